-- What a bracket holds that begins where a map starts, as it is spelled.
-- The parser alone has such values: they become a tuple or the base of an expression.
use Rattle.std.specs.Prelude.{map}
use Rattle.dpl_tree.specs.View.{expr_view, item_view, next_expr_view}
use Rattle.dpl_statements.specs.declared.start.Contents.{Contents as InsideNode}
use Rattle.dpl_statements.specs.declared.start.Contents.TheVariants as node
use Rattle.dpl_spelling.specs.Nested.{Inside, OneItem, Tuple}

abbrev pub inside_view : InsideNode → Inside
inside_view (node.Item x) = OneItem (item_view x)
inside_view (node.Tuple first others) = Tuple (record { first = expr_view first.now; others = map next_expr_view others.now })
