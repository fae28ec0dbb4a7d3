-- Forms of expressions that have a function of their own, and what their rules say of them.
-- What a form owes is what its parts owe, and its own.
use Rattle.std.specs.Prelude.{List, ◌++◌, Option}
use Rattle.dpl_syntax.specs.declared.place.Place.{Place}
use Rattle.dpl_syntax.specs.declared.refusal.Breach.{Breach}
use Rattle.dpl_language.specs.Tree.{ItemTree, RangeItem, PostTree, MethodTree}
use Rattle.dpl_language.specs.Names.{Text}
use Rattle.dpl_tree.specs.declared.expression.Range.{Range as RangeNode}
use Rattle.dpl_tree.specs.declared.expression.Link.{Link as LinkNode}
use Rattle.dpl_tree.specs.View.{expr_view, stride_view}
use Rattle.dpl_rules.specs.Types.{ValueType}
use Rattle.dpl_rules.specs.Verdicts.{Verdict, broken_by, with_type}
use Rattle.dpl_rules.specs.Sights.{Scopes}
use Rattle.dpl_rules.specs.Operators.{infix_verdict}
use Rattle.dpl_rules.specs.Expressions.{type_of, post_verdict, post_breaches, method_verdict, method_breaches}

-- a range that is written as an item
abbrev pub range_tree : RangeNode → ItemTree Text
range_tree r = RangeItem (expr_view r.low.now) r.at r.dots (expr_view r.high.now) (stride_view r.by)

-- what the operator of a further operand says
abbrev pub link_verdict : Scopes → Option ValueType → LinkNode → Verdict
link_verdict scopes t link = infix_verdict link.at link.op t (type_of scopes (expr_view link.right.now))

-- what a bracket or a method behind a value owes, its parts and its own
abbrev pub post_told : Scopes → Place → PostTree Text → Option ValueType → List Breach
post_told scopes last p t = post_breaches scopes p ++ broken_by (post_verdict scopes last p t)

-- what a method says of the value before it, and what it owes
abbrev pub called : Scopes → MethodTree Text → Option ValueType → Verdict
called scopes m t = with_type t (method_verdict scopes m)

abbrev pub called_told : Scopes → MethodTree Text → Option ValueType → List Breach
called_told scopes m t = method_breaches scopes m ++ broken_by (called scopes m t)
