-- A head that breaks no rule runs over what was found.
use Rattle.dpl_scopes.specs.Types.{of_type}
use Rattle.dpl_tree.specs.View.{item_view}
use Rattle.dpl_tree.specs.Statements.{variables_view}
use Rattle.dpl_heads.specs.Told.{word_view}
use Rattle.dpl_heads.proofs.Heads.{head-made}
use Rattle.dpl_heads.proofs.head.head.Goals as goal

pub returns-clause-node : goal.returns-clause-node
returns-clause-node c =
    head-made c.args.scopes.now (word_view c.args.word) (variables_view c.args.variables.now) (item_view c.args.written.now) c.in-Ok.found (of_type c.type_found-t.result) (of_type c.variable_type-variable_type.result)
    c.iterated-over.result c.args.first.now c.over.new.first c.header.new.first c.in-Ok.ensures.told c.type_found-t.ensures c.header.ensures c.variable_type-variable_type.ensures c.iterated-over.ensures c.in-Ok.ensures.node
