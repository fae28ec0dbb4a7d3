-- What breaks no rule is printed.
use Rattle.dpl_tree.specs.View.{expr_view}
use Rattle.dpl_prints.proofs.Unbroken.{value-made}
use Rattle.dpl_prints.proofs.shown.value.Goals as goal

pub returns-clause-node : goal.returns-clause-node
returns-clause-node c = λ none known simple near.
    value-made c.args.scopes.now c.args.in_task (expr_view c.args.e.now) c.in-Ok.part c.printed_want.result c.shown.result c.args.first.now c.printed_part.new.first c.wanted.new.first c.in-Ok.ensures.told.0
    c.in-Ok.ensures.told.1 c.printed_want.ensures c.wanted.ensures.1 c.shown.ensures none known simple (c.in-Ok.ensures.node simple near)
