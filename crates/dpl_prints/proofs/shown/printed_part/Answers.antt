-- What stands as a right side stands as an argument.
use Rattle.dpl_tree.specs.View.{expr_view}
use Rattle.dpl_typed.proofs.Standing.{if_ok}
use Rattle.dpl_prints.proofs.Showing.{side-argument}
use Rattle.dpl_prints.proofs.shown.printed_part.Goals as goal

pub returns-else-in_task-clause-node : goal.returns-else-in_task-clause-node
returns-else-in_task-clause-node c =
    if_ok c.side.result (λ p h. λ simple near. side-argument c.args.scopes.now (expr_view c.args.e.now) p.found (h simple near)) c.side.ensures.node
