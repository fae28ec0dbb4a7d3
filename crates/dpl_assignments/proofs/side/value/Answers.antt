-- An item that is no cell's read stands as it is where it is a right side.
use Rattle.dpl_tree.specs.View.{item_view}
use Rattle.dpl_typed.proofs.Standing.{if_ok}
use Rattle.dpl_bound.proofs.Sides.{stands_side}
use Rattle.dpl_assignments.proofs.side.value.Goals as goal

pub returns-in_default-clause-node : goal.returns-in_default-clause-node
returns-in_default-clause-node c =
    if_ok c.item.result (λ r h. λ simple near. stands_side c.args.scopes.now (item_view c.args.written.now) r (h simple near)) c.item.ensures.node
