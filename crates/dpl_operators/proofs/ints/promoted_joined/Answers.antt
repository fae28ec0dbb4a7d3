-- The chain's list has the one operator.
use Rattle.std.proofs.Common.{ap, ◌∙◌}
use Rattle.dpl_lowered.specs.Shapes.{two, grouped}
use Rattle.dpl_nodes.specs.declared.tree.PromotedInt.{Chain}
use Rattle.dpl_nodes.specs.Typed.{int_infix, int_place, promoted_int, promoted_int_links_of}
use Rattle.dpl_nodes.proofs.Chains.{promoted_int-chain}
use Rattle.dpl_typed.proofs.Standing.{if_ok, stands-same}
use Rattle.dpl_operators.proofs.ints.promoted_joined.Goals as goal

pub returns-in-Ok-clause-node : goal.returns-in-Ok-clause-node
returns-in-Ok-clause-node c =
    let a = c.args in
    let links = c.in-Ok.links in
    if_ok c.ints.result
    (λ r. stands-same r (λ m. promoted_int m (Chain a.left links))
    (λ m. two (promoted_int m a.left.now) (int_place a.op) (int_infix a.op) (promoted_int m a.right.now))
    (λ m. promoted_int-chain m a.left links ∙ ap (λ ls. grouped (promoted_int m a.left.now) (promoted_int_links_of m ls)) c.in-Ok.ensures))
    c.ints.ensures.node
