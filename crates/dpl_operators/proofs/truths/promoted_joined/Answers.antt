-- The chain's list has the one operator.
use Rattle.std.proofs.Common.{ap, ◌∙◌}
use Rattle.dpl_lowered.specs.Shapes.{nowhere, two, grouped}
use Rattle.dpl_nodes.specs.declared.tree.PromotedTruth.{Chain}
use Rattle.dpl_nodes.specs.Typed.{junction_view, promoted_truth, promoted_truth_links_of}
use Rattle.dpl_nodes.proofs.Chains.{promoted_truth-chain}
use Rattle.dpl_typed.proofs.Standing.{if_ok, stands-same}
use Rattle.dpl_operators.proofs.truths.promoted_joined.Goals as goal

pub returns-in-Ok-clause-node : goal.returns-in-Ok-clause-node
returns-in-Ok-clause-node c =
    let a = c.args in
    let links = c.in-Ok.links in
    if_ok c.truths.result
    (λ r. stands-same r (λ m. promoted_truth m (Chain a.left links))
    (λ m. two (promoted_truth m a.left.now) nowhere (junction_view a.op) (promoted_truth m a.right.now))
    (λ m. promoted_truth-chain m a.left links ∙ ap (λ ls. grouped (promoted_truth m a.left.now) (promoted_truth_links_of m ls)) c.in-Ok.ensures))
    c.truths.ensures.node
