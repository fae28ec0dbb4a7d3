-- The chain's list has the one operator.
use Rattle.std.proofs.Common.{ap, ◌∙◌}
use Rattle.dpl_lowered.specs.Shapes.{nowhere, two, grouped}
use Rattle.dpl_nodes.specs.declared.tree.BoolExpr.{Chain}
use Rattle.dpl_nodes.specs.Typed.{junction_view, truth_view, truth_links_of}
use Rattle.dpl_nodes.proofs.Chains.{truth_view-chain}
use Rattle.dpl_typed.proofs.Standing.{if_ok, stands-same}
use Rattle.dpl_operators.proofs.truths.joined.Goals as goal

pub returns-in-Ok-clause-node : goal.returns-in-Ok-clause-node
returns-in-Ok-clause-node c =
    let a = c.args in
    let links = c.in-Ok.links in
    if_ok c.truth.result
    (λ r. stands-same r (λ m. truth_view (Chain a.left links)) (λ m. two (truth_view a.left.now) nowhere (junction_view a.op) (truth_view a.right.now))
    (λ m. truth_view-chain a.left links ∙ ap (λ ls. grouped (truth_view a.left.now) (truth_links_of ls)) c.in-Ok.ensures))
    c.truth.ensures.node
