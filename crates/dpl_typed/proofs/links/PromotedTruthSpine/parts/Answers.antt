-- A list of one link is that link.
use Rattle.std.proofs.Common.{sym, ap, ◌∙◌}
use Rattle.dpl_lowered.specs.Shapes.{grouped}
use Rattle.dpl_nodes.specs.Typed.{promoted_truth, promoted_truth_links_of}
use Rattle.dpl_nodes.proofs.Chains.{promoted_truth-chain}
use Rattle.dpl_typed.proofs.links.PromotedTruthSpine.parts.Goals as goal

pub returns-in-Some-clause-same : goal.returns-in-Some-clause-same
returns-in-Some-clause-same c m more =
    let i = c.in-Chain in
    sym (ap (λ e. grouped e (promoted_truth_links_of m more))
    (ap (promoted_truth m) i.is ∙ promoted_truth-chain m i.left i.links ∙ ap (λ ls. grouped (promoted_truth m i.left.now) (promoted_truth_links_of m ls)) c.in-Some.ensures))
