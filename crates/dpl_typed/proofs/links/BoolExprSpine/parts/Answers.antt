-- A list of one link is that link.
use Rattle.std.proofs.Common.{sym, ap, ◌∙◌}
use Rattle.dpl_lowered.specs.Shapes.{grouped}
use Rattle.dpl_nodes.specs.Typed.{truth_view, truth_links_of}
use Rattle.dpl_nodes.proofs.Chains.{truth_view-chain}
use Rattle.dpl_typed.proofs.links.BoolExprSpine.parts.Goals as goal

pub returns-in-Some-clause-same : goal.returns-in-Some-clause-same
returns-in-Some-clause-same c m more =
    let i = c.in-Chain in
    sym (ap (λ e. grouped e (truth_links_of more))
    (ap truth_view i.is ∙ truth_view-chain i.left i.links ∙ ap (λ ls. grouped (truth_view i.left.now) (truth_links_of ls)) c.in-Some.ensures))
