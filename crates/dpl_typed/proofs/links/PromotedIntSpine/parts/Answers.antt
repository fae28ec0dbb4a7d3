-- A list of one link is that link.
use Rattle.std.proofs.Common.{sym, ap, ◌∙◌}
use Rattle.dpl_lowered.specs.Shapes.{grouped}
use Rattle.dpl_nodes.specs.Typed.{promoted_int, promoted_int_links_of}
use Rattle.dpl_nodes.proofs.Chains.{promoted_int-chain}
use Rattle.dpl_typed.proofs.links.PromotedIntSpine.parts.Goals as goal

pub returns-in-Some-clause-same : goal.returns-in-Some-clause-same
returns-in-Some-clause-same c m more =
    let i = c.in-Chain in
    sym (ap (λ e. grouped e (promoted_int_links_of m more))
    (ap (promoted_int m) i.is ∙ promoted_int-chain m i.left i.links ∙ ap (λ ls. grouped (promoted_int m i.left.now) (promoted_int_links_of m ls)) c.in-Some.ensures))
