-- Behind what is left of the node, the links that were taken from its end make it up.
use Rattle.std.proofs.Common.{◌≡◌, reverse}
use Rattle.dpl_lowered.specs.LoweredExpressions.{Times}
use Rattle.dpl_typed.proofs.spine.flat_node.Given as goal

abbrev pub invariant-loop-left : goal.invariant-loop-left
invariant-loop-left g l =
    let s = g.S.Spine in
    (m : Times) → s.behind m (s.view m l.first) (reverse l.links.items) ≡ s.view m l.e

abbrev pub decreases-loop-left : goal.decreases-loop-left
decreases-loop-left g l = g.S.Spine.size l.first
