-- A strip goes down a tree: the functions of an operator come between a node and its operands.
use denote.Param.Weighed.{most}
use Rattle.std.proofs.Common.{◌≡◌, ◌+◌, ◌*◌, max, drop, Some}
use Rattle.dpl_language.specs.Expressions.{value_of}
use Rattle.dpl_lowered.specs.LoweredExpressions.{EachTurn}
use Rattle.dpl_lowered.specs.Shapes.{grouped}
use Rattle.dpl_memory.specs.Memory.{in_memory}
use Rattle.dpl_nodes.specs.Typed.{promoted_int, promoted_int_links_of}
use Rattle.dpl_nodes.specs.Chains.{IsSoFar}
use Rattle.dpl_nodes.specs.declared.tree.PromotedInt.{size-PromotedInt}
use Rattle.dpl_nodes.specs.declared.tree.PromotedIntLink.{size-PromotedIntLink}
use Rattle.dpl_strips.specs.Strips.{HoldsAtIndices}
use Rattle.dpl_strips.proofs.strip.+promoted.Given as goal

abbrev pub decreases-join : goal.decreases-join
decreases-join g l = 3 * size-PromotedInt l.b.now + 2

abbrev pub decreases-join_strip : goal.decreases-join_strip
decreases-join_strip g l = 3 * size-PromotedInt l.b.now + 1

abbrev pub decreases-linked : goal.decreases-linked
decreases-linked g l = 3 * size-PromotedIntLink l.link.now

abbrev pub decreases-chained : goal.decreases-chained
decreases-chained g l = 3 * max (size-PromotedInt l.first.now) (most size-PromotedIntLink l.links.now) + 1

abbrev pub decreases-negatives : goal.decreases-negatives
decreases-negatives g l = 3 * size-PromotedInt l.e.now + 1

abbrev pub decreases-promoted_ints : goal.decreases-promoted_ints
decreases-promoted_ints g l = 3 * size-PromotedInt l.e.now

-- the ints of the strip are those of the chain so far
abbrev pub invariant-chained-loop-link : goal.invariant-chained-loop-link
invariant-chained-loop-link g l =
    (l.strip.row ≡ l.initial.strip.row)
    × IsSoFar (grouped (promoted_int EachTurn l.first) (promoted_int_links_of EachTurn l.links)) (promoted_int_links_of EachTurn (drop l.link-index l.links))
    (λ a. HoldsAtIndices (λ i u. value_of l.frame.limits in_memory a (Some i) u) l.frame.memory l.strip)
