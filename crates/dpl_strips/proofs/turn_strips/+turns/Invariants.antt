-- A strip goes down a tree: the functions of an operator come between a node and its operands.
use denote.Param.Weighed.{most}
use Rattle.std.proofs.Common.{◌≡◌, ◌+◌, ◌*◌, max, map, drop, None}
use Rattle.dpl_language.specs.Expressions.{value_of}
use Rattle.dpl_lowered.specs.Shapes.{grouped}
use Rattle.dpl_memory.specs.Memory.{in_memory}
use Rattle.dpl_nodes.specs.Typed.{int_view, int_links_of}
use Rattle.dpl_strips.specs.Strips.{written, HoldsInTurns}
use Rattle.dpl_nodes.specs.Chains.{IsSoFar}
use Rattle.dpl_nodes.specs.declared.tree.IntExpr.{size-IntExpr}
use Rattle.dpl_nodes.specs.declared.tree.IntLink.{size-IntLink}
use Rattle.dpl_strips.proofs.turn_strips.+turns.Given as goal

abbrev pub decreases-join : goal.decreases-join
decreases-join g l = 3 * size-IntExpr l.b.now + 2

abbrev pub decreases-join_strip : goal.decreases-join_strip
decreases-join_strip g l = 3 * size-IntExpr l.b.now + 1

abbrev pub decreases-linked : goal.decreases-linked
decreases-linked g l = 3 * size-IntLink l.link.now

abbrev pub decreases-chained : goal.decreases-chained
decreases-chained g l = 3 * max (size-IntExpr l.first.now) (most size-IntLink l.links.now) + 1

abbrev pub decreases-dividends : goal.decreases-dividends
decreases-dividends g l = 3 * size-IntExpr l.a.now + 1

abbrev pub decreases-negatives : goal.decreases-negatives
decreases-negatives g l = 3 * size-IntExpr l.e.now + 1

abbrev pub decreases-turn_ints : goal.decreases-turn_ints
decreases-turn_ints g l = 3 * size-IntExpr l.e.now

-- the ints of the strip are those of the chain so far
abbrev pub invariant-chained-loop-link : goal.invariant-chained-loop-link
invariant-chained-loop-link g l =
    (l.strip.row ≡ l.initial.strip.row)
    × IsSoFar (grouped (int_view l.first) (int_links_of l.links)) (int_links_of (drop l.link-index l.links))
    (λ a. HoldsInTurns l.names (map written l.targets) (λ u. value_of l.frame.limits in_memory a None u) l.frame.memory l.strip)
