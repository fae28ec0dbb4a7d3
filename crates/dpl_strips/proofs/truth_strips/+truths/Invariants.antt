-- A strip of truth values goes down a tree: the functions of an operator come between a node and its operands.
use denote.Param.Weighed.{most}
use Rattle.std.proofs.Common.{◌≡◌, ◌+◌, ◌*◌, max, map, drop, None}
use Rattle.dpl_language.specs.Expressions.{value_of}
use Rattle.dpl_lowered.specs.Shapes.{grouped}
use Rattle.dpl_memory.specs.Memory.{in_memory}
use Rattle.dpl_nodes.specs.Typed.{truth_view, truth_links_of}
use Rattle.dpl_nodes.specs.Chains.{IsSoFar}
use Rattle.dpl_nodes.specs.declared.tree.BoolExpr.{size-BoolExpr}
use Rattle.dpl_nodes.specs.declared.tree.TruthLink.{size-TruthLink}
use Rattle.dpl_strips.specs.Strips.{written}
use Rattle.dpl_strips.specs.Truths.{TruthsHoldInTurns}
use Rattle.dpl_strips.proofs.truth_strips.+truths.Given as goal

abbrev pub decreases-linked : goal.decreases-linked
decreases-linked g l = 2 * size-TruthLink l.link.now

abbrev pub decreases-chained : goal.decreases-chained
decreases-chained g l = 2 * max (size-BoolExpr l.first.now) (most size-TruthLink l.links.now) + 1

abbrev pub decreases-opposites : goal.decreases-opposites
decreases-opposites g l = 2 * size-BoolExpr l.e.now + 1

abbrev pub decreases-turn_truths : goal.decreases-turn_truths
decreases-turn_truths g l = 2 * size-BoolExpr l.e.now

-- the truth values of the strip are those of the chain so far
abbrev pub invariant-chained-loop-link : goal.invariant-chained-loop-link
invariant-chained-loop-link g l =
    (l.strip.row ≡ l.initial.strip.row)
    × IsSoFar (grouped (truth_view l.first) (truth_links_of l.links)) (truth_links_of (drop l.link-index l.links))
    (λ a. TruthsHoldInTurns l.names (map written l.targets) (λ u. value_of l.frame.limits in_memory a None u) l.frame.memory l.strip)
