-- A pace goes down a tree: a chain and its links come between a node and its operands.
use denote.Param.Weighed.{most}
use Rattle.std.proofs.Common.{◌+◌, ◌*◌, max, map, drop}
use Rattle.dpl_lowered.specs.Shapes.{grouped}
use Rattle.dpl_nodes.specs.declared.tree.IntExpr.{size-IntExpr}
use Rattle.dpl_nodes.specs.declared.tree.IntLink.{size-IntLink}
use Rattle.dpl_nodes.specs.Typed.{int_view, int_links_of}
use Rattle.dpl_nodes.specs.Chains.{IsSoFar}
use Rattle.dpl_strips.specs.Strips.{FitsTurns, TreeGoesAt, written}
use Rattle.dpl_strips.proofs.pace.+paces.Given as goal

abbrev pub decreases-linked : goal.decreases-linked
decreases-linked g l = 2 * size-IntLink l.link.now

abbrev pub decreases-chained : goal.decreases-chained
decreases-chained g l = 2 * max (size-IntExpr l.first.now) (most size-IntLink l.links.now) + 1

abbrev pub decreases-pace_of : goal.decreases-pace_of
decreases-pace_of g l = 2 * size-IntExpr l.e.now

-- the chain's first operands go so
abbrev pub invariant-chained-loop-link : goal.invariant-chained-loop-link
invariant-chained-loop-link g l =
    FitsTurns l.row.step l.pace
    × IsSoFar (grouped (int_view l.first) (int_links_of l.links)) (int_links_of (drop l.link-index l.links))
    (λ a. TreeGoesAt l.frame.limits l.names (map written l.targets) l.row l.frame.memory a l.pace)
