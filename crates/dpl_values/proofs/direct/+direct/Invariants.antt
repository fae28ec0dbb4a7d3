-- An int goes down a tree: an element's index comes between a node and its coordinates, and a chain and its links between a node and its operands.
use denote.Param.Weighed.{most}
use Rattle.std.proofs.Common.{◌≡◌, ◌+◌, ◌*◌, max, true, drop, None, Ok}
use Rattle.dpl_language.specs.Values.{Int}
use Rattle.dpl_language.specs.Expressions.{value_of}
use Rattle.dpl_lowered.specs.Shapes.{grouped}
use Rattle.dpl_memory.specs.Memory.{in_memory}
use Rattle.dpl_nodes.specs.declared.tree.IntExpr.{size-IntExpr}
use Rattle.dpl_nodes.specs.declared.tree.IntLink.{size-IntLink}
use Rattle.dpl_nodes.specs.declared.tree.IndexExpr.{size-IndexExpr}
use Rattle.dpl_nodes.specs.Typed.{int_view, int_links_of}
use Rattle.dpl_nodes.specs.Chains.{IsSoFar}
use Rattle.dpl_values.proofs.direct.+direct.Given as goal

abbrev pub decreases-number : goal.decreases-number
decreases-number g l = 3 * size-IntExpr l.e.now + 1

abbrev pub decreases-element : goal.decreases-element
decreases-element g l = 3 * size-IndexExpr l.t.now

abbrev pub decreases-linked : goal.decreases-linked
decreases-linked g l = 3 * size-IntLink l.link.now

abbrev pub decreases-chained : goal.decreases-chained
decreases-chained g l = 3 * max (size-IntExpr l.first.now) (most size-IntLink l.links.now) + 2

abbrev pub decreases-walked_number : goal.decreases-walked_number
decreases-walked_number g l = 3 * size-IntExpr l.e.now

-- where all has been found, the int so far is that of the chain's first operands
abbrev pub invariant-chained-loop-link : goal.invariant-chained-loop-link
invariant-chained-loop-link g l =
    (l.found ≡ true → l.fn.found ≡ true)
    × (l.found ≡ true → IsSoFar (grouped (int_view l.first) (int_links_of l.links)) (int_links_of (drop l.link-index l.links))
    (λ a. value_of l.frame.limits in_memory a None l.frame.memory ≡ Ok (Int l.value)))
