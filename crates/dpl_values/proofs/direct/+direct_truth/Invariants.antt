-- A truth value goes down a tree: a chain and its links come between a node and its operands.
use denote.Param.Weighed.{most}
use Rattle.std.proofs.Common.{◌≡◌, ◌+◌, ◌*◌, max, true, drop, None, Ok}
use Rattle.dpl_language.specs.Values.{Truth}
use Rattle.dpl_language.specs.Expressions.{value_of}
use Rattle.dpl_lowered.specs.Shapes.{grouped}
use Rattle.dpl_memory.specs.Memory.{in_memory}
use Rattle.dpl_nodes.specs.declared.tree.BoolExpr.{size-BoolExpr}
use Rattle.dpl_nodes.specs.declared.tree.TruthLink.{size-TruthLink}
use Rattle.dpl_nodes.specs.Typed.{truth_view, truth_links_of}
use Rattle.dpl_nodes.specs.Chains.{IsSoFar}
use Rattle.dpl_values.proofs.direct.+direct_truth.Given as goal

abbrev pub decreases-truth : goal.decreases-truth
decreases-truth g l = 3 * size-BoolExpr l.e.now + 1

abbrev pub decreases-truth_linked : goal.decreases-truth_linked
decreases-truth_linked g l = 3 * size-TruthLink l.link.now

abbrev pub decreases-truth_chained : goal.decreases-truth_chained
decreases-truth_chained g l = 3 * max (size-BoolExpr l.first.now) (most size-TruthLink l.links.now) + 2

abbrev pub decreases-walked_truth : goal.decreases-walked_truth
decreases-walked_truth g l = 3 * size-BoolExpr l.e.now

-- where all has been found, the truth value so far is that of the chain's first operands
abbrev pub invariant-truth_chained-loop-link : goal.invariant-truth_chained-loop-link
invariant-truth_chained-loop-link g l =
    (l.found ≡ true → l.fn.found ≡ true)
    × (l.found ≡ true → IsSoFar (grouped (truth_view l.first) (truth_links_of l.links)) (truth_links_of (drop l.link-index l.links))
    (λ a. value_of l.frame.limits in_memory a None l.frame.memory ≡ Ok (Truth l.value)))
