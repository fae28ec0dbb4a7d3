-- A walk goes down a tree. Of one tree a reduction comes before what whoever walks does of it, that before the function that gives its
-- items, and that before the walk itself.
use denote.Param.Weighed.{most}
use Rattle.std.proofs.Common.{◌≡◌, ◌+◌, ◌*◌, max, drop, Some, None, Ok}
use Rattle.dpl_language.specs.Values.{Truth}
use Rattle.dpl_language.specs.Expressions.{value_of}
use Rattle.dpl_lowered.specs.Shapes.{grouped}
use Rattle.dpl_lowered.specs.LoweredExpressions.{EachTurn}
use Rattle.dpl_memory.specs.Memory.{in_memory}
use Rattle.dpl_nodes.specs.Typed.{truth_view, truth_links_of, promoted_truth, promoted_truth_links_of}
use Rattle.dpl_nodes.specs.Chains.{IsSoFar}
use Rattle.dpl_nodes.specs.declared.tree.BoolExpr.{size-BoolExpr}
use Rattle.dpl_nodes.specs.declared.tree.TruthLink.{size-TruthLink}
use Rattle.dpl_nodes.specs.declared.tree.PromotedTruth.{size-PromotedTruth}
use Rattle.dpl_nodes.specs.declared.tree.PromotedTruthLink.{size-PromotedTruthLink}
use Rattle.dpl_values.proofs.+truth.Given as goal

abbrev pub decreases-expression::truth_value : goal.decreases-expression::truth_value
decreases-expression::truth_value g l = 5 * goal.size-expression::truth_value g l

abbrev pub decreases-promoted::promoted_truth_value : goal.decreases-promoted::promoted_truth_value
decreases-promoted::promoted_truth_value g l = 5 * goal.size-promoted::promoted_truth_value g l

abbrev pub decreases-reduction::reduced_truth_here : goal.decreases-reduction::reduced_truth_here
decreases-reduction::reduced_truth_here g l = 5 * goal.size-reduction::reduced_truth_here g l + 3

abbrev pub decreases-reduction::reduced_truth_here-item_at : goal.decreases-reduction::reduced_truth_here-item_at
decreases-reduction::reduced_truth_here-item_at g l = 5 * size-PromotedTruth l.e.now + 2

abbrev pub decreases-reduction::reduced_truth : goal.decreases-reduction::reduced_truth
decreases-reduction::reduced_truth g l = 5 * goal.size-reduction::reduced_truth g l + 4

abbrev pub decreases-expression::truth_linked : goal.decreases-expression::truth_linked
decreases-expression::truth_linked g l = 5 * size-TruthLink l.link.now

abbrev pub decreases-expression::truth_chained : goal.decreases-expression::truth_chained
decreases-expression::truth_chained g l = 5 * max (size-BoolExpr l.first.now) (most size-TruthLink l.links.now) + 2

-- the truth value so far is that of the chain's first operands
abbrev pub invariant-expression::truth_chained-loop-link : goal.invariant-expression::truth_chained-loop-link
invariant-expression::truth_chained-loop-link g l =
    IsSoFar (grouped (truth_view l.first) (truth_links_of l.links)) (truth_links_of (drop l.link-index l.links))
    (λ a. value_of l.frame.limits in_memory a None l.frame.memory ≡ Ok (Truth l.value))

abbrev pub decreases-promoted::truth_linked : goal.decreases-promoted::truth_linked
decreases-promoted::truth_linked g l = 5 * size-PromotedTruthLink l.link.now

abbrev pub decreases-promoted::truth_chained : goal.decreases-promoted::truth_chained
decreases-promoted::truth_chained g l = 5 * max (size-PromotedTruth l.first.now) (most size-PromotedTruthLink l.links.now) + 2

abbrev pub invariant-promoted::truth_chained-loop-link : goal.invariant-promoted::truth_chained-loop-link
invariant-promoted::truth_chained-loop-link g l =
    IsSoFar (grouped (promoted_truth EachTurn l.first) (promoted_truth_links_of EachTurn l.links)) (promoted_truth_links_of EachTurn (drop l.link-index l.links))
    (λ a. value_of l.frame.limits in_memory a (Some l.index) l.frame.memory ≡ Ok (Truth l.value))
