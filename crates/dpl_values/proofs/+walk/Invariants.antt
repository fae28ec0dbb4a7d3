-- A walk goes down a tree. Of one tree a reduction comes before what whoever walks does of it, that before the function that gives its
-- items, that before an operand, and an operand before the walk itself.
use denote.Param.Weighed.{most}
use Rattle.std.proofs.Common.{◌≡◌, ◌+◌, ◌*◌, max, drop, Some, None, Ok}
use Rattle.dpl_language.specs.Values.{Int, Domain}
use Rattle.dpl_language.specs.Expressions.{value_of}
use Rattle.dpl_lowered.specs.Shapes.{grouped, stacked_on}
use Rattle.dpl_lowered.specs.LoweredExpressions.{EachTurn}
use Rattle.dpl_memory.specs.Memory.{in_memory}
use Rattle.dpl_nodes.specs.Typed.{int_view, int_links_of, range_item, range_view, range_cuts_of, bracketed, domain_view, domain_posts_of, promoted_int, promoted_int_links_of}
use Rattle.dpl_nodes.specs.Chains.{IsSoFar, IsPostedSoFar}
use Rattle.dpl_nodes.specs.declared.tree.PromotedInt.{size-PromotedInt}
use Rattle.dpl_nodes.specs.declared.tree.PromotedIntLink.{size-PromotedIntLink}
use Rattle.dpl_nodes.specs.declared.tree.IntExpr.{size-IntExpr}
use Rattle.dpl_nodes.specs.declared.tree.IntLink.{size-IntLink}
use Rattle.dpl_nodes.specs.declared.tree.RangeExpr.{size-RangeExpr}
use Rattle.dpl_nodes.specs.declared.tree.RangeCut.{size-RangeCut}
use Rattle.dpl_nodes.specs.declared.tree.DomainExpr.{size-DomainExpr}
use Rattle.dpl_nodes.specs.declared.tree.DomainPost.{size-DomainPost}
use Rattle.dpl_frame.specs.Faults.{as_range}
use Rattle.dpl_values.proofs.+walk.Given as goal

abbrev pub decreases-expression::coordinate_value : goal.decreases-expression::coordinate_value
decreases-expression::coordinate_value g l = 5 * goal.size-expression::coordinate_value g l + 1

abbrev pub decreases-expression::cut : goal.decreases-expression::cut
decreases-expression::cut g l = 5 * goal.size-expression::cut g l

abbrev pub decreases-expression::domain_value : goal.decreases-expression::domain_value
decreases-expression::domain_value g l = 5 * goal.size-expression::domain_value g l

abbrev pub decreases-expression::element : goal.decreases-expression::element
decreases-expression::element g l = 5 * goal.size-expression::element g l

abbrev pub decreases-expression::int_value : goal.decreases-expression::int_value
decreases-expression::int_value g l = 5 * goal.size-expression::int_value g l

abbrev pub decreases-expression::literal : goal.decreases-expression::literal
decreases-expression::literal g l = 5 * goal.size-expression::literal g l

abbrev pub decreases-expression::of_domain : goal.decreases-expression::of_domain
decreases-expression::of_domain g l = 5 * goal.size-expression::of_domain g l + 1

abbrev pub decreases-expression::of_range : goal.decreases-expression::of_range
decreases-expression::of_range g l = 5 * goal.size-expression::of_range g l + 1

abbrev pub decreases-expression::operand : goal.decreases-expression::operand
decreases-expression::operand g l = 5 * goal.size-expression::operand g l + 1

abbrev pub decreases-expression::range_value : goal.decreases-expression::range_value
decreases-expression::range_value g l = 5 * goal.size-expression::range_value g l

abbrev pub decreases-expression::stridden : goal.decreases-expression::stridden
decreases-expression::stridden g l = 5 * goal.size-expression::stridden g l

abbrev pub decreases-promoted::operand : goal.decreases-promoted::operand
decreases-promoted::operand g l = 5 * goal.size-promoted::operand g l + 1

abbrev pub decreases-promoted::promoted_int_value : goal.decreases-promoted::promoted_int_value
decreases-promoted::promoted_int_value g l = 5 * goal.size-promoted::promoted_int_value g l

abbrev pub decreases-reduction::reduced_int : goal.decreases-reduction::reduced_int
decreases-reduction::reduced_int g l = 5 * goal.size-reduction::reduced_int g l + 4

abbrev pub decreases-reduction::reduced_int_here : goal.decreases-reduction::reduced_int_here
decreases-reduction::reduced_int_here g l = 5 * goal.size-reduction::reduced_int_here g l + 3

abbrev pub decreases-reduction::reduced_int_here-item_at : goal.decreases-reduction::reduced_int_here-item_at
decreases-reduction::reduced_int_here-item_at g l = 5 * size-PromotedInt l.e.now + 2

abbrev pub decreases-expression::linked : goal.decreases-expression::linked
decreases-expression::linked g l = 5 * goal.size-expression::linked g l

abbrev pub decreases-expression::chained : goal.decreases-expression::chained
decreases-expression::chained g l = 5 * max (size-IntExpr l.first.now) (most size-IntLink l.links.now) + 2

-- the int so far is that of the chain's first operands
abbrev pub invariant-expression::chained-loop-link : goal.invariant-expression::chained-loop-link
invariant-expression::chained-loop-link g l =
    IsSoFar (grouped (int_view l.first) (int_links_of l.links)) (int_links_of (drop l.link-index l.links))
    (λ a. value_of l.frame.limits in_memory a None l.frame.memory ≡ Ok (Int l.value))

abbrev pub decreases-expression::narrowed : goal.decreases-expression::narrowed
decreases-expression::narrowed g l = 5 * size-RangeExpr l.cut.now + 1

abbrev pub decreases-expression::slices : goal.decreases-expression::slices
decreases-expression::slices g l = 5 * max (max (size-RangeExpr l.r.now) (size-RangeExpr l.cut.now)) (most size-RangeCut l.cuts.now) + 2

-- the range so far is that of the first slices
abbrev pub invariant-expression::slices-loop-cut : goal.invariant-expression::slices-loop-cut
invariant-expression::slices-loop-cut g l =
    IsPostedSoFar (stacked_on (bracketed (range_view l.r) (range_item l.cut)) (range_cuts_of l.cuts)) (range_cuts_of (drop l.cut-index l.cuts))
    (λ a. value_of l.frame.limits in_memory a None l.frame.memory ≡ Ok (as_range l.range))

abbrev pub decreases-expression::made : goal.decreases-expression::made
decreases-expression::made g l = 5 * size-DomainPost l.post.now

abbrev pub decreases-expression::posted : goal.decreases-expression::posted
decreases-expression::posted g l = 5 * max (size-DomainExpr l.d.now) (most size-DomainPost l.posts.now) + 2

-- the domain so far is what the first posts made
abbrev pub invariant-expression::posted-loop-post : goal.invariant-expression::posted-loop-post
invariant-expression::posted-loop-post g l =
    IsPostedSoFar (stacked_on (domain_view l.d) (domain_posts_of l.posts)) (domain_posts_of (drop l.post-index l.posts))
    (λ a. value_of l.frame.limits in_memory a None l.frame.memory ≡ Ok (Domain l.domain))

abbrev pub decreases-promoted::linked : goal.decreases-promoted::linked
decreases-promoted::linked g l = 5 * size-PromotedIntLink l.link.now

abbrev pub decreases-promoted::chained : goal.decreases-promoted::chained
decreases-promoted::chained g l = 5 * max (size-PromotedInt l.first.now) (most size-PromotedIntLink l.links.now) + 2

abbrev pub invariant-promoted::chained-loop-link : goal.invariant-promoted::chained-loop-link
invariant-promoted::chained-loop-link g l =
    IsSoFar (grouped (promoted_int EachTurn l.first) (promoted_int_links_of EachTurn l.links)) (promoted_int_links_of EachTurn (drop l.link-index l.links))
    (λ a. value_of l.frame.limits in_memory a (Some l.index) l.frame.memory ≡ Ok (Int l.value))
