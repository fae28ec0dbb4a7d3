-- The ranges are within their limits, so no tuple of their members comes twice.
-- These are the answers to the goals of `each_once`.
use Rattle.std.proofs.Common.{length, sym, subst}
use Rattle.dpl_sets.specs.Indices.{indices}
use Rattle.dpl_array.specs.Rows.{IsDistinct}
use Rattle.dpl_array.proofs.DistinctLemmas.{distinct-indices}
use Rattle.dpl_array.proofs.place.each_once.Goals as goal

pub returns : goal.returns
returns c = subst (λ ranges. IsDistinct (indices ranges)) (sym c.ranges-outer.ensures.ranges) (distinct-indices (length c.args.domain.now) _ _ _ c.size.ensures.limits c.size-2.ensures.limits c.size-3.ensures.limits)
