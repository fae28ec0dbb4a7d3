-- Of the bounds of the range and these two, the nearer ones count.
use Rattle.std.proofs.Common.{◌≡◌, ◌&&◌, ap, sym, ◌∙◌, arith, pos, int_le, filter, FitsSigned, w64, rules}
use mir.Syntax.{w128}
use Rattle.std.specs.Int.{int_max, int_min}
use Rattle.std.proofs.lemmas.Int.{ints, clamps, to_z-of_z, fits_signed_from_abs}
use Rattle.dpl_sets.specs.Ranges.{members_of}
use Rattle.dpl_range.proofs.SliceLemmas.{slice-none, slice-cut}
use Rattle.dpl_map.proofs.blocks.between.Goals as goal
use Rattle.dpl_map.proofs.blocks.between.Goals.{After-min-high}

-- the nearer bounds, without the casts on the way
low-is : (c : After-min-high) → c.max-low.result ≡ int_max c.args.range.now.low c.args.low
low-is c = omega (arith, ints, clamps, c.max-low.ensures.value, c.low_bound.ensures.bound, c.ranges.low)

high-is : (c : After-min-high) → c.min-high.result ≡ int_min c.args.range.now.high c.args.high
high-is c = omega (arith, ints, clamps, c.min-high.ensures.value, c.high_bound.ensures.bound, c.ranges.high)

pub returns-then-high-low : goal.returns-then-high-low
returns-then-high-low c =
    let limits = c.low_bound.ensures.limits in
    let low = low-is (goal.at.returns-then-high-low c).After-min-high in
    let high = high-is (goal.at.returns-then-high-low c).After-min-high in
    c.slice.ensures.members
    ∙ sym (slice-none c.args.range.now (pos 1) (pos 0) limits (omega (arith, ints, clamps)))
    ∙ slice-none c.args.range.now c.args.low c.args.high limits (omega (arith, ints, low, high, c.if-high-low.true))

pub returns : goal.returns
returns c =
    let limits = c.low_bound.ensures.limits in
    let low = low-is (goal.at.returns c).After-min-high in
    let high = high-is (goal.at.returns c).After-min-high in
    let low_fits : FitsSigned w64 c.max-low.result = fits_signed_from_abs w64 c.max-low.result (omega (arith, ints, clamps, low, high, c.if-high-low.false, limits.low_is_bound, limits.high_is_bound)) in
    let high_fits : FitsSigned w64 c.min-high.result = fits_signed_from_abs w64 c.min-high.result (omega (arith, ints, clamps, low, high, c.if-high-low.false, limits.low_is_bound, limits.high_is_bound)) in
    let low_fits_far : FitsSigned w128 c.max-low.result = search rules in
    let high_fits_far : FitsSigned w128 c.min-high.result = search rules in
    simp to_z-of_z at c.slice-2.ensures.members
    ∙ ap (λ l. filter (λ i. int_le l i && int_le i c.min-high.result) (members_of c.args.range.now)) low
    ∙ ap (λ h. filter (λ i. int_le (int_max c.args.range.now.low c.args.low) i && int_le i h) (members_of c.args.range.now)) high
    ∙ slice-cut c.args.range.now c.args.low c.args.high limits
