-- The bounds are moved with no overflow.
use Rattle.std.proofs.Common.{◌≡◌, arith, ◌+ℤ◌, ◌-ℤ◌, ℤ, w64, to_z, of_z, refl}
use Rattle.std.proofs.lemmas.Int.{ints}
use Rattle.std.specs.Int.{w128}
use Rattle.dpl_sets.specs.Ranges.{RangeValue}
use Rattle.dpl_sets.specs.Expansions.{moved}
use Rattle.dpl_domain.proofs.expansion.Moved.over.Goals as goal

-- a range value is its three numbers
moved-is : (r : RangeValue) (k low high stride : ℤ) → low ≡ r.low -ℤ k → high ≡ r.high +ℤ k → stride ≡ r.stride → record { low = low; high = high; stride = stride } ≡ moved k r
moved-is r k low high stride at_low at_high at_stride = rw (at_low, at_high, at_stride) refl

pub returns : goal.returns
returns c =
    let low : to_z w128 (of_z w128 (to_z w128 (of_z w128 (to_z w64 (of_z w64 c.low_bound.result))) -ℤ to_z w128 (of_z w128 (to_z w64 (of_z w64 c.args.k))))) ≡ c.args.range.now.low -ℤ c.args.k = omega (arith, ints, c.low_bound.ensures.bound, c.low_bound.ensures.limits.low_is_bound) in
    let high : to_z w128 (of_z w128 (to_z w128 (of_z w128 (to_z w64 (of_z w64 c.high_bound.result))) +ℤ to_z w128 (of_z w128 (to_z w64 (of_z w64 c.args.k))))) ≡ c.args.range.now.high +ℤ c.args.k = omega (arith, ints, c.high_bound.ensures.bound, c.low_bound.ensures.limits.high_is_bound) in
    let stride : to_z w64 (of_z w64 c.stride.result) ≡ c.args.range.now.stride = omega (arith, ints, c.stride.ensures.stride) in
    moved-is c.args.range.now c.args.k _ _ _ low high stride
