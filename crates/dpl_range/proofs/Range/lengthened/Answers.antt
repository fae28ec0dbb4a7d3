-- The product fits: its size is at most 2^61.
use Rattle.std.proofs.Common.{◌≡◌, ◌*◌, ◌≤◌, ◌^◌, ap, ◌∙◌, arith, FitsSigned, w64, rules, to_z, pos, unsigned_abs}
use Rattle.std.proofs.Math.IntN.{◌*ℤ◌}
use Rattle.std.proofs.lemmas.Int.{ints, to_z-of_z, unsigned_abs-mul, fits_signed_from_abs}
use Rattle.std.proofs.Math.Nat.{mul-le-mul_right}
use Rattle.dpl_sets.specs.Ranges.{RangeValue}
use Rattle.dpl_range.proofs.Range.lengthened.Goals as goal

pub returns-clause-size : goal.returns-clause-size
returns-clause-size c =
    let same : c.self.inside.stride ≡ c.args.self.now.stride = ap (λ (v : RangeValue). v.stride) c.self.view_is in
    let size : unsigned_abs (c.self.inside.stride *ℤ pos c.args.period) ≡ unsigned_abs c.args.self.now.stride * c.args.period =
    unsigned_abs-mul c.self.inside.stride (pos c.args.period) ∙ ap (λ z. unsigned_abs z * c.args.period) same in
    let short : c.args.period ≤ 2 ^ 61 =
    omega (arith, c.requires.short, ap unsigned_abs same, mul-le-mul_right {m = 1} {n = unsigned_abs c.self.inside.stride} c.args.period c.self.invariant.stride_is_not_zero, ap (λ z. unsigned_abs z * c.args.period) same) in
    let period : to_z w64 c.args.period ≡ pos c.args.period = omega (arith, ints) in
    let stride_fits : FitsSigned w64 c.self.inside.stride = search rules in
    let fits : FitsSigned w64 (c.self.inside.stride *ℤ pos c.args.period) = fits_signed_from_abs w64 _ (omega (arith, size)) in
    rw (period, to_z-of_z w64 c.self.inside.stride stride_fits, to_z-of_z w64 (c.self.inside.stride *ℤ pos c.args.period) fits) size
