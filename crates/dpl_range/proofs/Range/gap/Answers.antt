-- The remainder of the distance that a walk's first integer is ahead.
use Rattle.std.proofs.Common.{◌≡◌, ap, sym, ◌∙◌, arith, FitsSigned, w64, rules, pos, to_z, unsigned_abs}
use Rattle.std.specs.Int.{int_rem_euclid}
use Rattle.std.proofs.lemmas.Int.{ints, to_z-of_z}
use Rattle.dpl_range.proofs.Range.gap.Goals as goal

pub returns : goal.returns
returns c =
    let c_fits : FitsSigned w64 c.args.c = c.ranges.c in
    let ahead_fits : FitsSigned w64 c.ahead.result = search rules in
    let rem_fits : FitsSigned w64 c.rem_euclid.result = search rules in
    let n_is : to_z w64 c.args.n ≡ pos c.args.n = omega (arith, ints) in
    let ahead_is = simp to_z-of_z at c.ahead.ensures in
    let value = simp (to_z-of_z, n_is) at c.rem_euclid.ensures.value in
    let below = simp n_is at c.rem_euclid.ensures.upper_bound in
    let natural : c.rem_euclid.result ≡ pos (unsigned_abs c.rem_euclid.result) = omega (arith, ints) in
    rw (to_z-of_z w64 c.rem_euclid.result rem_fits) (record {
      gap = ap (λ d. int_rem_euclid d (pos c.args.n)) (sym ahead_is) ∙ sym value ∙ natural;
      below = below;
    })
