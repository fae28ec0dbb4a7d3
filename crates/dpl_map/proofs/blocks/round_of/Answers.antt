-- The way from the beginning of the round is the remainder.
use Rattle.std.proofs.Common.{◌≡◌, pos, ◌-ℤ◌, ap, sym, subst, ◌∙◌, arith, w64, unsigned_abs, FitsSigned}
use mir.Syntax.{w128}
use Rattle.std.specs.Int.{int_rem_euclid}
use Rattle.std.proofs.lemmas.Int.{ints, to_z-of_z, fits_signed_from_abs}
use Rattle.dpl_map.specs.Blocks.{BeginsRound}
use Rattle.dpl_map.proofs.BlockLemmas.{round-begins}
use Rattle.dpl_map.proofs.blocks.round_of.Goals as goal

pub returns-clause-begins : goal.returns-clause-begins
returns-clause-begins c =
    λ n is.
    let low_fits : FitsSigned w64 c.args.low = fits_signed_from_abs w64 c.args.low (omega (arith, ints, c.requires.low_limit)) in
    let low_fits_far : FitsSigned w128 c.args.low = fits_signed_from_abs w128 c.args.low (omega (arith, ints, c.requires.low_limit)) in
    let start_fits : FitsSigned w64 c.args.start = fits_signed_from_abs w64 c.args.start (omega (arith, ints, c.requires.start_limit)) in
    let start_fits_far : FitsSigned w128 c.args.start = fits_signed_from_abs w128 c.args.start (omega (arith, ints, c.requires.start_limit)) in
    let way_fits : FitsSigned w128 (c.args.low -ℤ c.args.start) = fits_signed_from_abs w128 _ (omega (arith, ints, c.requires.low_limit, c.requires.start_limit)) in
    let round_fits : FitsSigned w128 c.args.round = fits_signed_from_abs w128 c.args.round (omega (arith, ints, c.requires.some, c.requires.short)) in
    let natural : c.rem_euclid.result ≡ pos (unsigned_abs c.rem_euclid.result) = omega (arith, ints, c.rem_euclid.ensures.lower_bound) in
    let value = simp to_z-of_z at c.rem_euclid.ensures.value in
    let left : int_rem_euclid (c.args.low -ℤ c.args.start) (pos n) ≡ pos (unsigned_abs c.rem_euclid.result) =
    ap (λ r. int_rem_euclid (c.args.low -ℤ c.args.start) r) (sym is) ∙ sym value ∙ natural in
    subst (λ o. BeginsRound c.args.start n o)
    (omega (arith, ints, natural, c.rem_euclid.ensures.upper_bound, c.requires.low_limit, c.requires.short))
    (round-begins c.args.low c.args.start n (unsigned_abs c.rem_euclid.result) (omega (arith, ints, is, c.requires.some)) left)
