-- The remainder of the quotient.
use Rattle.std.proofs.Common.{rules, ◌≡◌, ap, ◌∙◌, arith, ◌-ℤ◌, ℤ, pos, FitsSigned, w64, unsigned_abs}
use Rattle.std.specs.Int.{int_div_euclid, int_rem_euclid, w128}
use Rattle.std.proofs.lemmas.Int.{to_z-of_z, to_z_pos}
use Rattle.dpl_map.specs.Places.{block_cyclic_place}
use Rattle.dpl_map.proofs.PlaceLemmas.{size-rem}
use Rattle.dpl_map.proofs.axis.block_cyclic_place.Goals as goal

pub returns-clause-coordinate : goal.returns-clause-coordinate
unfolding block_cyclic_place
returns-clause-coordinate c =
    let i_fits : FitsSigned w64 c.args.i = c.ranges.i in
    let start_fits : FitsSigned w64 c.args.start = c.ranges.start in
    let size_fits : FitsSigned w64 c.args.size = c.ranges.size in
    let quotient_wide : FitsSigned w128 c.block_of.result = search rules in
    let result_wide : FitsSigned w128 c.rem_euclid.result = search rules in
    let quotient = simp to_z-of_z at c.block_of.ensures in
    let value = simp to_z-of_z at c.rem_euclid.ensures.value in
    let extent = to_z_pos w128 c.args.extent (omega arith) in
    let is : c.rem_euclid.result ≡ int_rem_euclid (int_div_euclid (c.args.i -ℤ c.args.start) c.args.size) (pos c.args.extent) =
    value ∙ ap (λ (n : ℤ). int_rem_euclid c.block_of.result n) extent ∙ ap (λ (q : ℤ). int_rem_euclid q (pos c.args.extent)) quotient in
    simp to_z-of_z (ap unsigned_abs is ∙ size-rem (int_div_euclid (c.args.i -ℤ c.args.start) c.args.size) c.args.extent)
