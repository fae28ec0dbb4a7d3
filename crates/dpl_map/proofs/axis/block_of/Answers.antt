-- The quotient of the difference.
use Rattle.std.proofs.Common.{rules, arith, ◌-ℤ◌, FitsSigned, w64}
use Rattle.std.specs.Int.{w128}
use Rattle.std.proofs.lemmas.Int.{ints, to_z-of_z, fits_signed_from_abs}
use Rattle.dpl_map.proofs.axis.block_of.Goals as goal

pub returns : goal.returns
returns c =
    let i_fits : FitsSigned w64 c.args.i = c.ranges.i in
    let start_fits : FitsSigned w64 c.args.start = c.ranges.start in
    let size_fits : FitsSigned w64 c.args.size = c.ranges.size in
    let i_wide : FitsSigned w128 c.args.i = search (rules, ints) in
    let start_wide : FitsSigned w128 c.args.start = search (rules, ints) in
    let size_wide : FitsSigned w128 c.args.size = search (rules, ints) in
    let wide : FitsSigned w128 (c.args.i -ℤ c.args.start) =
    fits_signed_from_abs w128 _ (omega (arith, ints, i_fits, c.requires.start_is_bound)) in
    let result_wide : FitsSigned w128 c.div_euclid.result = search rules in
    let value = simp to_z-of_z at c.div_euclid.ensures in
    simp to_z-of_z value
