-- The block of a coordinate begins where the locales before it are full.
use Rattle.std.proofs.Common.{rules, ◌≡◌, arith, pos, ◌-ℤ◌, FitsSigned, w64, unsigned_abs}
use Rattle.std.proofs.lemmas.Int.{ints, to_z-of_z}
use Rattle.dpl_map.proofs.AxisLemmas.{block-from}
use Rattle.dpl_map.proofs.axis.block_from.Goals as goal

pub returns-clause-owned : goal.returns-clause-owned
returns-clause-owned c =
    let low_fits : FitsSigned w64 c.args.low = c.ranges.low in
    let high_fits : FitsSigned w64 c.args.high = c.ranges.high in
    let span_fits : FitsSigned w64 (c.args.high -ℤ c.args.low) = search (rules, ints) in
    let reached = simp to_z-of_z at c.block_start.ensures.reached in
    let least = simp to_z-of_z at c.block_start.ensures.least in
    let within = simp to_z-of_z at c.block_start.ensures.within in
    let wide : c.args.high -ℤ c.args.low ≡ pos (unsigned_abs (c.args.high -ℤ c.args.low)) = omega (arith, ints) in
    λ i bound.
    let owned =
    block-from c.args.low c.args.high c.args.extent (unsigned_abs (c.args.high -ℤ c.args.low)) wide c.requires.extent.0
    c.args.coordinate c.block_start.result i (omega arith) c.requires.coordinate reached least within in
    ((λ h. let from = owned.0 h in omega (arith, ints, from, within)), (λ h. owned.1 (omega (arith, ints, within))))
