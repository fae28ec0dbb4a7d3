-- A coordinate ends before the next one begins, and the last one doesn't end.
use Rattle.std.proofs.Common.{◌≡◌, ◌<◌, arith, pos, ◌-ℤ◌, FitsSigned, w64, unsigned_abs, ⊎_elim}
use Rattle.std.proofs.lemmas.Bool.{cases_lt}
use Rattle.std.proofs.lemmas.Int.{ints, to_z-of_z, by_lt_z}
use Rattle.dpl_map.proofs.AxisLemmas.{block-last}
use Rattle.dpl_map.specs.Places.{block_place}
use Rattle.dpl_map.proofs.axis.block_to.Goals as goal

pub returns-then-coordinate-extent-clause-owned : goal.returns-then-coordinate-extent-clause-owned
returns-then-coordinate-extent-clause-owned c =
    let wide : c.args.high -ℤ c.args.low ≡ pos (unsigned_abs (c.args.high -ℤ c.args.low)) = omega (arith, ints) in
    λ i bound.
    let last = block-last c.args.low c.args.high c.args.extent (unsigned_abs (c.args.high -ℤ c.args.low)) wide c.requires.extent.0 i c.requires.ordered in
    ((λ h. bound.1), (λ h. omega (arith, last)))

pub returns-clause-owned : goal.returns-clause-owned
returns-clause-owned c =
    let low_fits : FitsSigned w64 c.args.low = c.ranges.low in
    let high_fits : FitsSigned w64 c.args.high = c.ranges.high in
    let owned = simp to_z-of_z at c.block_from.ensures.owned in
    λ i bound.
    let next = owned i bound in (
      (λ h.
          by_lt_z i c.block_from.result
          (λ under. omega (arith, ints))
          (λ over. absurd (let more = next.1 over in omega (arith, more)))),
      (λ h.
          ⊎_elim
          (λ (more : c.args.coordinate < block_place c.args.low c.args.high c.args.extent i).
          absurd (let over = next.0 (omega arith) in omega (arith, ints, over)))
          (λ fits. fits)
          (cases_lt c.args.coordinate (block_place c.args.low c.args.high c.args.extent i))),
    )
