-- A start by its numbers.
use Rattle.std.proofs.Common.{rules, length, FitsSigned, w64}
use Rattle.std.proofs.lemmas.Int.{to_z-of_z}
use Rattle.dpl_map.proofs.StartLemmas.{All-bounds, bounds-All}
use Rattle.dpl_map.proofs.map.is_start.Goals as goal

pub returns : goal.returns
returns c =
    let first_fits : FitsSigned w64 c.numbers-first.result.0 = search rules in
    let second_fits : FitsSigned w64 c.numbers-first.result.1 = search rules in
    let last_fits : FitsSigned w64 c.numbers-first.result.2 = search rules in
    let test = simp to_z-of_z at c.are_bounds.ensures in (
      (λ passes.
          let bounds = test.0 passes in
          rw c.numbers-first.ensures.coordinates
          (All-bounds (length c.args.start) c.numbers-first.result.0 c.numbers-first.result.1 c.numbers-first.result.2 c.numbers-first.ensures.unused bounds.0 bounds.1 bounds.2)),
      (λ all.
          let of_numbers = rw c.numbers-first.ensures.coordinates at all in
          test.1 (bounds-All (length c.args.start) c.numbers-first.result.0 c.numbers-first.result.1 c.numbers-first.result.2 c.numbers-first.ensures.unused of_numbers)),
    )
