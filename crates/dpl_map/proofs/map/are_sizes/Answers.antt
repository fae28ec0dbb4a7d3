-- The sizes of blocks by their numbers.
use Rattle.std.proofs.Common.{rules, length, FitsSigned, w64}
use Rattle.std.proofs.lemmas.Int.{to_z-of_z}
use Rattle.dpl_map.proofs.StartLemmas.{All-sizes, sizes-All}
use Rattle.dpl_map.proofs.map.are_sizes.Goals as goal

pub returns : goal.returns
returns c =
    let first_fits : FitsSigned w64 c.padded_sizes-outer.result.0 = search rules in
    let second_fits : FitsSigned w64 c.padded_sizes-outer.result.1 = search rules in
    let last_fits : FitsSigned w64 c.padded_sizes-outer.result.2 = search rules in
    let test = simp to_z-of_z at c.are_blocksizes.ensures in (
      (λ passes.
          let sizes = test.0 passes in
          rw c.padded_sizes-outer.ensures.sizes
          (All-sizes (length c.args.sizes) c.padded_sizes-outer.result.0 c.padded_sizes-outer.result.1 c.padded_sizes-outer.result.2 c.padded_sizes-outer.ensures.unused sizes.0 sizes.1 sizes.2)),
      (λ all.
          let of_numbers = rw c.padded_sizes-outer.ensures.sizes at all in
          test.1 (sizes-All (length c.args.sizes) c.padded_sizes-outer.result.0 c.padded_sizes-outer.result.1 c.padded_sizes-outer.result.2 c.padded_sizes-outer.ensures.unused of_numbers)),
    )
