-- The axes by the numbers of the start and of the sizes.
use Rattle.std.proofs.Common.{rules, ap, sym, ◌∙◌, length, List, ℕ, ℤ, FitsSigned, w64}
use Rattle.std.proofs.lemmas.Int.{to_z-of_z}
use Rattle.dpl_sets.specs.Ranges.{IsBound}
use Rattle.dpl_domain.specs.Ranks.{last_of}
use Rattle.dpl_map.specs.Maps.{AxisValue, block_cyclic_map, IsBlocksize}
use Rattle.dpl_map.proofs.StartLemmas.{bounds-All, sizes-All, block_cyclic_map-last_of, block_cyclic_axis}
use Rattle.dpl_map.proofs.map.Map.in_blocks.Goals as goal
use Rattle.dpl_map.proofs.map.Map.in_blocks.Goals.{After-padded_sizes-outer_size}

-- the numbers are within their limits
bounds : (c : After-padded_sizes-outer_size) → IsBound c.numbers-first.result.0 × IsBound c.numbers-first.result.1 × IsBound c.numbers-first.result.2
bounds c =
    bounds-All (length c.args.start) c.numbers-first.result.0 c.numbers-first.result.1 c.numbers-first.result.2 c.numbers-first.ensures.unused
    (rw c.numbers-first.ensures.coordinates at c.requires.start)

blocksizes : (c : After-padded_sizes-outer_size) → IsBlocksize c.padded_sizes-outer_size.result.0 × IsBlocksize c.padded_sizes-outer_size.result.1 × IsBlocksize c.padded_sizes-outer_size.result.2
blocksizes c =
    sizes-All (length c.args.sizes) c.padded_sizes-outer_size.result.0 c.padded_sizes-outer_size.result.1 c.padded_sizes-outer_size.result.2 c.padded_sizes-outer_size.ensures.unused
    (rw c.padded_sizes-outer_size.ensures.sizes at c.requires.sizes)

pub block_cyclic-requires-clause-start_is_bound : goal.block_cyclic-requires-clause-start_is_bound
block_cyclic-requires-clause-start_is_bound c =
    let fits : FitsSigned w64 c.numbers-first.result.0 = search rules in
    rw (to_z-of_z w64 c.numbers-first.result.0 fits) (bounds (goal.at.block_cyclic-requires-clause-start_is_bound c).After-padded_sizes-outer_size).0

pub block_cyclic-requires-clause-size : goal.block_cyclic-requires-clause-size
block_cyclic-requires-clause-size c =
    let fits : FitsSigned w64 c.padded_sizes-outer_size.result.0 = search rules in
    rw (to_z-of_z w64 c.padded_sizes-outer_size.result.0 fits) (blocksizes (goal.at.block_cyclic-requires-clause-size c).After-padded_sizes-outer_size).0

pub block_cyclic-requires-2-clause-start_is_bound : goal.block_cyclic-requires-2-clause-start_is_bound
block_cyclic-requires-2-clause-start_is_bound c =
    let fits : FitsSigned w64 c.numbers-first.result.1 = search rules in
    rw (to_z-of_z w64 c.numbers-first.result.1 fits) (bounds (goal.at.block_cyclic-requires-2-clause-start_is_bound c).After-padded_sizes-outer_size).1

pub block_cyclic-requires-2-clause-size : goal.block_cyclic-requires-2-clause-size
block_cyclic-requires-2-clause-size c =
    let fits : FitsSigned w64 c.padded_sizes-outer_size.result.1 = search rules in
    rw (to_z-of_z w64 c.padded_sizes-outer_size.result.1 fits) (blocksizes (goal.at.block_cyclic-requires-2-clause-size c).After-padded_sizes-outer_size).1

pub block_cyclic-requires-3-clause-start_is_bound : goal.block_cyclic-requires-3-clause-start_is_bound
block_cyclic-requires-3-clause-start_is_bound c =
    let fits : FitsSigned w64 c.numbers-first.result.2 = search rules in
    rw (to_z-of_z w64 c.numbers-first.result.2 fits) (bounds (goal.at.block_cyclic-requires-3-clause-start_is_bound c).After-padded_sizes-outer_size).2

pub block_cyclic-requires-3-clause-size : goal.block_cyclic-requires-3-clause-size
block_cyclic-requires-3-clause-size c =
    let fits : FitsSigned w64 c.padded_sizes-outer_size.result.2 = search rules in
    rw (to_z-of_z w64 c.padded_sizes-outer_size.result.2 fits) (blocksizes (goal.at.block_cyclic-requires-3-clause-size c).After-padded_sizes-outer_size).2

pub returns : goal.returns
returns c =
    let first_fits : FitsSigned w64 c.numbers-first.result.0 = search rules in
    let second_fits : FitsSigned w64 c.numbers-first.result.1 = search rules in
    let last_fits : FitsSigned w64 c.numbers-first.result.2 = search rules in
    let high_fits : FitsSigned w64 c.padded_sizes-outer_size.result.0 = search rules in
    let wide_fits : FitsSigned w64 c.padded_sizes-outer_size.result.1 = search rules in
    let long_fits : FitsSigned w64 c.padded_sizes-outer_size.result.2 = search rules in
    let outer = simp to_z-of_z at c.block_cyclic.ensures.axis in
    let middle = simp to_z-of_z at c.block_cyclic-2.ensures.axis in
    let inner = simp to_z-of_z at c.block_cyclic-3.ensures.axis in
    let n = length c.args.start in
    let grid = c.extents-outer.ensures.extents ∙ ap (λ (r : ℕ). last_of r c.extents-outer.result.0 c.extents-outer.result.1 c.extents-outer.result.2) (sym c.requires.rank) in
    let sizes = c.padded_sizes-outer_size.ensures.sizes ∙ ap (λ (r : ℕ). last_of r c.padded_sizes-outer_size.result.0 c.padded_sizes-outer_size.result.1 c.padded_sizes-outer_size.result.2) (c.requires.rank_of_sizes ∙ sym c.requires.rank) in
    let axes = c.of.ensures ∙ ap (λ (r : ℕ). last_of r c.block_cyclic.result c.block_cyclic-2.result c.block_cyclic-3.result) c.rank.ensures.rank in
    axes
    ∙ ap (λ (a : AxisValue). last_of n a c.block_cyclic-2.result c.block_cyclic-3.result) outer
    ∙ ap (λ (a : AxisValue). last_of n (block_cyclic_axis c.numbers-first.result.0 c.padded_sizes-outer_size.result.0 c.extents-outer.result.0) a c.block_cyclic-3.result) middle
    ∙ ap (λ (a : AxisValue). last_of n (block_cyclic_axis c.numbers-first.result.0 c.padded_sizes-outer_size.result.0 c.extents-outer.result.0) (block_cyclic_axis c.numbers-first.result.1 c.padded_sizes-outer_size.result.1 c.extents-outer.result.1) a) inner
    ∙ sym (block_cyclic_map-last_of n c.numbers-first.result.0 c.numbers-first.result.1 c.numbers-first.result.2 c.padded_sizes-outer_size.result.0 c.padded_sizes-outer_size.result.1 c.padded_sizes-outer_size.result.2 c.extents-outer.result.0 c.extents-outer.result.1 c.extents-outer.result.2)
    ∙ sym (ap (λ (t : List ℤ). block_cyclic_map t (last_of n c.padded_sizes-outer_size.result.0 c.padded_sizes-outer_size.result.1 c.padded_sizes-outer_size.result.2) (last_of n c.extents-outer.result.0 c.extents-outer.result.1 c.extents-outer.result.2)) c.numbers-first.ensures.coordinates)
    ∙ sym (ap (λ (s : List ℤ). block_cyclic_map c.args.start s (last_of n c.extents-outer.result.0 c.extents-outer.result.1 c.extents-outer.result.2)) sizes)
    ∙ sym (ap (λ (g : List ℕ). block_cyclic_map c.args.start c.args.sizes g) grid)
