-- What holds of the extents that a grid keeps.
use Rattle.std.specs.Prelude.{ℕ, List}
use Rattle.dpl_sets.specs.Indices.{IsRank}
use Rattle.dpl_map.specs.Grids.{grid_size, IsGridSize}

pub record IsGrid (extents : List ℕ) : Type 0 where
  pub rank : IsRank extents
  pub size : IsGridSize (grid_size extents)
