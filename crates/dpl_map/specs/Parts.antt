-- A locale's part of a domain.
use Rattle.std.specs.Prelude.{ℕ, List, ℤ, filter, ◌==◌}
use Rattle.dpl_sets.specs.Ranges.{RangeValue}
use Rattle.dpl_sets.specs.Indices.{indices}
use Rattle.dpl_map.specs.Maps.{AxisValue, owner}

-- the part of a locale: the indices that it owns, in their order
unfoldable pub part : List RangeValue → List AxisValue → ℕ → List (List ℤ)
part ranges axes locale = filter (λ t. owner axes t == locale) (indices ranges)
