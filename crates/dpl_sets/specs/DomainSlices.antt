-- Slices of a domain, as values.
use Rattle.std.specs.Prelude.{List, [], ◌∷◌, ℤ}
use Rattle.dpl_sets.specs.Ranges.{RangeValue, IsBound}
use Rattle.dpl_sets.specs.RangeSlices.{sliced}

-- each dimension is sliced between its own two bounds
abbrev pub sliced_by : List RangeValue → List (ℤ × ℤ) → List RangeValue
sliced_by [] [] = []
sliced_by [] (b ∷ bs) = []
sliced_by (r ∷ rs) [] = []
sliced_by (r ∷ rs) (b ∷ bs) = sliced b.0 b.1 r ∷ sliced_by rs bs

-- both bounds are within the limits
abbrev pub AreBounds : ℤ × ℤ → Type 0
AreBounds b = IsBound b.0 × IsBound b.1
