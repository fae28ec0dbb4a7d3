-- Indices that lie between two others in each dimension.
use Rattle.std.specs.Prelude.{◌≡◌, List, [], ◌∷◌, ℤ, ◌≤ℤ◌}
use Rattle.dpl_map.specs.Maps.{AxisValue, axis_coordinate}

-- each coordinate of the index in the middle lies between those of the two others
abbrev pub AreBetween : List ℤ → List ℤ → List ℤ → Type 0
AreBetween [] [] [] = Unit {0}
AreBetween (low ∷ lows) (i ∷ is) (high ∷ highs) = (low ≤ℤ i) × (i ≤ℤ high) × AreBetween lows is highs
AreBetween _ _ _ = ⊥

-- all integers between two have one coordinate of an axis
abbrev pub IsSteady : AxisValue → ℤ → ℤ → Type 0
IsSteady axis low high = (i : ℤ) → low ≤ℤ i → i ≤ℤ high → axis_coordinate axis i ≡ axis_coordinate axis low
