-- What holds of the axes that a map keeps.
use Rattle.std.specs.Prelude.{◌≡◌, ◌<◌, ◌≤◌, ◌*◌, ℕ, List, All, pos}
use Rattle.dpl_map.specs.Maps.{AxisValue, Cyclic, locales}
use Rattle.dpl_map.specs.AxisFields.{IsAxis}

-- the axis with one coordinate, which stands where a map has none
abbrev pub idle : AxisValue
idle = record { rule = Cyclic (pos 0); extent = 1 }

-- the numbers of each axis are within their limits, and there are at most 64 locales
pub record AreAxes (axes : List AxisValue) : Type 0 where
  pub limits : All IsAxis axes
  pub size : locales axes ≤ 64

-- the same of three axes, of which a map has the last ones
pub record IsMap (rank : ℕ) (outer middle inner : AxisValue) : Type 0 where
  pub to_three : rank ≤ 3
  pub first : rank < 3 → outer ≡ idle
  pub second : rank < 2 → middle ≡ idle
  pub third : rank < 1 → inner ≡ idle
  pub outer_limits : IsAxis outer
  pub middle_limits : IsAxis middle
  pub inner_limits : IsAxis inner
  pub size : outer.extent * middle.extent * inner.extent ≤ 64
