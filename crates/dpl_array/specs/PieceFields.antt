-- How a piece is kept: its values in the row of its part's domains.
-- The model of a piece lists them in the order of its domain all the same.
use Rattle.std.specs.Prelude.{◌≡◌, ◌≤◌, ◌^◌, ◌↔◌, ℕ, ℤ, List, Option, length}
use Rattle.std.specs.List.{zip}
use Rattle.dpl_sets.specs.Ranges.{RangeValue}
use Rattle.dpl_sets.specs.Indices.{indices}
use Rattle.dpl_map.specs.Axes.{AreSingle}
use Rattle.dpl_map.specs.Cuts.{AreCut}
use Rattle.dpl_map.specs.Maps.{AxisValue}
use Rattle.dpl_map.specs.Orders.{ArePart}
use Rattle.dpl_map.specs.Parts.{part}
use Rattle.dpl_array.specs.Elements.{value_at, tabulated}
use Rattle.dpl_array.specs.Arrays.{PieceValue}
use Rattle.dpl_array.specs.Rows.{row_of, AreSome, AreStarts, IsDistinct, StandsIn}
use Rattle.dpl_array.specs.declared.piece.Piece.TheInside.{Inside}

-- what the row holds at an index
abbrev pub kept_at : {T : Type 0} → List (List RangeValue) → List T → List ℤ → Option T
kept_at parts values t = value_at t (zip (row_of parts) values)

-- a piece's elements stand in the order of its domain
abbrev pub piece_of : {T : Type 0} → Inside T → PieceValue T
piece_of p = record { domain = p.domain; map = p.map; locale = p.locale; elements = tabulated (part p.domain p.map p.locale) (kept_at p.parts.items p.values.items) }

-- the domains have the indices of the part, and there is a value for each place of their row
pub record IsKept (domain : List RangeValue) (map : List AxisValue) (locale : ℕ) (parts : List (List RangeValue)) (starts : List ℕ) (size : ℕ) : Type 0 where
  pub rows : ArePart map parts
  pub same : (t : List ℤ) → StandsIn (row_of parts) t ↔ StandsIn (part domain map locale) t
  pub cut : AreCut indices (part domain map locale) parts
  pub some : AreSome parts
  pub one : AreSingle map → length parts ≤ 1
  pub distinct : IsDistinct (row_of parts)
  pub starting : AreStarts parts starts
  pub long : size ≡ length (row_of parts)
  pub small : length (row_of parts) ≤ 2 ^ 24
