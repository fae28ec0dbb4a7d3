-- How pieces are kept: one in the place of each locale.
-- A place without a piece is an empty slot in the model too.
use Rattle.std.specs.Prelude.{◌≡◌, ◌<◌, ℕ, ℤ, List, Option, Some, None, map, length, slice_get}
use Rattle.dpl_sets.specs.Ranges.{RangeValue}
use Rattle.dpl_map.specs.Maps.{AxisValue, owner, locales}
use Rattle.dpl_map.specs.Parts.{part}
use Rattle.dpl_array.specs.Elements.{Elements, IsOver}
use Rattle.dpl_array.specs.Arrays.{PieceValue, PiecesValue}
use Rattle.dpl_array.specs.declared.pieces.Pieces.TheInside.{Inside}

-- what stands in a locale's slot
abbrev pub slot_of : {T : Type 0} → Option (PieceValue T) → Option (Elements T)
slot_of None = None
slot_of (Some p) = Some p.elements

abbrev pub pieces_in : {T : Type 0} → Inside T → PiecesValue T
pieces_in p = record { domain = p.domain; map = p.map; slots = map slot_of p.held.items }

-- a piece is that of a locale
pub record IsPieceOf {T : Type 0} (domain : List RangeValue) (axes : List AxisValue) (l : ℕ) (p : PieceValue T) : Type 0 where
  pub is : p ≡ record { domain = domain; map = axes; locale = l; elements = p.elements }
  pub over : IsOver (part domain axes l) p.elements

-- there is a place for each locale, and a piece stands in that of its own
pub record AreHeld {T : Type 0} (domain : List RangeValue) (axes : List AxisValue) (held : List (Option (PieceValue T))) : Type 0 where
  pub long : length held ≡ locales axes
  pub owners : (t : List ℤ) → owner axes t < locales axes
  pub fits : (l : ℕ) (p : PieceValue T) → slice_get held l ≡ Some (Some p) → IsPieceOf domain axes l p
