-- Arrays, and the pieces that they are made of.
-- An array and its pieces are records over a finite map; what is done to them is a function of these.
use Rattle.std.specs.Prelude.{◌≡◌, ◌≤◌, ◌^◌, ℕ, zero, suc, ◌+◌, ◌<◌, ℤ, List, [], ◌∷◌, Option, Some, None, IsSome, All, map, flat_map, length, slice_index_or, slice_set}
use Rattle.std.specs.Option.{option_map}
use Rattle.dpl_sets.specs.Ranges.{RangeValue}
use Rattle.dpl_sets.specs.Indices.{indices}
use Rattle.dpl_map.specs.Maps.{AxisValue, owner, locales}
use Rattle.dpl_map.specs.Cuts.{AreCut}
use Rattle.dpl_map.specs.Orders.{ArePart}
use Rattle.dpl_map.specs.Parts.{part}
use Rattle.dpl_array.specs.Elements.{Elements, value_at, with_value, filled, owned, tabulated, IsOver}

-- an array has a domain, a map that says who owns its indices, and its elements in the order of the domain
pub record ArrayValue (T : Type 0) : Type 0 where
  pub domain : List RangeValue
  pub map : List AxisValue
  pub elements : Elements T

-- an array has an element at each index of its domain, and no other
abbrev pub IsArray : {T : Type 0} → ArrayValue T → Type 0
IsArray a = IsOver (indices a.domain) a.elements

-- the array with another value at an index, if it has the index
abbrev pub array_with : {T : Type 0} → List ℤ → T → ArrayValue T → ArrayValue T
array_with t v a = record a { elements = with_value t v a.elements }

-- the array with one value everywhere
abbrev pub filled_array : {T : Type 0} → List RangeValue → List AxisValue → T → ArrayValue T
filled_array domain axes v = record { domain = domain; map = axes; elements = filled (indices domain) v }

-- an array has at most 2^24 elements
abbrev pub IsSmallArray : List RangeValue → Type 0
IsSmallArray domain = length (indices domain) ≤ 2 ^ 24

-- a piece of an array has the elements that a locale owns
pub record PieceValue (T : Type 0) : Type 0 where
  pub domain : List RangeValue
  pub map : List AxisValue
  pub locale : ℕ
  pub elements : Elements T

-- it has an element at each index of the locale's part of the domain, and no other
abbrev pub IsPiece : {T : Type 0} → PieceValue T → Type 0
IsPiece p = IsOver (part p.domain p.map p.locale) p.elements

-- the piece of an array that a locale owns
abbrev pub restriction : {T : Type 0} → ArrayValue T → ℕ → PieceValue T
restriction a l = record { domain = a.domain; map = a.map; locale = l; elements = owned a.map l a.elements }

-- the piece with another value at an index, if it has the index
abbrev pub piece_with : {T : Type 0} → List ℤ → T → PieceValue T → PieceValue T
piece_with t v p = record p { elements = with_value t v p.elements }

-- What a walk over a piece gives: all its elements, those of one domain of its part after those of another. The domains are cut out
-- of the part, so each element is given once; within a domain they come in its order.
abbrev pub IsWalkOf : {T : Type 0} → PieceValue T → Elements T → Type 0
IsWalkOf p es =
    (domains : List (List RangeValue)) × ArePart p.map domains × AreCut indices (part p.domain p.map p.locale) domains ×
    (es ≡ tabulated (flat_map indices domains) (λ t. value_at t p.elements))

-- the pieces of an array: for each locale the elements that it owns, where its piece is there
pub record PiecesValue (T : Type 0) : Type 0 where
  pub domain : List RangeValue
  pub map : List AxisValue
  pub slots : List (Option (Elements T))

-- what stands in a locale's slot, as a piece
abbrev pub piece_in : {T : Type 0} → PiecesValue T → ℕ → Option (PieceValue T)
piece_in ps l = option_map (λ es. record { domain = ps.domain; map = ps.map; locale = l; elements = es }) (slice_index_or ps.slots l None)

-- the pieces with another thing in a locale's slot
abbrev pub with_slot : {T : Type 0} → PiecesValue T → ℕ → Option (Elements T) → PiecesValue T
with_slot ps l slot = record ps { slots = slice_set ps.slots l slot }

-- all of them are there
abbrev pub IsWhole : {T : Type 0} → PiecesValue T → Type 0
IsWhole ps = All IsSome ps.slots

-- there is a slot for each locale of the map, and a piece in it has an element at each index of the locale's part
pub record ArePieces {T : Type 0} (ps : PiecesValue T) : Type 0 where
  pub long : length ps.slots ≡ locales ps.map
  pub owners : (t : List ℤ) → owner ps.map t < locales ps.map
  pub over : (l : ℕ) (es : Elements T) → slice_index_or ps.slots l None ≡ Some es → IsOver (part ps.domain ps.map l) es

-- n numbers from a first one on
abbrev pub counted : ℕ → ℕ → List ℕ
counted first zero = []
counted first (suc n) = first ∷ counted (first + 1) n

-- the elements that each locale owns
abbrev pub slots_of : {T : Type 0} → ArrayValue T → List (Option (Elements T))
slots_of a = map (λ l. Some (owned a.map l a.elements)) (counted 0 (locales a.map))

-- the pieces of an array: one for each locale of its map, with the elements that the locale owns
abbrev pub pieces_of : {T : Type 0} → ArrayValue T → PiecesValue T
pieces_of a = record { domain = a.domain; map = a.map; slots = slots_of a }

-- what stands in a slot at an index
abbrev pub in_slot : {T : Type 0} → Option (Elements T) → List ℤ → Option T
in_slot None t = None
in_slot (Some es) t = value_at t es

-- what pieces hold at an index: what the piece of its owner holds
abbrev pub held_at : {T : Type 0} → PiecesValue T → List ℤ → Option T
held_at ps t = in_slot (slice_index_or ps.slots (owner ps.map t) None) t

-- the pieces with another value at an index, which stands in the piece of its owner
abbrev pub written_at : {T : Type 0} → List ℤ → T → PiecesValue T → PiecesValue T
written_at t v ps = with_slot ps (owner ps.map t) (option_map (with_value t v) (slice_index_or ps.slots (owner ps.map t) None))

-- the union of the pieces: at each index of the domain what they hold there
abbrev pub union : {T : Type 0} → PiecesValue T → ArrayValue T
union ps = record { domain = ps.domain; map = ps.map; elements = tabulated (indices ps.domain) (held_at ps) }

-- a value, or another one where there is none
abbrev pub or_value : {T : Type 0} → Option T → T → T
or_value None v = v
or_value (Some w) v = w

-- An array over another domain: at the indices that are in both it keeps its values, and at the others it holds a given one. Its
-- map stays.
abbrev pub redomained : {T : Type 0} → ArrayValue T → List RangeValue → T → ArrayValue T
redomained a domain v = record { domain = domain; map = a.map; elements = map (λ t. (t, or_value (value_at t a.elements) v)) (indices domain) }

-- elements with the value that others have at an index, if they have one
abbrev pub taken_over : {T : Type 0} → List ℤ → Option T → Elements T → Elements T
taken_over t None es = es
taken_over t (Some v) es = with_value t v es
