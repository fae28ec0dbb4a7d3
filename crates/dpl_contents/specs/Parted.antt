-- An array that is taken apart: for each locale of a map the piece that it owns.
use Rattle.std.specs.Prelude.{ℕ, ℤ, pos, Option, Some, None, List, map, slice_index_or, slice_set, unwrap_or}
use Rattle.dpl_sets.specs.TextRanges.{TextRange}
use Rattle.dpl_map.specs.Maps.{AxisValue, owner, locales}
use Rattle.dpl_array.specs.Arrays.{counted}
use Rattle.dpl_language.specs.Values.{Index}
use Rattle.dpl_language.specs.Ranges.{indices_in}
use Rattle.dpl_memory.specs.Memory.{Held, whole_held, held_at}
use Rattle.dpl_memory.specs.Pieces.{owned_piece}

-- its domain, the map by which it is cut, and for each locale the piece that it owns, where that is there
pub record Parted : Type 0 where
  pub ranges : List TextRange
  pub axes : List AxisValue
  pub pieces : List (Option Held)

-- the pieces of an array, all of them
abbrev pub parted : List AxisValue → Held → Parted
parted axes a = record { ranges = a.ranges; axes = axes; pieces = map (λ l. Some (owned_piece (owner axes) l a)) (counted 0 (locales axes)) }

-- the piece of a locale, if it is there
abbrev pub piece_of : ℕ → Parted → Option Held
piece_of l p = slice_index_or p.pieces l None

-- another thing in a locale's place
abbrev pub with_piece : ℕ → Option Held → Parted → Parted
with_piece l a p = record p { pieces = slice_set p.pieces l a }

-- the word at an index in a piece that may be there
abbrev pub word_in : Index → Option Held → Option ℤ
word_in t None = None
word_in t (Some a) = held_at t a

-- the array with the elements that its owners' pieces have
abbrev pub whole_of : Parted → Held
whole_of p = whole_held p.ranges (map (λ t. unwrap_or (word_in t (piece_of (owner p.axes t) p)) (pos 0)) (indices_in p.ranges))
