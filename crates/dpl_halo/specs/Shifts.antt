-- Shifted reads of an array in the turns of a loop.
-- A shifted read is the list of its subscripts, one for each dimension of the array.
use Rattle.std.specs.Prelude.{List, ℤ, pos, ◌+ℤ◌, map, flat_map, slice_index_or}
use Rattle.std.specs.Int.{w64, int_wrap}
use Rattle.dpl_sets.specs.declared.subscript.Subscript.{Subscript}

-- a subscript takes a coordinate of the turn's index, and adds its offset; the sum wraps, as that of the language does
abbrev pub moved : List ℤ → Subscript → ℤ
moved turn subscript = int_wrap w64 (slice_index_or turn subscript.coordinate (pos 0) +ℤ subscript.offset)

-- the index that a shifted read names in a turn
abbrev pub shifted : List Subscript → List ℤ → List ℤ
shifted shift turn = map (moved turn) shift

-- the indices that some shifted reads name in some turns
abbrev pub reads : List (List Subscript) → List (List ℤ) → List (List ℤ)
reads shifts turns = flat_map (λ shift. map (shifted shift) turns) shifts
