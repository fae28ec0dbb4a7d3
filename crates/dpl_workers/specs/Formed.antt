-- What is asked of a memory, slot by slot, before turns are made apart over it.
use Rattle.std.specs.Prelude.{◌≡◌, ◌<◌, ℕ, pos, false, List, [], ◌∷◌, length, map, get_or}
use Rattle.dpl_language.specs.Tree.{Op}
use Rattle.dpl_language.specs.Ranges.{indices_in}
use Rattle.dpl_memory.specs.Memory.{Memory, array_at, is_among}
use Rattle.dpl_apart.specs.Operands.{IsExact, unit_words}
use Rattle.dpl_apart.specs.Memories.{IsPiece, with_words, operators_of}
use Rattle.dpl_frame.specs.declared.share.Share.{Share}
use Rattle.dpl_frame.specs.Shares.{own_before}

-- the array in a slot has all indices of its domain
abbrev pub IsWhole : Memory → ℕ → Type 0
IsWhole m slot = (array_at slot m).keys ≡ indices_in (array_at slot m).ranges

-- there is a whole array in a slot, which has each of its indices once
abbrev pub HasPiece : Memory → ℕ → Type 0
HasPiece m slot = IsPiece (array_at slot m) × (slot < length m.arrays) × IsWhole m slot

-- a reduce variable has a slot of its own, which is there and doesn't begin anew, and in it a word of its kind
abbrev pub IsReduced : List ℕ → Memory → ℕ × Op → List (ℕ × Op) → Type 0
IsReduced numbers m p ps =
    (is_among p.0 (map (λ (q : ℕ × Op). q.0) ps) ≡ false) × (p.0 < length m.words.numbers) × (is_among p.0 numbers ≡ false)
    × IsExact p.1 (get_or m.words.numbers p.0 (pos 0))

-- so it is of all of them
abbrev pub AreReduced : List ℕ → Memory → List (ℕ × Op) → Type 0
AreReduced numbers m [] = Unit {0}
AreReduced numbers m (p ∷ ps) = IsReduced numbers m p ps × AreReduced numbers m ps

-- reduce variables to which nothing was added
abbrev pub with_units : List (ℕ × Op) → Memory → Memory
with_units ps m = record m { words = record m.words { numbers = with_words ps (unit_words (operators_of ps)) m.words.numbers } }

-- what a worker begins with: so are its reduce variables, and some arrays are its own
abbrev pub begun_with : List (ℕ × Op) → List Share → Memory → Memory
begun_with ps own m = with_units ps (record m { arrays = own_before own m.arrays })
