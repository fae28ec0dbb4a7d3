-- The arrays of a worker: its own by their slots, and the others as they are lent; and what it leaves besides arrays.
use Rattle.std.specs.Prelude.{◌≡◌, ℕ, ℤ, List, [], ◌∷◌, get_or}
use Rattle.dpl_sets.specs.TextRanges.{TextRange}
use Rattle.dpl_language.specs.Values.{Index}
use Rattle.dpl_memory.specs.Memory.{Held, Memory, no_array}
use Rattle.dpl_frame.specs.declared.share.Share.{Share}
use Rattle.dpl_frame.specs.declared.share.Share.TheVariants.{Lent, Piece, Whole}
use Rattle.dpl_frame.specs.declared.share.Seen.{Seen}
use Rattle.dpl_frame.specs.declared.share.Seen.TheVariants as seen

-- the array in a slot: what a worker has there of its own, or else the one that it is lent
abbrev pub share_before : Share → Held → Held
share_before Lent a = a
share_before (Piece p) a = p
share_before (Whole b) a = b

abbrev pub share_in : Share → List Held → ℕ → Held
share_in s lent slot = share_before s (get_or lent slot no_array)

-- slot by slot, as many as are lent
abbrev pub own_before : List Share → List Held → List Held
own_before [] lent = lent
own_before (s ∷ own) [] = []
own_before (s ∷ own) (a ∷ lent) = share_before s a ∷ own_before own lent

-- it can be written: where it is lent there is none
abbrev pub IsOwn : Share → Held → Type 0
IsOwn Lent a = a ≡ no_array
IsOwn (Piece p) a = Unit {0}
IsOwn (Whole b) a = Unit {0}

-- the array that is read
abbrev pub held_seen : Seen → Held
held_seen seen.Absent = no_array
held_seen (seen.Piece p) = p.now
held_seen (seen.Whole a) = a.now

-- what turns leave besides arrays: numbers, ranges and tuples
pub record Plain : Type 0 where
  pub numbers : List ℤ
  pub ranges : List TextRange
  pub tuples : List Index

abbrev pub plain_of : Memory → Plain
plain_of m = record { numbers = m.words.numbers; ranges = m.words.ranges; tuples = m.tuples }

-- a memory with those of another one
abbrev pub with_plain : Plain → Memory → Memory
with_plain p m = record m { words = record m.words { numbers = p.numbers; ranges = p.ranges }; tuples = p.tuples }
