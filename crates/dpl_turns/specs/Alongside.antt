-- Two memories that go along in a turn: the one has the rows that others have left, and what was added before; the other has neither.
-- Whatever the turn does, it does in both.
use Rattle.std.specs.Prelude.{◌≡◌, ℕ, ℤ, pos, Result, Ok, Err, List, [], ◌∷◌, length, get_or, set, map, false, true}
use Rattle.dpl_sets.specs.TextRanges.{TextRange}
use Rattle.dpl_language.specs.Tree.{Op}
use Rattle.dpl_language.specs.Values.{Index, Fault}
use Rattle.dpl_language.specs.Ranges.{same_index}
use Rattle.dpl_language.specs.Outcome.{Deeds, Run}
use Rattle.dpl_words.specs.Words.{no_range}
use Rattle.dpl_memory.specs.Memory.{Held, Memory, no_tuple, is_among, rest_of}
use Rattle.dpl_apart.specs.Operands.{all_combined, AreExact}
use Rattle.dpl_apart.specs.Memories.{Changes, Row, with_elements, operators_of, is_kept}
use Rattle.dpl_apart.specs.Workers.{worker_end}

-- the slots of reduce variables, and their words among numbers
abbrev pub slots_of : List (ℕ × Op) → List ℕ
slots_of ps = map (λ (p : ℕ × Op). p.0) ps

abbrev pub words_at : List (ℕ × Op) → List ℤ → List ℤ
words_at ps numbers = map (λ (p : ℕ × Op). get_or numbers p.0 (pos 0)) ps

-- arrays with the same elements at an index; the second ones have at other indices the elements of rows
pub record ArraysAlong (h : Changes) (t : Index) (first second : List Held) (rows : Index → Row) (hs ks : List Held) : Type 0 where
  pub first_rows : Index → Row
  pub second_rows : Index → Row
  pub first_arrays : hs ≡ with_elements 0 h.written first_rows first
  pub second_arrays : ks ≡ with_elements 0 h.written second_rows second
  pub own : (slot : ℕ) → (first_rows t).elements slot ≡ (second_rows t).elements slot
  pub others : (x : Index) (slot : ℕ) → same_index x t ≡ false → (second_rows x).elements slot ≡ (rows x).elements slot

-- Numbers that are the same but for reduce variables, to which the second ones have words put; and as they were where turns change nothing.
pub record NumbersAlong (h : Changes) (kept words ns ms : List ℤ) : Type 0 where
  pub same : (slot : ℕ) → is_among slot (slots_of h.reduced) ≡ false → get_or ns slot (pos 0) ≡ get_or ms slot (pos 0)
  pub reduced : words_at h.reduced ms ≡ all_combined (operators_of h.reduced) words (words_at h.reduced ns)
  pub exact : AreExact (operators_of h.reduced) (words_at h.reduced ns)
  pub stay : (slot : ℕ) → is_kept h slot ≡ true → get_or ms slot (pos 0) ≡ get_or kept slot (pos 0)
  pub first_slots : length ns ≡ length kept
  pub second_slots : length ms ≡ length kept

-- the same values, as they were but in some slots
pub record ValuesAlong {A : Type 0} (d : A) (slots : List ℕ) (kept xs ys : List A) : Type 0 where
  pub same : xs ≡ ys
  pub stay : (slot : ℕ) → is_among slot slots ≡ false → get_or ys slot d ≡ get_or kept slot d
  pub long : length ys ≡ length kept

-- Two memories in the turn of an index, begun in two memories: the second one has at other indices the elements of rows, and the words put to
-- its reduce variables. What turns don't change is as it was there.
pub record IsAlongside (h : Changes) (t : Index) (first second : Memory) (rows : Index → Row) (words : List ℤ) (s u : Memory) : Type 0 where
  pub arrays : ArraysAlong h t first.arrays second.arrays rows s.arrays u.arrays
  pub numbers : NumbersAlong h second.words.numbers words s.words.numbers u.words.numbers
  pub ranges : ValuesAlong no_range h.ranges second.words.ranges s.words.ranges u.words.ranges
  pub tuples : ValuesAlong no_tuple h.tuples second.tuples s.tuples u.tuples
  pub domains : (s.domains ≡ u.domains) × (u.domains ≡ second.domains)
  pub rest : rest_of s ≡ rest_of u
  pub intents : (s.words.intents ≡ u.words.intents) × (u.words.intents ≡ second.words.intents)
  pub sets : (s.words.sets ≡ u.words.sets) × (u.words.sets ≡ second.words.sets)

-- values put into slots, the last of a list first
abbrev pub put_in : {A : Type 0} → List (ℕ × A) → List A → List A
put_in [] xs = xs
put_in (p ∷ ps) xs = set (put_in ps xs) p.0 p.1

abbrev pub slots_in : {A : Type 0} → List (ℕ × A) → List ℕ
slots_in {A} ps = map (λ (p : ℕ × A). p.0) ps

-- a memory in which some slots begin anew
abbrev pub begun : List (ℕ × ℤ) → List (ℕ × TextRange) → List (ℕ × Index) → Memory → Memory
begun numbers ranges tuples s = record s {
  words = record s.words { numbers = put_in numbers s.words.numbers; ranges = put_in ranges s.words.ranges };
  tuples = put_in tuples s.tuples;
}

-- a memory that a run leaves has what was no variable's before
abbrev pub KeepsRest : Memory → Result Memory Fault → Type 0
KeepsRest s (Ok u) = rest_of u ≡ rest_of s
KeepsRest s (Err f) = Unit {0}

-- A run that neither looks at what was done before it nor adds to that, doesn't wait, and changes nothing but variables.
abbrev pub IsQuiet : Run Memory → Type 0
IsQuiet run = (s : Memory) → (r : Result Memory Fault) × ((done : Deeds) → run s done ≡ worker_end r done) × KeepsRest s r
