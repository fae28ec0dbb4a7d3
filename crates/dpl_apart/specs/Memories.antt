-- How a memory holds rows: the elements of the arrays that turns write, by their indices, and what each turn leaves in the slots that begin
-- anew in it. A worker's memory holds those of its own indices alone, since it has no other elements.
use Rattle.std.specs.Prelude.{◌≡◌, ℕ, ◌+◌, ◌<◌, ℤ, pos, Bool, true, false, if◌then◌else◌, not, ◌&&◌, Option, Some, None, List, [], ◌∷◌, length, get_or, set, map, unwrap_or}
use Rattle.std.specs.List.{AllByRecursion}
use Rattle.dpl_sets.specs.TextRanges.{TextRange}
use Rattle.dpl_language.specs.Tree.{Op}
use Rattle.dpl_language.specs.Values.{Index}
use Rattle.dpl_language.specs.Outcome.{Outcome, Done, Stop, Waits, Run, no_deeds}
use Rattle.dpl_words.specs.Words.{no_range}
use Rattle.dpl_memory.specs.Memory.{Held, Memory, rest_of, no_tuple, array_at, held_at, is_among}
use Rattle.dpl_apart.specs.Operands.{all_combined, unit_words, AreExact}
use Rattle.dpl_apart.specs.Rows.{Turned, Leaves, Fails, Ran, Loop, run, AreOnce, IsDistinct, Adds}
use Rattle.dpl_apart.specs.Apart.{IsApart}

-- What turns that keep apart may change, by slots: the elements of some arrays, each turn those at its own index; reduce variables, by
-- their operators; and numbers, ranges and tuples that begin anew in each turn, as its variables and those of its body do. The turns are
-- those of a forall over indices of this rank.
pub record Changes : Type 0 where
  pub rank : ℕ
  pub written : List ℕ
  pub reduced : List (ℕ × Op)
  pub numbers : List ℕ
  pub ranges : List ℕ
  pub tuples : List ℕ

-- what an index has, by slots: its elements of written arrays; and what its turn has left in the slots that begin anew
pub record Row : Type 0 where
  pub elements : ℕ → ℤ
  pub numbers : ℕ → ℤ
  pub ranges : ℕ → TextRange
  pub tuples : ℕ → Index

-- ELEMENTS
-- an array that has such words at the indices which it has
abbrev pub held_by : (Index → ℤ) → Held → Held
held_by f a = record a { words = map f a.keys }

abbrev pub held_by_if : Bool → (Index → ℤ) → Held → Held
held_by_if true f a = held_by f a
held_by_if false f a = a

-- the written ones of the arrays from a slot on, with the elements of rows
abbrev pub with_elements : ℕ → List ℕ → (Index → Row) → List Held → List Held
with_elements first written rows [] = []
with_elements first written rows (a ∷ more) =
    held_by_if (is_among first written) (λ t. (rows t).elements first) a ∷ with_elements (first + 1) written rows more

-- REDUCE VARIABLES
-- numbers with words of reduce variables, and these words in a memory
abbrev pub with_words : List (ℕ × Op) → List ℤ → List ℤ → List ℤ
with_words (p ∷ ps) (w ∷ ws) numbers = set (with_words ps ws numbers) p.0 w
with_words _ _ numbers = numbers

abbrev pub words_in : List (ℕ × Op) → Memory → List ℤ
words_in ps s = map (λ (p : ℕ × Op). get_or s.words.numbers p.0 (pos 0)) ps

abbrev pub operators_of : List (ℕ × Op) → List Op
operators_of ps = map (λ (p : ℕ × Op). p.1) ps

-- WHAT BEGINS ANEW
-- other values in some slots
abbrev pub with_values : {A : Type 0} → List ℕ → (ℕ → A) → List A → List A
with_values [] value xs = xs
with_values (slot ∷ slots) value xs = set (with_values slots value xs) slot (value slot)

abbrev pub with_left : Changes → Row → Memory → Memory
with_left h row s = record s {
  words = record s.words {
    numbers = with_values h.numbers row.numbers s.words.numbers;
    ranges = with_values h.ranges row.ranges s.words.ranges;
  };
  tuples = with_values h.tuples row.tuples s.tuples;
}

-- what the last turn has left, if there was one
abbrev pub with_last : Changes → Option Index → (Index → Row) → Memory → Memory
with_last h None rows s = s
with_last h (Some t) rows s = with_left h (rows t) s

-- A MEMORY THAT HOLDS ROWS and reduce variables, and is another one in all that turns don't change
abbrev pub held_in : Changes → Memory → Option Index → (Index → Row) → List ℤ → Memory
held_in h b last rows a =
    with_last h last rows
    (record b {
      words = record b.words { numbers = with_words h.reduced a b.words.numbers };
      arrays = with_elements 0 h.written rows b.arrays;
    })

-- the row of an index in a memory: nothing of what turns don't change
abbrev pub row_in : Changes → Memory → Index → Row
row_in h s t = record {
  elements = λ slot. if is_among slot h.written then unwrap_or (held_at t (array_at slot s)) (pos 0) else pos 0;
  numbers = λ slot. if is_among slot h.numbers then get_or s.words.numbers slot (pos 0) else pos 0;
  ranges = λ slot. if is_among slot h.ranges then get_or s.words.ranges slot no_range else no_range;
  tuples = λ slot. if is_among slot h.tuples then get_or s.tuples slot no_tuple else no_tuple;
}

-- THE LOOP OF TURNS OVER MEMORIES
-- what a turn's end says of its row and of what it has added; a turn of a forall doesn't wait
abbrev pub turned_in : Changes → Index → Row → Outcome Memory → Turned Row (List ℤ)
turned_in h t row (Done s done) = Leaves (row_in h s t) (words_in h.reduced s)
turned_in h t row (Stop f done) = Fails f
turned_in h t row (Waits at c op done) = Leaves row (unit_words (operators_of h.reduced))

-- what the turn of an index does with its row, where nothing is added before it
abbrev pub turn_alone : Changes → Memory → (Index → Run Memory) → Index → Row → Turned Row (List ℤ)
turn_alone h b turn t row =
    turned_in h t row (turn t (held_in h b None (λ x. row) (unit_words (operators_of h.reduced))) no_deeds)

abbrev pub loop_in : Changes → Memory → (Index → ℕ) → (Index → Run Memory) → Loop Row (List ℤ)
loop_in h b place turn = record {
  turn = turn_alone h b turn;
  join = all_combined (operators_of h.reduced);
  place = place;
}

-- what turns come to over a memory that has their rows, begun with nothing added
abbrev pub ran_in : Changes → (Index → ℕ) → (Index → Run Memory) → List Index → Memory → Ran Row (List ℤ)
ran_in h place turn ts b = run (loop_in h b place turn) ts (row_in h b) (unit_words (operators_of h.reduced))

-- MEMORIES OF WORKERS
-- an array that has a word for each index that it has, and no index twice: a whole one, or a piece
pub record IsPiece (a : Held) : Type 0 where
  pub distinct : IsDistinct a.keys
  pub long : length a.words ≡ length a.keys

-- A memory in which turns may be made apart: the arrays that they write are there, and are pieces; and the reduce variables are those of
-- its forall, each with a slot of its own, which is there and doesn't begin anew. Numbers and tuples that begin anew are there too.
pub record IsFormed (h : Changes) (b : Memory) : Type 0 where
  pub pieces : (slot : ℕ) → is_among slot h.written ≡ true → IsPiece (array_at slot b)
  pub within : (slot : ℕ) → is_among slot h.written ≡ true → slot < length b.arrays
  pub intents : b.words.intents ≡ h.reduced
  pub apart : AreOnce (map (λ (p : ℕ × Op). p.0) h.reduced)
  pub there : AllByRecursion (λ (p : ℕ × Op). p.0 < length b.words.numbers) h.reduced
  pub stay : AllByRecursion (λ (p : ℕ × Op). is_among p.0 h.numbers ≡ false) h.reduced
  pub room : AllByRecursion (λ slot. slot < length b.words.numbers) h.numbers
  pub tuple_room : AllByRecursion (λ slot. slot < length b.tuples) h.tuples

-- a slot of numbers that turns don't change
abbrev pub is_kept : Changes → ℕ → Bool
is_kept h slot = not (is_among slot h.numbers) && not (is_among slot (map (λ (p : ℕ × Op). p.0) h.reduced))

-- Another memory, in which the turn of an index finds the same. It may differ in what begins anew, in reduce variables, in the elements of
-- written arrays at other indices, and in how its arrays are kept.
pub record IsLike (h : Changes) (t : Index) (s b : Memory) : Type 0 where
  pub own : (slot : ℕ) → is_among slot h.written ≡ true → held_at t (array_at slot s) ≡ held_at t (array_at slot b)
  pub lent : (slot : ℕ) → is_among slot h.written ≡ false → (i : Index) → held_at i (array_at slot s) ≡ held_at i (array_at slot b)
  pub array_domains : (slot : ℕ) → (array_at slot s).ranges ≡ (array_at slot b).ranges
  pub numbers : (slot : ℕ) → is_kept h slot ≡ true → get_or s.words.numbers slot (pos 0) ≡ get_or b.words.numbers slot (pos 0)
  pub ranges : (slot : ℕ) → is_among slot h.ranges ≡ false → get_or s.words.ranges slot no_range ≡ get_or b.words.ranges slot no_range
  pub tuples : (slot : ℕ) → is_among slot h.tuples ≡ false → get_or s.tuples slot no_tuple ≡ get_or b.tuples slot no_tuple
  pub number_slots : length s.words.numbers ≡ length b.words.numbers
  pub range_slots : length s.words.ranges ≡ length b.words.ranges
  pub tuple_slots : length s.tuples ≡ length b.tuples
  pub array_slots : length s.arrays ≡ length b.arrays
  pub domains : s.domains ≡ b.domains
  pub intents : s.words.intents ≡ b.words.intents
  pub sets : s.words.sets ≡ b.words.sets
  pub rest : rest_of s ≡ rest_of b

-- TURNS THAT KEEP APART
-- an index of the loop's rank
abbrev pub IsOfRank : Changes → Index → Type 0
IsOfRank h t = length t ≡ h.rank

-- Turns that keep apart over a memory: whatever rows it holds and whatever was added before, each does with its own row what it does
-- alone, and what it adds may be put together in any order.
pub record KeepApart (h : Changes) (b : Memory) (place : Index → ℕ) (turn : Index → Run Memory) : Type 0 where
  pub apart : IsApart (IsOfRank h) (AreExact (operators_of h.reduced)) (held_in h b) (loop_in h b place turn) turn
  pub adds : (t : Index) (row : Row) → Adds (AreExact (operators_of h.reduced)) (turn_alone h b turn t row)

-- Turns may be made apart: over each such memory they keep apart, and in memories that are like for an index its turn does the same.
pub record MayBeApart (h : Changes) (turn : Index → Run Memory) : Type 0 where
  pub keep : (b : Memory) (place : Index → ℕ) → IsFormed h b → KeepApart h b place turn
  pub alike : (t : Index) (s b : Memory) → IsOfRank h t → IsFormed h s → IsFormed h b → IsLike h t s b
      → (row : Row) → turn_alone h s turn t row ≡ turn_alone h b turn t row
