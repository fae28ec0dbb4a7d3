-- The memories of workers, each of which makes the turns of the indices that a locale owns: what they begin with, and what they leave together.
use Rattle.std.specs.Prelude.{◌≡◌, ℕ, ◌+◌, ◌<◌, ℤ, pos, Bool, true, false, Option, Some, None, Result, Ok, Err, List, [], ◌∷◌, get_or, map}
use Rattle.std.specs.List.{AllByRecursion}
use Rattle.dpl_language.specs.Tree.{Op}
use Rattle.dpl_language.specs.Values.{Index, Fault}
use Rattle.dpl_language.specs.Outcome.{Deeds, Outcome, Done, Stop}
use Rattle.dpl_memory.specs.Memory.{Held, Memory, is_among}
use Rattle.dpl_memory.specs.Pieces.{shares_from, left_by, rejoined}
use Rattle.dpl_apart.specs.Operands.{combined_words, unit_words}
use Rattle.dpl_apart.specs.Rows.{AreOnce}
use Rattle.dpl_apart.specs.Memories.{Changes, with_words, operators_of}

-- WHAT A WORKER BEGINS WITH
-- a locale's shares of the arrays, and reduce variables to which nothing was added
abbrev pub worker_memory : Changes → (Index → ℕ) → ℕ → Memory → Memory
worker_memory h owns l m = record m {
  words = record m.words { numbers = with_words h.reduced (unit_words (operators_of h.reduced)) m.words.numbers };
  arrays = shares_from 0 h.written owns l m.arrays;
}

-- WORKERS, each by its locale
abbrev pub locales_of : {A : Type 0} → List (ℕ × A) → List ℕ
locales_of {A} ws = map (λ (w : ℕ × A). w.0) ws

-- of so many locales each whose part isn't empty has a worker, and none has two
pub record HaveWorkers (parts : ℕ → List Index) (n : ℕ) (ls : List ℕ) : Type 0 where
  pub once : AreOnce ls
  pub below : AllByRecursion (λ l. l < n) ls
  pub there : (l : ℕ) → l < n → (parts l ≡ [] → ⊥) → is_among l ls ≡ true

-- a worker's turns leave a memory, or one of them stops with a fault
abbrev pub worker_end : Result Memory Fault → Deeds → Outcome Memory
worker_end (Ok u) done = Done u done
worker_end (Err f) done = Stop f done

-- WHAT WORKERS LEAVE TOGETHER
abbrev pub rejoined_if : Bool → (Index → ℕ) → List (ℕ × Memory) → Memory → ℕ → Held → Held
rejoined_if true owns ws m slot a = rejoined owns ws m slot a
rejoined_if false owns ws m slot a = a

abbrev pub rejoined_from : ℕ → List ℕ → (Index → ℕ) → List (ℕ × Memory) → Memory → List Held → List Held
rejoined_from first written owns ws m [] = []
rejoined_from first written owns ws m (a ∷ more) =
    rejoined_if (is_among first written) owns ws m first a ∷ rejoined_from (first + 1) written owns ws m more

-- the word of a reduce variable, to which what each worker has added is put, one after another
abbrev pub word_joined : ℕ × Op → List (ℕ × Memory) → ℤ → ℤ
word_joined p [] w = w
word_joined p (v ∷ ws) w = word_joined p ws (combined_words p.1 w (get_or v.1.words.numbers p.0 (pos 0)))

abbrev pub words_joined : List (ℕ × Op) → List (ℕ × Memory) → Memory → List ℤ
words_joined ps ws m = map (λ (p : ℕ × Op). word_joined p ws (get_or m.words.numbers p.0 (pos 0))) ps

-- the memory that the worker of the last index has left, which has made the last turn; where there was no turn, a memory as it was
abbrev pub last_left : (Index → ℕ) → Option Index → List (ℕ × Memory) → Memory → Memory
last_left owns None ws m = m
last_left owns (Some t) ws m = left_by (owns t) ws m

-- the memory after all of them: its numbers, ranges and tuples are those after the last turn, but for the reduce variables
abbrev pub together : Changes → (Index → ℕ) → List (ℕ × Memory) → Option Index → Memory → Memory
together h owns ws last m = record m {
  words = record m.words {
    numbers = with_words h.reduced (words_joined h.reduced ws m) (last_left owns last ws m).words.numbers;
    ranges = (last_left owns last ws m).words.ranges;
  };
  tuples = (last_left owns last ws m).tuples;
  arrays = rejoined_from 0 h.written owns ws m m.arrays;
}
