-- The rule of a board, which ties its words to one legal history, and which each step of a seat keeps.
-- Of n cells, word c is the state of cell c, word n + c its value, and the last word is 0.
use Rattle.std.specs.Prelude.{◌≡◌, ◌≢◌, ℕ, zero, suc, ◌+◌, ◌<◌, ◌≤◌, ◌⊎◌, List, [], ◌∷◌, All, length, Some, None, slice_index}
use Rattle.std.specs.Int.{w64, cast_signed}
use mathlib.Core.Option.{some}
use lib.ListN.{get_elem?}
use Rattle.atomic_table.specs.Table.{State}
use Rattle.dpl_history.specs.declared.cell.CellState.{CellState}
use Rattle.dpl_history.specs.declared.cell.CellState.TheVariants.{Empty, Full}
use Rattle.dpl_history.specs.declared.cell.CellOp.{CellOp}
use Rattle.dpl_history.specs.declared.history.Event.{Event}
use Rattle.dpl_history.specs.declared.history.Miss.{Miss}
use Rattle.dpl_cell.specs.declared.view.Growth.{Growth}
use Rattle.dpl_cell.specs.declared.view.Hold.{Hold}
use Rattle.dpl_cell.specs.declared.view.View.{View}
use Rattle.dpl_cell.specs.declared.rule.Plan.{Plan}
use Rattle.dpl_history.specs.Histories.{cell_at, after, Legal, of_task, AllUpTo, StartsWith}
use Rattle.dpl_history.specs.Looks.{Agrees}
use Rattle.dpl_cell.specs.Seats.{Has}

-- the cell that a state word and a value word stand for
abbrev pub cell_of : ℕ → ℕ → CellState
cell_of zero n = Empty
cell_of (suc w) n = Full (cast_signed w64 n)

-- after a join, a seat's history begins with the one before, and has the same events of these numbers
abbrev pub Grows : Growth → Type 0
Grows g = StartsWith g.after g.before × ((k : ℕ) → Has k g.numbers → of_task k g.after ≡ of_task k g.before)

-- one of the seats holds the cell
abbrev pub HeldBy : List View → ℕ → ℕ → Type 0
HeldBy views seat c = (v : View) × (h : Hold) × (get_elem? views seat ≡ some v) × (v.held ≡ Some h) × (h.cell ≡ c)

-- The rule speaks of one history, the log, which begins with all that any seat knows.

-- A number is one of the board's, and one seat answers for it. That seat knows the board's cells and tasks, and all of
-- the number's events in the log.
pub record AnswersFor (cells : List CellState) (tasks : ℕ) (log : List Event) (seat_of : ℕ → ℕ) (seat : ℕ) (v : View) (k : ℕ) : Type 0 where
  pub by : seat_of k ≡ seat
  pub ours : k ≤ tasks
  pub events : of_task k v.history ≡ of_task k log
  pub opening : v.opening ≡ cells
  pub tasks_is : v.tasks ≡ tasks

module _ (cells : List CellState) (tasks : ℕ) (words : List ℕ) (log : List Event) where
  -- a cell that no seat holds is as the log leaves it
  pub record Rests (c : ℕ) : Type 0 where
    pub small : slice_index words c < 2
    pub is : cell_at (after cells log) c ≡ cell_of (slice_index words c) (slice_index words (length cells + c))

  -- A held cell is held by this seat alone and is busy. The seat knows the value word, and how the log leaves the cell.
  pub record Holds (holder : ℕ → ℕ) (seat : ℕ) (h : Hold) : Type 0 where
    pub inside : h.cell < length cells
    pub mine : holder h.cell ≡ seat
    pub busy : slice_index words h.cell ≡ 2
    pub value : slice_index words (length cells + h.cell) ≡ h.value
    pub before : cell_at (after cells log) h.cell ≡ h.before

  -- a miss of a busy cell that is held still, so that the log is to have its event
  pub record IsPending (m : Miss) : Type 0 where
    pub word : m.word ≡ 2
    pub place : m.place ≤ length log
    pub inside : m.cell < length cells
    pub busy : slice_index words m.cell ≡ 2

  -- a miss agrees with the log, or will once the cell is given back
  abbrev pub IsTrueMiss : Miss → Type 0
  IsTrueMiss m = Agrees cells log m ⊎ IsPending m

  -- what a seat knows is true of the words and the log
  pub record Knows (holder seat_of : ℕ → ℕ) (seat : ℕ) (v : View) : Type 0 where
    pub numbered : (k : ℕ) → Has k v.numbers → AnswersFor cells tasks log seat_of seat v k
    pub begins : StartsWith log v.history
    pub missed : All IsTrueMiss v.misses
    pub grew : All Grows v.joins
    pub holds : (h : Hold) → v.held ≡ Some h → Holds holder seat h
    pub acts : (h : Hold) → v.held ≡ Some h → Has v.number v.numbers

-- There is a log that is legal from the opening cells and of the board's numbers. Every cell rests or is held by one
-- seat, every number has one seat at most, and what each seat knows is true.
pub record IsKept (cells : List CellState) (tasks : ℕ) (words : List ℕ) (views : List View) : Type 0 where
  pub log : List Event
  pub holder : ℕ → ℕ
  pub seat_of : ℕ → ℕ
  pub wide : length words ≡ length cells + length cells + 1
  pub legal : Legal cells log
  pub ours : AllUpTo tasks log
  pub free : (c : ℕ) → c < length cells → slice_index words c ≢ 2 → Rests cells tasks words log c
  pub busy : (c : ℕ) → c < length cells → slice_index words c ≡ 2 → HeldBy views (holder c) c
  pub each : (seat : ℕ) (v : View) → get_elem? views seat ≡ some v → Knows cells tasks words log holder seat_of seat v

-- the rule, as a fact of the table
abbrev pub Keeps : Plan → State CellOp View → Type 0
Keeps p s = IsKept p.cells.items p.tasks s.words s.views

-- these numbers: k and those after it, n in all
abbrev pub numbers_from : ℕ → ℕ → List ℕ
numbers_from k zero = []
numbers_from k (suc n) = k ∷ numbers_from (k + 1) n

-- the first seat of a board answers for all its numbers and has seen nothing
abbrev pub first_view : Plan → View
first_view p = record {
  opening = p.cells.items;
  tasks = p.tasks;
  number = p.tasks;
  numbers = numbers_from 0 (p.tasks + 1);
  history = [];
  misses = [];
  held = None;
  joins = [];
}

-- the words with which a board of these cells begins
pub record AreOpening (cells : List CellState) (words : List ℕ) : Type 0 where
  pub wide : length words ≡ length cells + length cells + 1
  pub small : (c : ℕ) → c < length cells → slice_index words c < 2
  pub are : (c : ℕ) → c < length cells → cell_at cells c ≡ cell_of (slice_index words c) (slice_index words (length cells + c))
