-- What each step on a word tells the seat that makes it, and how seats are cut off and joined.
-- A step is made by a token, which has the seat's view and, on a board, never a slot.
use Rattle.std.specs.Prelude.{◌≡◌, ◌≢◌, ℕ, ◌<◌, List, [], ◌∷◌, ◌++◌, All, length, Some, None}
use mathlib.Core.Option.{some}
use Rattle.atomic_table.specs.Table.{Me, Step}
use Rattle.dpl_history.specs.declared.cell.CellState.{CellState}
use Rattle.dpl_history.specs.declared.cell.CellOp.{CellOp}
use Rattle.dpl_history.specs.declared.cell.Reply.{Reply}
use Rattle.dpl_history.specs.declared.history.Event.{Event}
use Rattle.dpl_cell.specs.declared.view.Growth.{Growth}
use Rattle.dpl_cell.specs.declared.view.Hold.{Hold}
use Rattle.dpl_cell.specs.declared.view.View.{View}
use Rattle.dpl_history.specs.Cells.{effect}
use Rattle.dpl_history.specs.Histories.{Legal, of_task, event, StartsWith, AllUpTo}
use Rattle.dpl_history.specs.Looks.{miss}
use Rattle.dpl_cell.specs.Seats.{Has}
use Rattle.dpl_cell.specs.Calls.{longer}
use Rattle.dpl_cell.specs.Rule.{cell_of, Grows}

abbrev pub TokenState : Type 0
TokenState = Me CellOp View

-- a cell that is held: its number, how it was, and the value that its value word has now
abbrev pub hold : ℕ → CellState → ℕ → Hold
hold c before n = record { cell = c; before = before; value = n }

-- the history is the log at some moment: it begins with all that was known, is legal and of the board's numbers, and
-- has no new event of the seat's numbers
pub record Sees (v : View) (es : List Event) : Type 0 where
  pub begins : StartsWith es v.history
  pub legal : Legal v.opening es
  pub ours : AllUpTo v.tasks es
  pub quiet : (k : ℕ) → Has k v.numbers → of_task k es ≡ of_task k v.history

-- the log was seen, and one miss is added: the cell was empty, full or busy
pub record SeesMiss (v : View) (c w : ℕ) (u : View) : Type 0 where
  pub small : w < 3
  pub log : List Event
  pub sees : Sees v log
  pub is : u ≡ record v { history = log; misses = v.misses ++ miss v.number (length log) c w ∷ [] }

-- the cell was taken, as it was when its state word was w
pub record Took (v : View) (c w : ℕ) (u : View) : Type 0 where
  pub value : ℕ
  pub is : u ≡ record v { held = Some (hold c (cell_of w value) value) }

-- a look at a state word: nothing where it fits, else a miss
abbrev pub looked : ℕ → Step CellOp → TokenState → ℕ → TokenState → Type 0
looked fit st m found m' = (m'.1 ≡ m.1) × (found ≡ fit → m'.0 ≡ m.0) × (found ≢ fit → SeesMiss m.0 st.word found m'.0)

-- a compare-exchange of a state word from the one that fits to busy: the cell is taken, or a miss
abbrev pub taken : Step CellOp → TokenState → ℕ → TokenState → Type 0
taken st m found m' =
    (m'.1 ≡ m.1)
    × (found ≡ st.first → Took m.0 st.word found m'.0)
    × (found ≢ st.first → SeesMiss m.0 st.word found m'.0)

-- a swap of busy into a state word: the cell is taken, or was busy, which is a miss
abbrev pub seized : Step CellOp → TokenState → ℕ → TokenState → Type 0
seized st m found m' =
    (m'.1 ≡ m.1) × (found < 3)
    × (found ≢ 2 → Took m.0 st.word found m'.0)
    × (found ≡ 2 → SeesMiss m.0 st.word found m'.0)

-- a load of the held cell's value word finds the value that the seat knows
abbrev pub was_read : Step CellOp → TokenState → ℕ → TokenState → Type 0
was_read st m found m' = (m' ≡ m) × ((h : Hold) → m.0.held ≡ Some h → found ≡ h.value)

-- a store of the held cell's value word, which the seat then knows
abbrev pub was_written : Step CellOp → TokenState → ℕ → TokenState → Type 0
was_written st m n m' = (h : Hold) → m.0.held ≡ Some h → m' ≡ (record m.0 { held = Some (record h { value = n }) }, m.1)

-- the history is all that was known, then events of others, then this one
pub record Adds (v : View) (e : Event) (es : List Event) : Type 0 where
  pub between : List Event
  pub is : es ≡ (v.history ++ between) ++ e ∷ []
  pub legal : Legal v.opening es
  pub ours : AllUpTo v.tasks es
  pub quiet : (k : ℕ) → Has k v.numbers → of_task k (v.history ++ between) ≡ of_task k v.history

-- the operation is the last event of the history, and no cell is held any more
pub record Ends (m : TokenState) (c : ℕ) (op : CellOp) (r : Reply) (m' : TokenState) : Type 0 where
  pub history : List Event
  pub adds : Adds m.0 (event m.0.number c op r) history
  pub is : m' ≡ (record m.0 { held = None; history = history }, m.1)

-- the held cell was given back, with the event of the operation on the cell as it was
abbrev pub Publishes : TokenState → CellOp → TokenState → Type 0
Publishes m op m' =
    (h : Hold) (c : CellState) (r : Reply) → m.0.held ≡ Some h → effect op h.before ≡ Some (c, r)
    → Ends m h.cell op r m'

-- a compare-exchange of the held cell's state word from busy to what the operation leaves, which was announced
abbrev pub published : Step CellOp → TokenState → ℕ → TokenState → Type 0
published st m found m' = (op : CellOp) → st.said ≡ some op → Publishes m op m'

-- a load that changes nothing and tells what the rule says of a seat's history and of its last join
abbrev pub vouched : Step CellOp → TokenState → ℕ → TokenState → Type 0
vouched st m found m' = (m' ≡ m) × Legal m.0.opening m.0.history × AllUpTo m.0.tasks m.0.history × All Grows m.0.joins

-- the first of some numbers, and the others
abbrev pub first_of : List ℕ → ℕ
first_of [] = 0
first_of (x ∷ xs) = x

abbrev pub rest_of : List ℕ → List ℕ
rest_of [] = []
rest_of (x ∷ xs) = xs

-- a seat gives its first number away
abbrev pub without_first : View → View
without_first v = record v { numbers = rest_of v.numbers }

-- a new seat acts as that number and answers for it alone, with no misses
abbrev pub with_first : View → View
with_first v = record {
  opening = v.opening;
  tasks = v.tasks;
  number = first_of v.numbers;
  numbers = first_of v.numbers ∷ [];
  history = v.history;
  misses = [];
  held = None;
  joins = [];
}

-- what a join makes of a seat's history
abbrev pub growth : List ℕ → List Event → List Event → Growth
growth ns es fs = record { numbers = ns; before = es; after = fs }

-- two seats as one: the longer history, the numbers and the misses of both
abbrev pub gathered : View → View → View
gathered v w = let es = longer v.history w.history in record {
  opening = v.opening;
  tasks = v.tasks;
  number = v.number;
  numbers = v.numbers ++ w.numbers;
  history = es;
  misses = v.misses ++ w.misses;
  held = v.held;
  joins = growth v.numbers v.history es ∷ growth w.numbers w.history es ∷ [];
}

-- a seat that was joined to another knows nothing and answers for no one
abbrev pub spent : View
spent = record { opening = []; tasks = 0; number = 0; numbers = []; history = []; misses = []; held = None; joins = [] }
