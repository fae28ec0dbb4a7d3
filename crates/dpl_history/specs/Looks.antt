-- Looks at a cell's state, and when what was seen agrees with a history.
-- A state is seen as a word: 0 is empty, 1 is full, and 2 is busy, in the midst of an operation.
use Rattle.std.specs.Prelude.{◌≡◌, ℕ, ◌<◌, ◌≤◌, ◌⊎◌, List, Any, length, take, drop}
use Rattle.dpl_history.specs.declared.cell.CellState.{CellState}
use Rattle.dpl_history.specs.declared.cell.CellState.TheVariants.{Empty, Full}
use Rattle.dpl_history.specs.declared.cell.CellOp.{CellOp}
use Rattle.dpl_history.specs.declared.cell.CellOp.TheVariants.{ReadFE, ReadFF, WriteEF, WriteFF, WriteXF, Reset}
use Rattle.dpl_history.specs.declared.history.Event.{Event}
use Rattle.dpl_history.specs.declared.history.Miss.{Miss}
use Rattle.dpl_history.specs.Histories.{cell_at, after}

-- the word of a cell that is not busy
abbrev pub state_word : CellState → ℕ
state_word Empty = 0
state_word (Full v) = 1

-- The operation need not wait where the state word is w.
-- readFE, readFF and writeFF wait for full, writeEF for empty, and writeXF and reset only where the cell is busy.
abbrev pub fits : ℕ → CellOp → Type 0
fits w ReadFE = w ≡ 1
fits w ReadFF = w ≡ 1
fits w (WriteEF v) = w ≡ 0
fits w (WriteFF v) = w ≡ 1
fits w (WriteXF v) = w < 2
fits w Reset = w < 2

-- a look of a task that saw the word w in a cell, when the history had p events
abbrev pub miss : ℕ → ℕ → ℕ → ℕ → Miss
miss k p c w = record { task = k; place = p; cell = c; word = w }

-- the cell was seen as the events before the look leave it: empty or full
abbrev pub IsLeftSo : List CellState → List Event → Miss → Type 0
IsLeftSo cs es m = state_word (cell_at (after cs (take m.place es)) m.cell) ≡ m.word

-- the cell was seen busy, and an event of it comes after the look
abbrev pub IsBusyThen : List Event → Miss → Type 0
IsBusyThen es m = (m.word ≡ 2) × Any (λ e. e.cell ≡ m.cell) (drop m.place es)

-- what was seen agrees with the history
abbrev pub Agrees : List CellState → List Event → Miss → Type 0
Agrees cs es m = (m.place ≤ length es) × (IsLeftSo cs es m ⊎ IsBusyThen es m)
