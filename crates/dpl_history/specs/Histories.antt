-- Histories: what the tasks did to the cells of a board, one operation after another.
-- A history is a list of events, the earliest first. Cells are numbered from 0.
use Rattle.std.specs.Prelude.{◌≡◌, ℕ, ◌<◌, ◌≤◌, ◌==◌, List, [], ◌∷◌, ◌++◌, All, length, filter, Option, Some, None, slice_index_or, slice_set}
use Rattle.dpl_history.specs.declared.cell.CellState.{CellState}
use Rattle.dpl_history.specs.declared.cell.CellState.TheVariants.{Empty}
use Rattle.dpl_history.specs.declared.cell.CellOp.{CellOp}
use Rattle.dpl_history.specs.declared.cell.Reply.{Reply}
use Rattle.dpl_history.specs.declared.history.Event.{Event}
use Rattle.dpl_history.specs.Cells.{effect}

-- one operation of a task that was done: the task, the cell, the operation and its reply
abbrev pub event : ℕ → ℕ → CellOp → Reply → Event
event k c op r = record { task = k; cell = c; op = op; reply = r }

-- the cell with this number
abbrev pub cell_at : List CellState → ℕ → CellState
cell_at cs c = slice_index_or cs c Empty

-- what is left of a cell: it stays as it was where the operation has no effect
abbrev pub left_by : CellState → Option (CellState × Reply) → CellState
left_by c None = c
left_by c (Some x) = x.0

-- the cells after an event, which changes its own cell alone
abbrev pub after_event : List CellState → Event → List CellState
after_event cs e = slice_set cs e.cell (left_by (cell_at cs e.cell) (effect e.op (cell_at cs e.cell)))

-- the cells after a history
abbrev pub after : List CellState → List Event → List CellState
after cs [] = cs
after cs (e ∷ es) = after (after_event cs e) es

-- the event's operation has an effect on its cell, with the event's reply
abbrev pub Happens : List CellState → Event → Type 0
Happens cs e = (e.cell < length cs) × ((c : CellState) × (effect e.op (cell_at cs e.cell) ≡ Some (c, e.reply)))

-- from these cells on, the events happen one after another
abbrev pub Legal : List CellState → List Event → Type 0
Legal cs [] = Unit {0}
Legal cs (e ∷ es) = Happens cs e × Legal (after_event cs e) es

-- from the first cells on, the events happen one after another, and the second cells are left
abbrev pub legal : List CellState → List Event → List CellState → Type 0
legal cs es cs2 = Legal cs es × (cs2 ≡ after cs es)

-- the events of one task, in order
abbrev pub of_task : ℕ → List Event → List Event
of_task k es = filter (λ e. e.task == k) es

-- all events are of the numbers 0 to n
abbrev pub AllUpTo : ℕ → List Event → Type 0
AllUpTo n es = All (λ e. e.task ≤ n) es

-- the history begins with these events
abbrev pub StartsWith : List Event → List Event → Type 0
StartsWith es front = (rest : List Event) × (es ≡ front ++ rest)
