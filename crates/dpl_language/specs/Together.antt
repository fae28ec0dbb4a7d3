-- When the tasks of a coforall ran together with one history.
-- The meaning runs each task by itself, with the replies of a history; only where this holds is it a run of them all.
use Rattle.std.specs.Prelude.{◌≡◌, ℕ, ◌+◌, ◌<◌, List, [], ◌∷◌, map, length, drop, All}
use Rattle.dpl_history.specs.declared.cell.CellState.{CellState}
use Rattle.dpl_history.specs.declared.cell.CellOp.{CellOp}
use Rattle.dpl_history.specs.declared.history.Event.{Event}
use Rattle.dpl_history.specs.Histories.{legal, of_task, after}
use Rattle.dpl_history.specs.Looks.{Agrees, fits, miss}
use Rattle.dpl_language.specs.Outcome.{Operation, Solo, TaskEnd, Waiting, Entered, Outcome}
use Rattle.dpl_language.specs.Program.{deeds_of}

-- an event, without its task
abbrev pub operation_of : Event → Operation
operation_of e = record { cell = e.cell; op = e.op; reply = e.reply }

-- A task waits at an operation on a cell: behind its last event it had a look at the cell that agrees with the history,
-- and what it saw doesn't fit the operation.
pub record HasWaited (cells : List CellState) (h : List Event) (k c : ℕ) (op : CellOp) : Type 0 where
  pub place : ℕ
  pub word : ℕ
  pub after_its_last : of_task k (drop place h) ≡ []
  pub agrees : Agrees cells h (miss k place c word)
  pub unfit : fits word op → ⊥

-- a task that ended, or stopped with a fault, has waited at no operation
abbrev pub EndsSo : List CellState → List Event → ℕ → TaskEnd → Type 0
EndsSo cells h k (Waiting at c op) = HasWaited cells h k c op
EndsSo cells h k _ = Unit {0}

-- a task's events in the history are exactly the operations and replies of its run by itself, in order
pub record HasRun (cells : List CellState) (h : List Event) (k : ℕ) (t : Solo) : Type 0 where
  pub operations : map operation_of (of_task k h) ≡ t.operations
  pub end : EndsSo cells h k t.end

-- the same of all tasks, numbered on from k
abbrev pub AllHaveRun : List CellState → List Event → ℕ → List Solo → Type 0
AllHaveRun cells h k [] = Unit {0}
AllHaveRun cells h k (t ∷ ts) = HasRun cells h k t × AllHaveRun cells h (k + 1) ts

-- The tasks of a coforall ran together with its history: from the cells before it the events happen one after another
-- and leave the cells behind it, each event is of one of the tasks, and each task has run by its own events.
pub record IsTogether (e : Entered) (left : List CellState) : Type 0 where
  pub is_legal : legal e.cells e.history left
  pub of_its_tasks : All (λ (v : Event). v.task < length e.tasks) e.history
  pub each : AllHaveRun e.cells e.history 0 e.tasks

-- each coforall ran together with the history that it took
abbrev pub AllTogether : List Entered → Type 0
AllTogether [] = Unit {0}
AllTogether (e ∷ es) = IsTogether e (after e.cells e.history) × AllTogether es

-- A run happened: all coforalls that it entered did. Only such a run is one of the program's.
abbrev pub Happened : {S : Type 0} → Outcome S → Type 0
Happened o = AllTogether (deeds_of o).entered
