-- When the tasks of a coforall have run together and ended so, and left these cells.
-- What their seats know in the end has one history for all of them; each task, given the replies that it has in it, does by itself just
-- what it did there.
use Rattle.std.specs.Prelude.{◌≡◌, ℕ, ◌+◌, List, [], ◌∷◌, ◌++◌, length, drop, All}
use Rattle.dpl_history.specs.declared.cell.CellState.{CellState}
use Rattle.dpl_history.specs.declared.cell.CellOp.{CellOp}
use Rattle.dpl_history.specs.declared.cell.Reply.{Reply}
use Rattle.dpl_history.specs.declared.history.Event.{Event}
use Rattle.dpl_history.specs.declared.history.Miss.{Miss}
use Rattle.dpl_history.specs.Histories.{of_task}
use Rattle.dpl_history.specs.Looks.{Agrees, fits}
use Rattle.dpl_language.specs.Outcome.{Solo}
use Rattle.dpl_language.specs.Tasks.{replies_of}
use Rattle.dpl_language.specs.Together.{IsTogether}
use Rattle.dpl_cell.specs.Seats.{SeatValue}
use Rattle.dpl_task.specs.declared.end.TaskEnd.{TaskEnd as EndNode}
use Rattle.dpl_task.specs.declared.end.TaskEnd.TheVariants as end
use Rattle.dpl_task.specs.Ends.{solo, solos_of}

-- of each in a list, numbered on from k
abbrev pub AllFrom : {A : Type 0} → (ℕ → A → Type 0) → ℕ → List A → Type 0
AllFrom P k [] = Unit {0}
AllFrom P k (x ∷ xs) = P k x × AllFrom P (k + 1) xs

-- the task's events in the history and its end are its run by itself, given the replies that these events have
abbrev pub RanAlone : (ℕ → List Reply → Solo → Type 0) → List Event → ℕ → EndNode → Type 0
RanAlone alone h k e = alone k (replies_of k h) (solo (of_task k h) e)

-- a look of task k at the cell, behind its last event; what it saw doesn't fit the operation
pub record IsLateMiss (h : List Event) (k c : ℕ) (op : CellOp) (m : Miss) : Type 0 where
  pub task : m.task ≡ k
  pub cell : m.cell ≡ c
  pub late : of_task k (drop m.place h) ≡ []
  pub unfit : fits m.word op → ⊥

-- so many of the looks that missed, one behind another, are late ones of task k at its operation
pub record HasWaitedFor (tries : ℕ) (looks : List Miss) (h : List Event) (k c : ℕ) (op : CellOp) : Type 0 where
  pub before : List Miss
  pub late : List Miss
  pub behind : List Miss
  pub among : looks ≡ before ++ (late ++ behind)
  pub count : length late ≡ tries
  pub each : All (IsLateMiss h k c op) late

-- a task that waits has missed so often at its operation
abbrev pub HasMissed : ℕ → List Miss → List Event → ℕ → EndNode → Type 0
HasMissed tries looks h k end.Ended = Unit {0}
HasMissed tries looks h k (end.Faulted f) = Unit {0}
HasMissed tries looks h k (end.Waiting at c op) = HasWaitedFor tries looks h k c op

-- From these cells on, the tasks ran together with the history that their seats know together, which leaves the other cells, and ended so.
-- Each did what it does alone; all looks that missed agree with the history; and a task that waits made so many of them for its operation.
pub record HaveRunTogether (alone : ℕ → List Reply → Solo → Type 0) (tries : ℕ) (cells : List CellState) (ends : List EndNode) (known : SeatValue) (left : List CellState) : Type 0 where
  pub together : IsTogether (record { cells = cells; tasks = solos_of known.history 0 ends; history = known.history }) left
  pub each : AllFrom (RanAlone alone known.history) 0 ends
  pub looks : All (Agrees cells known.history) known.misses
  pub missed : AllFrom (HasMissed tries known.misses known.history) 0 ends
