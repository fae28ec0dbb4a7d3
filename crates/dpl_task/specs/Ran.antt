-- What a task owes when it comes to its end: of its seat, of its end, and of a refusal.
-- The seat alone knows what the task did to cells, and how often an operation missed.
use Rattle.std.specs.Prelude.{◌≡◌, ℕ, List, [], ◌∷◌, Result, Ok, Err}
use Rattle.dpl_history.specs.declared.cell.Reply.{Reply}
use Rattle.dpl_language.specs.Outcome.{Solo}
use Rattle.dpl_cell.specs.Seats.{BoardValue, SeatValue, IsSeatOf}
use Rattle.dpl_cell.specs.Calls.{KeepsNumbers, Waited}
use Rattle.dpl_task.specs.declared.end.TaskEnd.{TaskEnd as EndNode}
use Rattle.dpl_task.specs.declared.end.TaskEnd.TheVariants as end
use Rattle.dpl_task.specs.declared.end.Refusal.{Refusal}
use Rattle.dpl_task.specs.declared.end.Refusal.TheVariants as refusal
use Rattle.dpl_task.specs.Together.{RanAlone}

-- nothing is said of a refusal of memory or of a thread; an entry is refused only where it may be
abbrev pub IsRefusedSo : Type 0 → Refusal → Type 0
IsRefusedSo may refusal.Memory = Unit {0}
IsRefusedSo may refusal.Thread = Unit {0}
IsRefusedSo may refusal.Gate = may

-- a task that waits has, as the last that its seat did, tried its operation so often, and missed each time
abbrev pub WaitsSo : ℕ → SeatValue → EndNode → Type 0
WaitsSo tries s end.Ended = Unit {0}
WaitsSo tries s (end.Faulted f) = Unit {0}
WaitsSo tries s (end.Waiting at c op) = (before : SeatValue) × KeepsNumbers before s × Waited tries before c op s

-- the end agrees with the seat: the task did by itself what the seat's history has of it
abbrev pub EndsSo : (ℕ → List Reply → Solo → Type 0) → (ℕ → ℕ → Type 0) → ℕ → ℕ → SeatValue → Result EndNode Refusal → Type 0
EndsSo alone may tries k s (Ok e) = RanAlone alone s.history k e × WaitsSo tries s e
EndsSo alone may tries k s (Err why) = IsRefusedSo (may k k) why

-- the seat with which task k comes to its end, which answers for it alone
pub record Ran (b : BoardValue) (alone : ℕ → List Reply → Solo → Type 0) (may : ℕ → ℕ → Type 0) (tries k : ℕ) (s : SeatValue) (r : Result EndNode Refusal) : Type 0 where
  pub own : IsSeatOf b s
  pub number : s.number ≡ k
  pub numbers : s.numbers ≡ k ∷ []
  pub ends : EndsSo alone may tries k s r
