-- What a level of threads asks, and what it answers of the tasks that it started.
-- The gatherer's seat has then taken in the seats of all of them.
use Rattle.std.specs.Prelude.{◌≡◌, ℕ, ◌<◌, ◌≤◌, List, [], ◌++◌, length, All, Result, Ok, Err}
use Rattle.std.specs.Vec.{vec_capacity}
use Rattle.dpl_history.specs.declared.cell.CellState.{CellState}
use Rattle.dpl_history.specs.declared.cell.CellOp.{CellOp}
use Rattle.dpl_history.specs.declared.cell.Reply.{Reply}
use Rattle.dpl_history.specs.declared.history.Event.{Event}
use Rattle.dpl_history.specs.declared.history.Miss.{Miss}
use Rattle.dpl_history.specs.Histories.{of_task, StartsWith}
use Rattle.dpl_language.specs.Outcome.{Solo}
use Rattle.dpl_cell.specs.Seats.{BoardValue, SeatValue, IsSeatOf, AreFresh, Has}
use Rattle.dpl_cell.specs.Calls.{IsMissAt}
use Rattle.dpl_task.specs.declared.end.TaskEnd.{TaskEnd as EndNode}
use Rattle.dpl_task.specs.declared.end.TaskEnd.TheVariants as end
use Rattle.dpl_task.specs.declared.end.Refusal.{Refusal}
use Rattle.dpl_task.specs.declared.level.Gathering.{Gathering}
use Rattle.dpl_task.specs.Ends.{IsFirst}
use Rattle.dpl_task.specs.Together.{AllFrom, RanAlone}

-- the gate may refuse the entry of a task below n
abbrev pub MayRefuseOneOf : (ℕ → ℕ → Type 0) → ℕ → Type 0
MayRefuseOneOf may n = (k : ℕ) × (k < n) × may k k

-- what is told where one of two was refused, or both were
abbrev pub IsFirstOf : {A B : Type 0} → Result A Refusal → Result B Refusal → Refusal → Type 0
IsFirstOf (Ok a) (Ok b) r = ⊥
IsFirstOf (Ok a) (Err why) r = r ≡ why
IsFirstOf (Err why) (Ok b) r = r ≡ why
IsFirstOf (Err first) (Err second) r = IsFirst first second r

-- fresh seats and frames, one of each for each task, and room for their ends
pub record MayStart {F : Type 0} (b : BoardValue) (starts : ℕ → List CellState → F → Type 0) (tries : ℕ) (seats : List SeatValue) (frames : List F) (g : Gathering) : Type 0 where
  pub some : 0 < tries
  pub own : IsSeatOf b g.seat
  pub fresh : AreFresh b seats
  pub start : AllFrom (λ k frame. starts k b.opening frame) 0 frames
  pub count : length frames ≡ length seats
  pub few : length seats ≤ 64
  pub empty : g.ends.items ≡ []
  pub room : length seats ≤ vec_capacity g.ends

-- the seat knows so many misses of number k at the cell, one behind another, behind the number's last event
pub record KnowsMisses (tries k c : ℕ) (op : CellOp) (s : SeatValue) : Type 0 where
  pub front : List Event
  pub begins : StartsWith s.history front
  pub quiet : of_task k s.history ≡ of_task k front
  pub high : ℕ
  pub before : List Miss
  pub misses : List Miss
  pub behind : List Miss
  pub among : s.misses ≡ before ++ (misses ++ behind)
  pub count : length misses ≡ tries
  pub each : All (IsMissAt k c op (length front) high) misses

abbrev pub HasWaitedSo : ℕ → SeatValue → ℕ → EndNode → Type 0
HasWaitedSo tries s k end.Ended = Unit {0}
HasWaitedSo tries s k (end.Faulted f) = Unit {0}
HasWaitedSo tries s k (end.Waiting at c op) = KnowsMisses tries k c op s

-- by what the seat knows task k ended so
abbrev pub HasEnded : (ℕ → List Reply → Solo → Type 0) → ℕ → SeatValue → ℕ → EndNode → Type 0
HasEnded alone tries s k e = RanAlone alone s.history k e × HasWaitedSo tries s k e

-- the seat s has taken in the seats of the tasks below n, which ended so; it was g before
pub record HaveRun (b : BoardValue) (alone : ℕ → List Reply → Solo → Type 0) (tries n : ℕ) (g s : SeatValue) (ends : List EndNode) : Type 0 where
  pub own : IsSeatOf b s
  pub all : (k : ℕ) → k < n → Has k s.numbers
  pub before : (k : ℕ) → Has k g.numbers → Has k s.numbers × (of_task k s.history ≡ of_task k g.history)
  pub count : length ends ≡ n
  pub each : AllFrom (HasEnded alone tries s) 0 ends
