-- What the contracts see of a board and of a seat.
-- A board and a seat are seen by these values alone, and by no field.
use Rattle.std.specs.Prelude.{◌≡◌, ℕ, ◌≤◌, List, [], ◌∷◌, ◌==◌, true, Some, slice_get}
use Rattle.std.specs.List.{list_any}
use Rattle.atomic_table.specs.Seated.{TableId}
use Rattle.dpl_history.specs.declared.cell.CellState.{CellState}
use Rattle.dpl_history.specs.declared.history.Event.{Event}
use Rattle.dpl_history.specs.declared.history.Miss.{Miss}

-- Which board it is: no two boards that exist at one time have the same. No clause says anything else of it; its field is
-- public since the prover has to tell two of them apart.
pub record BoardId : Type 0 where
  pub table : TableId

-- a board: which one it is, the cells with which it was opened, and the number of its tasks, which is also the
-- gatherer's number
pub record BoardValue : Type 0 where
  pub id : BoardId
  pub opening : List CellState
  pub tasks : ℕ

-- A seat: the board that it is of, the number as which it acts, the numbers for which it answers, a history of the board,
-- in which these numbers' events are all that they did, and their misses.
pub record SeatValue : Type 0 where
  pub board : BoardValue
  pub number : ℕ
  pub numbers : List ℕ
  pub history : List Event
  pub misses : List Miss

-- the seat is one of this board
abbrev pub IsSeatOf : BoardValue → SeatValue → Type 0
IsSeatOf b s = s.board ≡ b

-- k is among the numbers
abbrev pub Has : ℕ → List ℕ → Type 0
Has k ns = list_any (λ x. x == k) ns ≡ true

-- the seat answers for all numbers of its board
abbrev pub AnswersForAll : SeatValue → Type 0
AnswersForAll s = (k : ℕ) → k ≤ s.board.tasks → Has k s.numbers

-- a seat of the board that acts as number k, answers for k alone, and has seen nothing
abbrev pub fresh_seat : BoardValue → ℕ → SeatValue
fresh_seat b k = record { board = b; number = k; numbers = k ∷ []; history = []; misses = [] }

-- fresh seats of the numbers 0, 1 and so on, in order
abbrev pub AreFresh : BoardValue → List SeatValue → Type 0
AreFresh b ss = (k : ℕ) (s : SeatValue) → slice_get ss k ≡ Some s → s ≡ fresh_seat b k
