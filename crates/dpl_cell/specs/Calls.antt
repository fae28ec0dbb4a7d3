-- What the calls on a board make of a seat.
-- The seat before is v and the seat afterwards w.
use Rattle.std.specs.Prelude.{◌≡◌, ◌≢◌, ℕ, ◌<◌, ◌≤◌, List, [], ◌∷◌, ◌++◌, All, length, if◌then◌else◌, nat_le}
use Rattle.dpl_history.specs.declared.cell.CellOp.{CellOp}
use Rattle.dpl_history.specs.declared.cell.Reply.{Reply}
use Rattle.dpl_history.specs.declared.history.Event.{Event}
use Rattle.dpl_history.specs.declared.history.Miss.{Miss}
use Rattle.dpl_cell.specs.declared.tried.Tried.{Tried}
use Rattle.dpl_cell.specs.declared.tried.Tried.TheVariants
use Rattle.dpl_history.specs.Histories.{event, of_task, StartsWith}
use Rattle.dpl_history.specs.Looks.{fits, miss}
use Rattle.dpl_cell.specs.Seats.{SeatValue, Has}

-- only a join changes for whom a seat answers
abbrev pub KeepsNumbers : SeatValue → SeatValue → Type 0
KeepsNumbers v w = (w.number ≡ v.number) × (w.numbers ≡ v.numbers)

-- The operation was done, once: the new history begins with the old one and ends with the operation's event.
-- The number's events are those from before and this one, and nothing else that the seat answers for has changed.
pub record Did (v : SeatValue) (cell : ℕ) (op : CellOp) (r : Reply) (w : SeatValue) : Type 0 where
  pub begins : StartsWith w.history v.history
  pub ends : (es : List Event) × (w.history ≡ es ++ event v.number cell op r ∷ [])
  pub mine : of_task v.number w.history ≡ of_task v.number v.history ++ event v.number cell op r ∷ []
  pub others : (k : ℕ) → Has k v.numbers → k ≢ v.number → of_task k w.history ≡ of_task k v.history
  pub misses : w.misses ≡ v.misses

-- The operation missed: the word that was seen, 0 for empty, 1 for full or 2 for busy, does not fit it, and is one miss more,
-- at the length of the history known then. That history begins with the old one, and has no new event of the seat's numbers.
pub record Missed (v : SeatValue) (cell : ℕ) (op : CellOp) (word : ℕ) (w : SeatValue) : Type 0 where
  pub begins : StartsWith w.history v.history
  pub quiet : (k : ℕ) → Has k v.numbers → of_task k w.history ≡ of_task k v.history
  pub seen : word < 3
  pub unfit : fits word op → ⊥
  pub misses : w.misses ≡ v.misses ++ miss v.number (length w.history) cell word ∷ []

-- a miss of the number at the cell, by a word that does not fit, when the history had from `low` to `high` events
pub record IsMissAt (number cell : ℕ) (op : CellOp) (low high : ℕ) (m : Miss) : Type 0 where
  pub task : m.task ≡ number
  pub cell_is : m.cell ≡ cell
  pub since : low ≤ m.place
  pub until : m.place ≤ high
  pub seen : m.word < 3
  pub unfit : fits m.word op → ⊥

-- n tries missed, one after another, and no event of the seat's numbers was added
pub record Waited (n : ℕ) (v : SeatValue) (cell : ℕ) (op : CellOp) (w : SeatValue) : Type 0 where
  pub begins : StartsWith w.history v.history
  pub quiet : (k : ℕ) → Has k v.numbers → of_task k w.history ≡ of_task k v.history
  pub missed :
      (ms : List Miss) × (w.misses ≡ v.misses ++ ms) × (length ms ≡ n)
      × All (IsMissAt v.number cell op (length v.history) (length w.history)) ms

-- some tries missed, fewer than `tries`, and then the operation was done
pub record DidAfter (tries : ℕ) (v : SeatValue) (cell : ℕ) (op : CellOp) (r : Reply) (w : SeatValue) : Type 0 where
  pub missed : ℕ
  pub fewer : missed < tries
  pub between : SeatValue
  pub numbers : KeepsNumbers v between
  pub waited : Waited missed v cell op between
  pub did : Did between cell op r w

-- of two histories the longer
abbrev pub longer : List Event → List Event → List Event
longer es fs = if nat_le (length fs) (length es) then es else fs

-- Both histories are beginnings of one, which is the longer of them. The seat knows it and acts as before, and now
-- answers for the numbers of both, with the misses of both and, of each number, the events that were known before.
pub record Joined (v other w : SeatValue) : Type 0 where
  pub number : w.number ≡ v.number
  pub numbers : w.numbers ≡ v.numbers ++ other.numbers
  pub misses : w.misses ≡ v.misses ++ other.misses
  pub history : w.history ≡ longer v.history other.history
  pub left : StartsWith w.history v.history
  pub right : StartsWith w.history other.history
  pub mine : (k : ℕ) → Has k v.numbers → of_task k w.history ≡ of_task k v.history
  pub theirs : (k : ℕ) → Has k other.numbers → of_task k w.history ≡ of_task k other.history

-- the fact holds of the reply, if the try was done
abbrev pub IfDone : Tried → (Reply → Type 0) → Type 0
IfDone (TheVariants.Done r) P = P r
IfDone (TheVariants.Missed w) P = Unit {0}

-- the fact holds of the word that was seen, if the try missed
abbrev pub IfMissed : Tried → (ℕ → Type 0) → Type 0
IfMissed (TheVariants.Done r) P = Unit {0}
IfMissed (TheVariants.Missed w) P = P w
