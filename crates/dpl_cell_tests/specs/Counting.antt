-- Tasks that count up in the cell 0: what the clients in the tests promise.
-- In each round a task takes the value out with readFE and puts the next one in with writeEF.
use Rattle.std.specs.Prelude.{◌≡◌, ℕ, zero, suc, ◌<◌, ℤ, pos, List, [], ◌∷◌, ◌++◌, Result, IfOk}
use Rattle.std.specs.Int.{w64, int_wrapping_add}
use Rattle.dpl_history.specs.declared.cell.CellOp.TheVariants.{ReadFE, WriteEF}
use Rattle.dpl_history.specs.declared.cell.Reply.TheVariants.{Value, Done}
use Rattle.dpl_history.specs.declared.history.Event.{Event}
use Rattle.dpl_history.specs.Histories.{event, of_task}
use Rattle.dpl_cell.specs.declared.tried.Stuck.{Stuck}
use Rattle.dpl_cell.specs.Seats.{BoardValue, SeatValue, IsSeatOf, Has}

-- one more, wrapping at 64 bits
abbrev pub next : ℤ → ℤ
next v = int_wrapping_add w64 v (pos 1)

-- n more
abbrev pub counted : ℤ → ℕ → ℤ
counted v zero = v
counted v (suc n) = counted (next v) n

-- task k takes v out of the cell 0
abbrev pub takes : ℕ → ℤ → Event
takes k v = event k 0 ReadFE (Value v)

-- task k puts into the cell 0 what comes after v
abbrev pub puts_next : ℕ → ℤ → Event
puts_next k v = event k 0 (WriteEF (next v)) Done

-- the events are n rounds of task k
abbrev pub Counts : ℕ → ℕ → List Event → Type 0
Counts k zero es = es ≡ []
Counts k (suc n) es = (v : ℤ) × (rest : List Event) × (es ≡ takes k v ∷ puts_next k v ∷ rest) × Counts k n rest

-- since the seat v, its number has done n rounds and nothing else
abbrev pub HasCounted : ℕ → SeatValue → SeatValue → Type 0
HasCounted n v w = (es : List Event) × (of_task v.number w.history ≡ of_task v.number v.history ++ es) × Counts v.number n es

-- a task's seat when its thread has ended: if it was never stuck, all that its number did is n rounds
pub record HasCountedAlone (b : BoardValue) (k n : ℕ) (s : SeatValue) (ended : Result Unit Stuck) : Type 0 where
  pub own : IsSeatOf b s
  pub numbers : s.numbers ≡ k ∷ []
  pub counts : IfOk ended (λ _. Counts k n (of_task k s.history))

-- The seat s has taken in the seats of the tasks below m, each of which has done n rounds. It was g before.
pub record HaveCounted (b : BoardValue) (m n : ℕ) (g s : SeatValue) : Type 0 where
  pub own : IsSeatOf b s
  pub tasks : (k : ℕ) → k < m → Has k s.numbers × Counts k n (of_task k s.history)
  pub before : (k : ℕ) → Has k g.numbers → Has k s.numbers × (of_task k s.history ≡ of_task k g.history)
