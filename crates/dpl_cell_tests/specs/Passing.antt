-- Tasks that pass values on by the cell 0, used as a channel: what the clients in the tests promise.
-- One task puts values in with writeEF, and another takes them out with readFE.
use Rattle.std.specs.Prelude.{◌≡◌, ℕ, ℤ, List, ◌++◌, map}
use Rattle.dpl_history.specs.declared.cell.CellOp.TheVariants.{ReadFE, WriteEF}
use Rattle.dpl_history.specs.declared.cell.Reply.TheVariants.{Value, Done}
use Rattle.dpl_history.specs.declared.history.Event.{Event}
use Rattle.dpl_history.specs.Histories.{event, of_task}
use Rattle.dpl_cell.specs.Seats.{SeatValue}

-- task k puts these values in, in order
abbrev pub sends : ℕ → List ℤ → List Event
sends k vs = map (λ v. event k 0 (WriteEF v) Done) vs

-- task k takes these values out, in order
abbrev pub receives : ℕ → List ℤ → List Event
receives k vs = map (λ v. event k 0 ReadFE (Value v)) vs

-- since the seat v, its number has done this and nothing else
abbrev pub HasDone : List Event → SeatValue → SeatValue → Type 0
HasDone es v w = of_task v.number w.history ≡ of_task v.number v.history ++ es
