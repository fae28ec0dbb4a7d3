-- What a script does by itself, where its operations get given replies.
-- Its deeds come one after another; where no reply is left for an operation, it waits there.
use Rattle.std.specs.Prelude.{ℕ, ℤ, pos, ◌≡◌, List, [], ◌∷◌, map, Result, Ok, Err, if◌then◌else◌, nat_lt, slice_index_or}
use Rattle.std.specs.Int.{w64, int_wrapping_add}
use Rattle.dpl_syntax.specs.declared.place.Place.{Place}
use Rattle.dpl_history.specs.declared.cell.CellOp.{CellOp}
use Rattle.dpl_history.specs.declared.cell.CellOp.TheVariants.{WriteEF}
use Rattle.dpl_history.specs.declared.cell.Reply.{Reply}
use Rattle.dpl_history.specs.declared.cell.Reply.TheVariants.{Value, Done}
use Rattle.dpl_history.specs.declared.history.Event.{Event}
use Rattle.dpl_language.specs.Values.{Fault, fault, ZeroDivisor, Outside}
use Rattle.dpl_language.specs.Outcome.{Solo, Ended, Faulted, Waiting}
use Rattle.dpl_task.specs.declared.end.TaskEnd.{TaskEnd as EndNode}
use Rattle.dpl_task.specs.Ends.{solo}
use Rattle.dpl_task_tests.specs.declared.scripts.Deed.{Deed}
use Rattle.dpl_task_tests.specs.declared.scripts.Deed.TheVariants.{Call, PutNext, Divide}

-- an operation on one of so many cells; one that isn't there is a fault
abbrev pub within : ℕ → Place → ℕ → CellOp → Result (Place × ℕ × CellOp) Fault
within cells at c op = if nat_lt c cells then Ok (at, c, op) else Err (fault Outside at)

-- the operation of a deed where this value was read last, or its fault
abbrev pub called : ℕ → Deed → ℤ → Result (Place × ℕ × CellOp) Fault
called cells (Call at c op) v = within cells at c op
called cells (PutNext at c) v = within cells at c (WriteEF (int_wrapping_add w64 v (pos 1)))
called cells (Divide at) v = Err (fault ZeroDivisor at)

-- the value that was read last, after a reply
abbrev pub read_by : ℤ → Reply → ℤ
read_by v (Value u) = u
read_by v Done = v

-- an operation that was done, and then the rest of a run
abbrev pub then_run : ℕ → CellOp → Reply → Solo → Solo
then_run c op r t = record { operations = record { cell = c; op = op; reply = r } ∷ t.operations; end = t.end }

-- one deed, by what it calls, and the deeds behind it
abbrev pub deed_run : Result (Place × ℕ × CellOp) Fault → ℤ → List Reply → (ℤ → List Reply → Solo) → Solo
deed_run (Err f) v rs go = record { operations = []; end = Faulted f }
deed_run (Ok x) v [] go = record { operations = []; end = Waiting x.0 x.1 x.2 }
deed_run (Ok x) v (r ∷ rs) go = then_run x.1 x.2 r (go (read_by v r) rs)

abbrev pub run_of : ℕ → List Deed → ℤ → List Reply → Solo
run_of cells [] v rs = record { operations = []; end = Ended }
run_of cells (d ∷ ds) v rs = deed_run (called cells d v) v rs (run_of cells ds)

-- the script of the task with this number; behind the last one there is nothing to do
abbrev pub script_of : List (List Deed) → ℕ → List Deed
script_of scripts k = slice_index_or scripts k []

-- a task that did these events and ended so did its script, given the replies that it got
abbrev pub HasPlayed : ℕ → List Deed → List Event → EndNode → Type 0
HasPlayed cells script es end = run_of cells script (pos 0) (map (λ (e : Event). e.reply) es) ≡ solo es end
