-- How a run ends, what it has done by then, and how runs follow one another.
-- A run goes from a state, and from all that was done before it, to its end.
use Rattle.std.specs.Prelude.{ℕ, zero, suc, Bool, true, false, Result, Ok, Err, List, [], ◌∷◌, ◌++◌}
use Rattle.dpl_syntax.specs.declared.place.Place.{Place}
use Rattle.dpl_history.specs.declared.cell.CellState.{CellState}
use Rattle.dpl_history.specs.declared.cell.CellOp.{CellOp}
use Rattle.dpl_history.specs.declared.cell.Reply.{Reply}
use Rattle.dpl_history.specs.declared.history.Event.{Event}
use Rattle.dpl_sets.specs.TextRanges.{TextRange}
use Rattle.dpl_language.specs.Values.{Value, Index, Fault, fault, Budget, InTurn, in_the_turn}
use Rattle.dpl_language.specs.Distributions.{Root}

-- an operation on a cell that was done: the cell's number, the operation and its reply
pub record Operation : Type 0 where
  pub cell : ℕ
  pub op : CellOp
  pub reply : Reply

-- how a task ends by itself: it has ended, it stops with a fault, or it waits at an operation on a cell
pub data TaskEnd : Type 0 where
  Ended : TaskEnd
  Faulted : Fault → TaskEnd
  Waiting : Place → ℕ → CellOp → TaskEnd

-- what a task does by itself when its operations get given replies: its operations in order, and its end
pub record Solo : Type 0 where
  pub operations : List Operation
  pub end : TaskEnd

-- a coforall that was entered: the cells before it, what its tasks do by themselves, and the history that it took
pub record Entered : Type 0 where
  pub cells : List CellState
  pub tasks : List Solo
  pub history : List Event

-- A forall that was entered: the place of its word, the domain that it runs over, and what each name, as it is spelled,
-- was then, with its root. One past its budget made no turn.
pub record LoopRun : Type 0 where
  pub at : Place
  pub over : List TextRange
  pub value : List ℕ → Value
  pub root : List ℕ → Root

-- All that a run has done so far: what it printed, its operations on cells, the coforalls that it entered, and the foralls
-- where a record is kept of them.
pub record Deeds : Type 0 where
  pub text : List ℕ
  pub operations : List Operation
  pub entered : List Entered
  pub loops : List LoopRun

abbrev pub no_deeds : Deeds
no_deeds = record { text = []; operations = []; entered = []; loops = [] }

abbrev pub with_text : List ℕ → Deeds → Deeds
with_text text done = record done { text = done.text ++ text }

abbrev pub with_operation : ℕ → CellOp → Reply → Deeds → Deeds
with_operation c op r done =
    record done { operations = done.operations ++ record { cell = c; op = op; reply = r } ∷ [] }

abbrev pub with_entered : Entered → Deeds → Deeds
with_entered e done = record done { entered = done.entered ++ e ∷ [] }

abbrev pub with_loop : LoopRun → Deeds → Deeds
with_loop l done = record done { loops = done.loops ++ l ∷ [] }

-- A run is done, and leaves a state; or it stops with a fault; or it waits at an operation on a cell, of which the
-- place of the cell's name, the cell's number and the operation are told. Each tells all that was done by then.
pub data Outcome (S : Type 0) : Type 0 where
  Done : S → Deeds → Outcome S
  Stop : Fault → Deeds → Outcome S
  Waits : Place → ℕ → CellOp → Deeds → Outcome S

abbrev pub Run : Type 0 → Type 0
Run S = S → Deeds → Outcome S

-- goes on with a value, or is the fault in its place
abbrev pub with_ok : {A B : Type 0} → Result A Fault → (A → Result B Fault) → Result B Fault
with_ok (Ok v) go = go v
with_ok (Err f) go = Err f

-- goes on with a value, or stops with the fault in its place
abbrev pub with_value : {A S : Type 0} → Result A Fault → (A → Run S) → Run S
with_value (Ok v) go s done = go v s done
with_value (Err f) go s done = Stop f done

-- goes on where a run is done
abbrev pub then_do : {S : Type 0} → Outcome S → Run S → Outcome S
then_do (Done s done) go = go s done
then_do (Stop f done) go = Stop f done
then_do (Waits at c op done) go = Waits at c op done

-- one of two runs
abbrev pub choose : {S : Type 0} → Bool → Run S → Run S → Run S
choose true first second s done = first s done
choose false first second s done = second s done

-- a fault in the place of a run, where a test says so
abbrev pub unless : {S : Type 0} → Bool → Fault → Run S → Run S
unless true f go s done = Stop f done
unless false f go s done = go s done

-- the turns of a loop, one for each index, in order; the first that doesn't end is the last
abbrev pub in_order : {S : Type 0} → (Index → Run S) → List Index → Run S
in_order turn [] s done = Done s done
in_order turn (t ∷ ts) s done = then_do (turn t s done) (in_order turn ts)

-- A `while`, of which n turns may yet be made: its condition is evaluated, and where it holds and no turn is left,
-- the loop is F5 at its first word.
abbrev pub repeated : {S : Type 0} → ℕ → Place → (S → Result Bool Fault) → Run S → Run S
repeated zero at test body s done =
    with_value (test s) (λ holds. choose holds (λ s done. Stop (fault Budget at) done) (λ s done. Done s done)) s done
repeated (suc n) at test body s done =
    with_value (test s)
    (λ holds. choose holds (λ s done. then_do (body s done) (repeated n at test body)) (λ s done. Done s done)) s done

-- a fault that arises in a turn of a forall, a whole-array assignment or a reduction names that turn
abbrev pub naming : {S : Type 0} → Index → Outcome S → Outcome S
naming t (Stop f done) = Stop (in_the_turn (InTurn t) f) done
naming t o = o

abbrev pub naming_value : {A : Type 0} → Index → Result A Fault → Result A Fault
naming_value t (Ok v) = Ok v
naming_value t (Err f) = Err (in_the_turn (InTurn t) f)
