-- What a walk over statements makes of a frame, whoever answers its operations on cells and runs its foralls and coforalls.
-- The memory that the meaning starts from has replies and histories that are still to come: those that the walk took, which are read off
-- what it made, and behind them any others.
use Rattle.std.specs.Prelude.{◌≡◌, ◌⊎◌, ℕ, List, [], ◌∷◌, ◌++◌, Option, None, Some, Result, Ok, Err}
use Rattle.dpl_syntax.specs.declared.place.Place.{Place}
use Rattle.dpl_history.specs.declared.cell.CellOp.{CellOp}
use Rattle.dpl_history.specs.declared.cell.Reply.{Reply}
use Rattle.dpl_language.specs.Outcome.{Operation, LoopRun, Deeds, no_deeds, Outcome, Done, Waits, Run}
use Rattle.dpl_language.specs.Program.{settled}
use Rattle.dpl_language.specs.Together.{AllTogether}
use Rattle.dpl_memory.specs.Memory.{Coming, Memory}
use Rattle.dpl_loop.specs.declared.stop.RunStop.{RunStop}
use Rattle.dpl_loop.specs.declared.stop.RunStop.TheVariants as stop
use Rattle.dpl_loop.specs.Runs.{RunsTo}
use Rattle.dpl_coming.specs.Taken.{with_coming, ends_with, before, and_then}
use Rattle.dpl_coming.specs.Noting.{Note}

-- where statements stand: outside of tasks and foralls, in a turn of a forall, or in a task
pub data Site : Type 0 where
  Outside : Site
  InTurn : Site
  InTask : Site

-- What whoever runs statements knows of what was done by then: what was printed, the operations on cells, and counters of the foralls
-- that were noted, as they will be once these are noted besides.
pub record Known : Type 0 where
  pub text : List ℕ
  pub operations : List Operation
  pub counts : List LoopRun → List ℕ

-- what may come: outside of tasks no replies do, and in a task some
abbrev pub IsComing : Site → Coming → Type 0
IsComing Outside rest = rest.replies ≡ None
IsComing InTurn rest = Unit {0}
IsComing InTask rest = (rs : List Reply) × (rest.replies ≡ Some rs)

-- a memory with what is to come to statements there, and the same end of a run with it; to those in a turn nothing is, and a memory stays as it is
abbrev pub with_rest : Site → Coming → Memory → Memory
with_rest Outside rest s = with_coming rest s
with_rest InTurn rest s = s
with_rest InTask rest s = with_coming rest s

abbrev pub end_with_rest : Site → Coming → Outcome Memory → Outcome Memory
end_with_rest Outside rest o = ends_with rest o
end_with_rest InTurn rest o = o
end_with_rest InTask rest o = ends_with rest o

-- a run is done and does nothing that is known of, whatever is noted and to come
abbrev pub IsDoneUnseen : Memory → Memory → (Note → Run Memory) → Type 0
IsDoneUnseen s1 s2 a = (note : Note) (site : Site) (rest : Coming) (done : Deeds) → a note (with_rest site rest s1) done ≡ Done (with_rest site rest s2) done

-- What is known of what was done, before and after: outside of tasks the text, that the tasks of coforalls ran together, and the counters;
-- and in a task the operations. In a turn nothing is done.
abbrev pub IsMade : Site → Known → Deeds → Known → Type 0
IsMade Outside old made new =
    (new.text ≡ old.text ++ made.text) × AllTogether made.entered × ((more : List LoopRun) → new.counts more ≡ old.counts (made.loops ++ more))
IsMade InTurn old made new = made ≡ no_deeds
IsMade InTask old made new = (new.operations ≡ old.operations ++ made.operations) × (made.text ≡ []) × (made.entered ≡ []) × (made.loops ≡ [])

-- An operation that waits outside of tasks is F7 at once, as a program's run tells it in the end; in a task it ends the task.
abbrev pub finish : Site → Outcome Memory → Outcome Memory
finish Outside o = settled o
finish InTurn o = o
finish InTask o = o

-- no reply is left
abbrev pub IsOver : Option (List Reply) → Type 0
IsOver None = Unit {0}
IsOver (Some []) = Unit {0}
IsOver (Some (r ∷ rs)) = ⊥

-- a task waits at an operation, of which this is known; where no reply is left, the meaning waits there too
abbrev pub IsStuck : (Place → ℕ → CellOp → Type 0) → Coming → Deeds → Outcome Memory → Type 0
IsStuck waiting rest done o = (at : Place) × (c : ℕ) × (op : CellOp) × waiting at c op × (IsOver rest.replies → o ≡ Waits at c op done)

-- A run of statements ends so. A task that waits tells it as a refused entry does: it has no gate of its own.
abbrev pub EndsSo : Type 0 → Site → (Place → ℕ → CellOp → Type 0) → Result (Unit {0}) RunStop → Coming → Memory → Deeds → Outcome Memory → Type 0
EndsSo may site waiting r rest s done o = RunsTo (may ⊎ IsStuck waiting rest done o) r (with_rest site rest s) done (finish site o)

-- Nothing is told of what was done where memory ran out, a worker was not started or, outside of tasks, a gate refused an entry.
abbrev pub IsTold : Site → Result (Unit {0}) RunStop → Type 0
IsTold site (Ok v) = Unit {0}
IsTold site (Err (stop.Fault f)) = Unit {0}
IsTold site (Err stop.Memory) = ⊥
IsTold site (Err stop.Thread) = ⊥
IsTold InTask (Err stop.Gate) = Unit {0}
IsTold site (Err stop.Gate) = ⊥

-- THE CLAUSE of whoever runs statements: these deeds were made, and for whatever comes behind them the meaning ends so.
pub record Walks (may : Type 0) (site : Site) (waiting : Place → ℕ → CellOp → Type 0) (r : Result (Unit {0}) RunStop) (old new : Known) (s1 s2 : Memory) (run : Run Memory) : Type 0 where
  pub made : Deeds
  pub known : IsTold site r → IsMade site old made new
  pub ends : (rest : Coming) (done : Deeds) → IsComing site rest → EndsSo may site waiting r rest s2 (and_then done made) (run (with_rest site (before made rest) s1) done)

-- the same on the way: what one run comes to from the first memory, the other comes to from the second
pub record Goes (site : Site) (old new : Known) (s1 s2 : Memory) (whole left : Run Memory) : Type 0 where
  pub made : Deeds
  pub known : IsMade site old made new
  pub on : (rest : Coming) (done : Deeds) → IsComing site rest
      → whole (with_rest site (before made rest) s1) done ≡ left (with_rest site rest s2) (and_then done made)
