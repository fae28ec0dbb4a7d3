-- How a loop, or a run of statements, answers: the language's meaning ends so.
-- Where memory ran out or a worker was not started nothing is said of it, and where a gate refused, that it may.
use Rattle.std.specs.Prelude.{◌≡◌, ◌+◌, ◌<◌, ℕ, List, drop, Result, Ok, Err}
use Rattle.dpl_array.specs.Elements.{Row, behind}
use Rattle.dpl_language.specs.Values.{Index}
use Rattle.dpl_language.specs.Outcome.{Deeds, Outcome, Run, Done, Stop, in_order}
use Rattle.dpl_memory.specs.Memory.{Memory}
use Rattle.dpl_frame.specs.Faults.{fault_view}
use Rattle.dpl_loop.specs.declared.stop.RunStop.{RunStop}
use Rattle.dpl_loop.specs.declared.stop.RunStop.TheVariants as stop

-- done, with this memory and these deeds; stopped by the fault, with these deeds; or refused where it may be
abbrev pub RunsTo : Type 0 → Result (Unit {0}) RunStop → Memory → Deeds → Outcome Memory → Type 0
RunsTo may (Ok v) s done o = o ≡ Done s done
RunsTo may (Err (stop.Fault f)) s done o = o ≡ Stop (fault_view f) done
RunsTo may (Err stop.Memory) s done o = Unit {0}
RunsTo may (Err stop.Thread) s done o = Unit {0}
RunsTo may (Err stop.Gate) s done o = may

-- the same of what asks no gate
abbrev pub RunEnds : Result (Unit {0}) RunStop → Memory → Deeds → Outcome Memory → Type 0
RunEnds r s done o = RunsTo ⊥ r s done o

-- the turns of a row's first indices, so many, are done one after another: each begins in the memory in which the one before it ends
pub record AreDone (turn : Index → Run Memory) (row : Row) (size : ℕ) (before after : Memory) : Type 0 where
  pub between : ℕ → Memory
  pub begins : between 0 ≡ before
  pub ends : between size ≡ after
  pub each : (k : ℕ) → k < size → (done : Deeds) → turn (behind k row) (between k) done ≡ Done (between (k + 1)) done

-- turns in order from a place on are those from a later place, once some are done; or they end early
abbrev pub TurnsGoOn : Type 0 → (Index → Run Memory) → List Index → ℕ → Memory → Result ℕ RunStop → Memory → Deeds → Type 0
TurnsGoOn may turn ts place before (Ok next) after done = in_order turn (drop next ts) after done ≡ in_order turn (drop place ts) before done
TurnsGoOn may turn ts place before (Err h) after done = RunsTo may (Err h) after done (in_order turn (drop place ts) before done)

-- all that was done, this text being what was printed
abbrev pub having_printed : List ℕ → Deeds → Deeds
having_printed text done = record done { text = text }
