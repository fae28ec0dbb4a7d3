-- What the workers of a forall begin with, and what they leave.
use Rattle.std.specs.Prelude.{◌≡◌, List, [], ◌∷◌}
use Rattle.dpl_sets.specs.Ranges.{RangeValue}
use Rattle.dpl_map.specs.Maps.{AxisValue}
use Rattle.dpl_language.specs.Values.{Index}
use Rattle.dpl_language.specs.Outcome.{Deeds, Run, in_order}
use Rattle.dpl_language.specs.Environment.{Limits}
use Rattle.dpl_memory.specs.Memory.{Held, Memory}
use Rattle.dpl_frame.specs.Shares.{own_before, plain_of}
use Rattle.dpl_loop.specs.declared.stop.RunStop.{RunStop}
use Rattle.dpl_loop.specs.declared.stop.RunStop.TheVariants as stop
use Rattle.dpl_workers.specs.declared.job.Job.{Job}
use Rattle.dpl_workers.specs.declared.job.Worked.{Worked}
use Rattle.dpl_loop.specs.Runs.{RunsTo}
use Rattle.dpl_workers.specs.Parts.{indices_of}

-- a worker has made the turns of some indices, begun in a memory: how they ended, and what is left of the memory behind them
pub record HasWorked (may : Type 0) (turn : Index → Run Memory) (ts : List Index) (m : Memory) (w : Worked) : Type 0 where
  pub after : Memory
  pub words : w.words ≡ plain_of after
  pub shares : (lent : List Held) × (after.arrays ≡ own_before w.own.items lent)
  pub ends : (done : Deeds) → RunsTo may w.end after done (in_order turn ts m done)

-- and it is the worker of a job
abbrev pub HasDone : Type 0 → (Limits → Index → Run Memory) → List RangeValue → List AxisValue → Job → Worked → Type 0
HasDone may turn whole axes j w =
    (w.locale ≡ j.locale) × HasWorked may (turn j.frame.limits) (indices_of j.part.now whole axes j.locale) j.frame.memory w

-- jobs are done, one after another
abbrev pub HaveDone : Type 0 → (Limits → Index → Run Memory) → List RangeValue → List AxisValue → List Job → List Worked → Type 0
HaveDone may turn whole axes [] [] = Unit {0}
HaveDone may turn whole axes (j ∷ js) (w ∷ ws) = HasDone may turn whole axes j w × HaveDone may turn whole axes js ws
HaveDone may turn whole axes _ _ = ⊥

-- workers were not made: memory ran out, or no thread could be started
abbrev pub IsUnmade : RunStop → Type 0
IsUnmade (stop.Fault f) = ⊥
IsUnmade stop.Memory = Unit {0}
IsUnmade stop.Thread = Unit {0}
IsUnmade stop.Gate = ⊥
