-- What a coforall means, for a history that says what its tasks did to cells.
-- Each task is run by itself, its operations answered by the history; `Together` says when that is a run of all.
use Rattle.std.specs.Prelude.{ℕ, ◌+◌, Option, Some, None, List, [], ◌∷◌, map}
use Rattle.std.specs.Option.{option_or}
use Rattle.dpl_history.specs.declared.cell.CellState.{CellState}
use Rattle.dpl_history.specs.declared.cell.Reply.{Reply}
use Rattle.dpl_history.specs.declared.history.Event.{Event}
use Rattle.dpl_history.specs.Histories.{of_task}
use Rattle.dpl_language.specs.Values.{Index, Fault, fault, CellStuck, InTask, in_the_turn}
use Rattle.dpl_language.specs.Outcome.{Solo, TaskEnd, Ended, Faulted, Waiting, no_deeds, with_entered, Outcome, Done, Stop, Waits, Run}
use Rattle.dpl_language.specs.Environment.{Environment}

-- the replies that a history gives to a task's operations, in order
abbrev pub replies_of : ℕ → List Event → List Reply
replies_of k h = map (λ (e : Event). e.reply) (of_task k h)

-- a task's run by itself
abbrev pub solo_of : {S : Type 0} → Outcome S → Solo
solo_of (Done s done) = record { operations = done.operations; end = Ended }
solo_of (Stop f done) = record { operations = done.operations; end = Faulted f }
solo_of (Waits at c op done) = record { operations = done.operations; end = Waiting at c op }

-- the fault of a task that didn't end, which names the task alone; one that waits is F7 at the cell's name
abbrev pub task_fault : ℕ → TaskEnd → Option Fault
task_fault k Ended = None
task_fault k (Faulted f) = Some (in_the_turn (InTask k) f)
task_fault k (Waiting at c op) = Some (in_the_turn (InTask k) (fault CellStuck at))

-- tasks go on when another faults: the fault of the lowest-numbered one is the run's
abbrev pub first_fault : ℕ → List Solo → Option Fault
first_fault k [] = None
first_fault k (t ∷ ts) = option_or (task_fault k t.end) (first_fault (k + 1) ts)

-- a fault in the place of a run, where there is one
abbrev pub stop_or : {S : Type 0} → Option Fault → Run S → Run S
stop_or None go s done = go s done
stop_or (Some f) go s done = Stop f done

module _ {N S : Type 0} (env : Environment N S) where
  -- what each task does by itself, the tasks numbered on from k: it starts where the coforall stands
  abbrev pub solos : List Event → (Index → Run S) → ℕ → List Index → S → List Solo
  solos h turn k [] s = []
  solos h turn k (t ∷ ts) s = solo_of (turn t (env.begin (replies_of k h) s) no_deeds) ∷ solos h turn (k + 1) ts s

  -- the coforall with this variable goes on when all have ended, with the cells that the history leaves
  abbrev pub tasks_end : N → List CellState → List Event → List Solo → Run S
  tasks_end x cs h tasks s done =
      stop_or (first_fault 0 tasks) (λ s done. Done (env.settle x h s) done) s
      (with_entered (record { cells = cs; tasks = tasks; history = h }) done)

  -- one task for each index; the coforall takes the next history
  abbrev pub tasks_of : N → (Index → Run S) → List Index → Run S
  tasks_of x turn ts s done = tasks_end x (env.cells x s) (env.history s) (solos (env.history s) turn 0 ts s) s done
