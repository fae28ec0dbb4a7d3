-- How the ends of tasks are told in the language's terms, and the order of refusals.
-- A task's run by itself is its operations, which a history has, and its end.
use Rattle.std.specs.Prelude.{◌≡◌, ℕ, ◌+◌, ◌≤◌, ◌⊎◌, List, [], ◌∷◌, map}
use Rattle.dpl_history.specs.declared.history.Event.{Event}
use Rattle.dpl_history.specs.Histories.{of_task}
use Rattle.dpl_frame.specs.declared.fault.Fault.{Fault as FaultNode}
use Rattle.dpl_frame.specs.Faults.{fault_view}
use Rattle.dpl_language.specs.Values.{Fault, InTask, in_the_turn}
use Rattle.dpl_language.specs.Outcome.{Solo, TaskEnd, Ended, Faulted, Waiting}
use Rattle.dpl_language.specs.Together.{operation_of}
use Rattle.dpl_task.specs.declared.end.TaskEnd.{TaskEnd as EndNode}
use Rattle.dpl_task.specs.declared.end.TaskEnd.TheVariants as end
use Rattle.dpl_task.specs.declared.end.Refusal.{Refusal}
use Rattle.dpl_task.specs.declared.end.Refusal.TheVariants as refusal

abbrev pub end_view : EndNode → TaskEnd
end_view end.Ended = Ended
end_view (end.Faulted f) = Faulted (fault_view f)
end_view (end.Waiting at c op) = Waiting at c op

-- the run by itself of a task that made these events and ended so
abbrev pub solo : List Event → EndNode → Solo
solo es e = record { operations = map operation_of es; end = end_view e }

-- the runs of the tasks of a history, numbered on from k, that ended so
abbrev pub solos_of : List Event → ℕ → List EndNode → List Solo
solos_of h k [] = []
solos_of h k (e ∷ es) = solo (of_task k h) e ∷ solos_of h (k + 1) es

-- the fault of the task with this number
abbrev pub named : ℕ × FaultNode → Fault
named t = in_the_turn (InTask t.0) (fault_view t.1)

-- memory comes before a thread, and a thread before an entry
abbrev pub rank : Refusal → ℕ
rank refusal.Memory = 0
rank refusal.Thread = 1
rank refusal.Gate = 2

-- of two refusals the first in this order
abbrev pub IsFirst : Refusal → Refusal → Refusal → Type 0
IsFirst a b r = ((r ≡ a) ⊎ (r ≡ b)) × (rank r ≤ rank a) × (rank r ≤ rank b)
