-- `first_fault`: the tasks before this one have no fault.
-- So the first fault is that of the tasks from here on.
use Rattle.std.proofs.Common.{◌≡◌, List, drop}
use Rattle.dpl_history.specs.declared.history.Event.{Event}
use Rattle.dpl_language.specs.Tasks.{first_fault}
use Rattle.dpl_task.specs.Ends.{solos_of}
use Rattle.dpl_task.proofs.together.Gathered.first_fault.Given as goal

abbrev pub invariant-loop-number : goal.invariant-loop-number
invariant-loop-number l = (h : List Event) → first_fault 0 (solos_of h 0 l.self.ends.items) ≡ first_fault l.number (solos_of h l.number (drop l.number l.self.ends.items))
