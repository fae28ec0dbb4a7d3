-- With what is left to take, what was taken so far and what stays of the memory is what comes of all slots.
use Rattle.std.proofs.Common.{◌≡◌, ◌++◌, drop}
use Rattle.dpl_apart.specs.Rows.{AreOnce}
use Rattle.dpl_frame.specs.Frames.{with_memory}
use Rattle.dpl_workers.specs.Taken.{emptied, all_taken}
use Rattle.dpl_workers.proofs.taken.take_all.Given as goal

abbrev pub invariant-loop-slot : goal.invariant-loop-slot
invariant-loop-slot l = let left = drop l.slot-index l.slots in record {
  once : AreOnce left;
  memory : with_memory (emptied left l.frame.memory) l.frame ≡ with_memory (emptied l.slots l.initial.frame.memory) l.initial.frame;
  limits : l.frame.limits ≡ l.initial.frame.limits;
  taken : l.taken.items ++ all_taken l.map l.frame.memory left ≡ l.initial.taken.items ++ all_taken l.map l.initial.frame.memory l.slots;
}
