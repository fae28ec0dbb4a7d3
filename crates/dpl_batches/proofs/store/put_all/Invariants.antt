use Rattle.std.proofs.Common.{◌≡◌, drop}
use Rattle.dpl_frame.specs.Frames.{with_memory}
use Rattle.dpl_batches.specs.Stores.{each_stored}
use Rattle.dpl_batches.proofs.store.put_all.Given as goal

-- the stores that are left give what all give at the start
abbrev pub invariant-loop-k : goal.invariant-loop-k
invariant-loop-k g l = record {
  same : l.frame ≡ with_memory l.frame.memory l.fn.frame;
  left : each_stored (drop l.k l.stores) l.size l.frame.memory ≡ each_stored l.stores l.size l.fn.frame.memory;
}
