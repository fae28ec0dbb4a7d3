use Rattle.std.proofs.Common.{◌≡◌, ◌+◌, drop}
use Rattle.dpl_frame.specs.Frames.{with_memory}
use Rattle.dpl_elements.specs.Turns.{each_bound}
use Rattle.dpl_batches.proofs.variables.bind_others.Given as goal

-- the slots that are left give what all give at the start
abbrev pub invariant-loop-k : goal.invariant-loop-k
invariant-loop-k g l = record {
  same : l.frame ≡ with_memory l.frame.memory l.initial.frame;
  left : each_bound (l.k + 1) (drop l.k l.others) l.index l.frame.memory ≡ each_bound 1 l.others l.index l.initial.frame.memory;
}
