use Rattle.std.proofs.Common.{◌≡◌}
use Rattle.dpl_frame.specs.Frames.{with_memory}
use Rattle.dpl_batches.specs.Stores.{stored_in_turns}
use Rattle.dpl_batches.proofs.store.put_words.Given as goal

-- what the store leaves in the turns before
abbrev pub invariant-loop-k : goal.invariant-loop-k
invariant-loop-k g l = l.frame ≡ with_memory (stored_in_turns l.store l.k l.fn.frame.memory) l.fn.frame
