use Rattle.std.proofs.Common.{◌≤◌}
use Rattle.dpl_batches.proofs.batch.+writes.Given as goal

abbrev pub invariant-all_written-loop-k : goal.invariant-all_written-loop-k
invariant-all_written-loop-k g l = l.all ≤ 4
