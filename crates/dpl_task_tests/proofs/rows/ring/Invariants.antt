-- `ring`: a script for each cell so far.
-- The loop makes 64.
use Rattle.std.proofs.Common.{◌≡◌, vec_len}
use Rattle.dpl_task_tests.proofs.rows.ring.Given as goal

abbrev pub invariant-loop-cell : goal.invariant-loop-cell
invariant-loop-cell l = vec_len l.all ≡ l.cell
