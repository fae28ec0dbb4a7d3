-- `stoppers`: a script for each task so far.
-- The loop makes 64.
use Rattle.std.proofs.Common.{◌≡◌, vec_len}
use Rattle.dpl_task_tests.proofs.rows.stoppers.Given as goal

abbrev pub invariant-loop-task : goal.invariant-loop-task
invariant-loop-task l = vec_len l.all ≡ l.task
