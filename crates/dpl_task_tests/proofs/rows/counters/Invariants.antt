-- `counters`: a script for each task so far.
-- The loop makes 64.
use Rattle.std.proofs.Common.{◌≡◌, vec_len}
use Rattle.dpl_task_tests.proofs.rows.counters.Given as goal

abbrev pub invariant-loop-made : goal.invariant-loop-made
invariant-loop-made l = vec_len l.all ≡ l._made
