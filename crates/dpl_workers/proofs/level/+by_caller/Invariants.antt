-- The jobs become fewer.
use Rattle.std.proofs.Common.{vec_len}
use Rattle.dpl_workers.proofs.level.+by_caller.Given as goal

abbrev pub decreases-by_caller : goal.decreases-by_caller
decreases-by_caller g l = vec_len l.jobs
