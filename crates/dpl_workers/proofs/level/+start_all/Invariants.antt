-- The jobs become fewer.
use Rattle.std.proofs.Common.{vec_len}
use Rattle.dpl_workers.proofs.level.+start_all.Given as goal

abbrev pub decreases-start_all : goal.decreases-start_all
decreases-start_all g l = vec_len l.jobs
