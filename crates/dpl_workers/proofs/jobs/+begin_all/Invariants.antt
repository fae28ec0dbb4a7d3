-- Each call has one fewer.
use Rattle.std.proofs.Common.{length}
use Rattle.dpl_workers.proofs.jobs.+begin_all.Given as goal

abbrev pub decreases-begin_all : goal.decreases-begin_all
decreases-begin_all l = length l.parts.now
