-- Each call has one fewer.
use Rattle.std.proofs.Common.{length}
use Rattle.dpl_workers.proofs.given.+put_all.Given as goal

abbrev pub decreases-put_all : goal.decreases-put_all
decreases-put_all l = length l.worked.now
