use Rattle.std.proofs.Common.{length}
use Rattle.dpl_workers.proofs.soonest.+ended.Given as goal

-- proposed from what the function passes where it calls itself
abbrev pub decreases-ended : goal.decreases-ended
decreases-ended l = length l.worked.now
