use Rattle.std.proofs.Common.{vec_len}
use Rattle.dpl_workers.proofs.joined.+take_left.Given as goal

abbrev pub decreases-take_left : goal.decreases-take_left
decreases-take_left l = vec_len l.worked
