-- A level goes down to the next locale.
use Rattle.std.proofs.Common.{◌-◌, ◌+◌, ◌*◌, length}
use Rattle.dpl_workers.proofs.fold_parts.+fn-spread-others+spread.Given as goal

abbrev pub decreases-spread : goal.decreases-spread
decreases-spread g l = 2 * (length l.shared.now.parts.now - l.locale)

abbrev pub decreases-others : goal.decreases-others
decreases-others g l = 2 * (length l.shared.now.parts.now - l.next) + 1
