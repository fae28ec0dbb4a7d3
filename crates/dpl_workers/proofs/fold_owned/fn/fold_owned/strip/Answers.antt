-- Both of what the strip promises.
-- These are the answers to the goals of the closure `strip` of `fold_owned`.
use Rattle.dpl_workers.proofs.fold_owned.fn.fold_owned.strip.Goals as goal

pub returns : goal.returns
returns g c meaning tells = (c.own_strip.ensures.row meaning tells, c.own_strip.ensures.holds meaning tells)
