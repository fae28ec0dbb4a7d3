-- The least member of each dimension, as the language has it.
use Rattle.dpl_simple.proofs.Starting.{least_in-is}
use Rattle.dpl_simple.proofs.root.corner.Goals as goal

pub returns : goal.returns
returns c = least_in-is c.args.domain c.domain.result c.least.result c.domain.ensures.domain c.domain.ensures.limits c.least.ensures.none c.least.ensures.least
