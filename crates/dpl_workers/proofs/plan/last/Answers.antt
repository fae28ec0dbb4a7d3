-- The last place is the last index's.
use Rattle.std.proofs.Common.{◌∙◌}
use Rattle.dpl_sets.specs.Indices.{indices}
use Rattle.dpl_workers.proofs.WorkerEnds.{last-at}
use Rattle.dpl_workers.proofs.plan.last.Goals as goal

pub returns : goal.returns
returns c = c.nth.ensures ∙ last-at (indices c.args.domain.now) c.size-size.result c.size-size.ensures.size c.if-size-eq0.false
