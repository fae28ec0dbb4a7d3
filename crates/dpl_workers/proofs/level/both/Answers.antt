-- Want of memory alone is told sooner than that a worker was not made.
use Rattle.std.proofs.Common.{IfErr, subst}
use Rattle.dpl_sets.specs.Indices.{indices}
use Rattle.dpl_workers.specs.Workers.{IsUnmade}
use Rattle.dpl_workers.proofs.WorkerEnds.{told-unmade}
use Rattle.dpl_workers.proofs.level.both.Goals as goal

pub returns-in-Err-clause-unmade : goal.returns-in-Err-clause-unmade
returns-in-Err-clause-unmade c = told-unmade (indices c.args.whole.now) c.in-Err.stop c.args.worked.end c.told_first.result (subst (λ r. IfErr r IsUnmade) c.in-Err.is c.requires)
    c.told_first.ensures
