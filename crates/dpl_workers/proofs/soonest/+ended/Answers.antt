-- Of the end of the first worker and of those of the others together the sooner is told.
use Rattle.std.proofs.Common.{length, take, drop, ◌-◌, sym, subst}
use Rattle.dpl_sets.specs.Indices.{indices}
use Rattle.dpl_workers.specs.Soonest.{sooner_in, IsSoonest}
use Rattle.dpl_workers.proofs.WorkerEnds.{first-rest, soonest-next}
use Rattle.dpl_workers.proofs.soonest.+ended.Goals as goal

pub returns-in-len1-up : goal.returns-in-len1-up
returns-in-len1-up t c =
    let ts = indices c.args.whole.now in
    subst (λ e. IsSoonest ts c.args.worked.now e) (sym c.sooner.ensures)
    (subst (λ ws. IsSoonest ts ws (sooner_in ts c.first-item.result.end c.ended.result)) (first-rest c.args.worked.now c.first-item.result c.in-len1-up.len_at_least c.first-item.is)
    (soonest-next ts c.first-item.result (take (length c.args.worked.now - 1) (drop 1 c.args.worked.now)) c.ended.result c.ended.ensures))
