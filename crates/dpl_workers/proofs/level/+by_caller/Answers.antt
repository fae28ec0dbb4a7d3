-- The last job is done behind those before it.
use Rattle.dpl_sets.specs.Indices.{indices}
use Rattle.dpl_language.specs.Loops.{named_turn}
use Rattle.dpl_loop.specs.Values.{MayRefuseAmong}
use Rattle.dpl_workers.proofs.Workers.{done-more}
use Rattle.dpl_workers.proofs.level.+by_caller.Goals as goal

pub returns-clause-done : goal.returns-clause-done
returns-clause-done g t c =
    let may = MayRefuseAmong (g.G.Gate.may_refuse c.args.site.now.gate.now) c.args.site.now.map.now (indices c.args.site.now.whole.now) in
    done-more may (λ limits. named_turn (g.T.Turns.turn c.args.site.now.turns.now limits)) c.args.site.now.whole.now c.args.site.now.map.now c.pop.new.self.items c.in_ok-done.done.items c.in-Some.job c.work.result c.args.jobs.items c.push.new.self.items
    c.in-Some.ensures.items c.in_ok-push.ensures.items c.in_ok-done.ensures.done (c.work.ensures.locale, c.work.ensures.worked)
