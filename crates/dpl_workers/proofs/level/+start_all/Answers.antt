-- The worker that was joined last has done the last job, as its thread promised.
use Rattle.std.proofs.Common.{◌≡◌, IfOk, subst}
use Rattle.dpl_sets.specs.Indices.{indices}
use Rattle.dpl_language.specs.Environment.{Limits}
use Rattle.dpl_language.specs.Loops.{named_turn}
use Rattle.dpl_workers.specs.declared.level.Working.{Working}
use Rattle.dpl_loop.specs.Values.{MayRefuseAmong}
use Rattle.dpl_workers.specs.Parts.{indices_of}
use Rattle.dpl_workers.specs.declared.job.Worked.{Worked}
use Rattle.dpl_workers.specs.Workers.{HasWorked, HasDone, HaveDone}
use Rattle.dpl_workers.proofs.Workers.{done-more}
use Rattle.dpl_workers.proofs.level.+start_all.Goals as goal

pub returns-clause-done : goal.returns-clause-done
returns-clause-done g t c =
    let may = MayRefuseAmong (g.G.Gate.may_refuse c.args.site.now.gate.now) c.args.site.now.map.now (indices c.args.site.now.whole.now) in
    let turns = λ (limits : Limits). named_turn (g.T.Turns.turn c.args.site.now.turns.now limits) in
    let joined = c.join-worked.result in
    let w = c.in_ok-done.worked in
    let promised = subst
    (λ (p : Working _ _). (joined.locale ≡ p.locale) × HasWorked (MayRefuseAmong (g.G.Gate.may_refuse p.site.now.gate.now) p.site.now.map.now (indices p.site.now.whole.now))
    (named_turn (g.T.Turns.turn p.site.now.turns.now p.began.value.limits)) (indices_of p.part.now p.site.now.whole.now p.site.now.map.now p.locale) p.began.value.memory joined)
    c.in-Ok.ensures.ok c.join-worked.ensures in
    let worked = subst (λ f. HasWorked may (named_turn (g.T.Turns.turn c.args.site.now.turns.now f.limits)) (indices_of c.in-Some.job.part.now c.args.site.now.whole.now c.args.site.now.map.now c.in-Some.job.locale) f.memory joined) c.of.ensures promised.1 in
    let own = subst (λ (v : Worked). HasDone may turns c.args.site.now.whole.now c.args.site.now.map.now c.in-Some.job v) c.in_ok-done.ensures.ok.1 (promised.0, worked) in
    let below = subst (λ r. IfOk r (λ ws. HaveDone may turns c.args.site.now.whole.now c.args.site.now.map.now c.pop.new.self.items ws.items)) c.in_ok-done.ensures.ok.0 c.start_all-below.ensures.done in
    done-more may turns c.args.site.now.whole.now c.args.site.now.map.now c.pop.new.self.items c.in_ok-done.done.items c.in-Some.job w c.args.jobs.items c.push.new.self.items
    c.in-Some.ensures.items c.in_ok-push.ensures.items below own
