-- All workers have ended well, or the soonest of their ends is the forall's.
use Rattle.std.proofs.Common.{Err, map, length, subst, sym}
use Rattle.std.proofs.lemmas.Result.{err_from_is_err_and}
use Rattle.dpl_sets.specs.Indices.{indices}
use Rattle.dpl_map.specs.Parts.{part}
use Rattle.dpl_apart.specs.Workers.{HaveWorkers}
use Rattle.dpl_language.specs.Loops.{named_turn}
use Rattle.dpl_workers.specs.declared.job.Job.{Job}
use Rattle.dpl_loop.specs.Values.{MayRefuseAmong}
use Rattle.dpl_workers.specs.Parts.{AreParts}
use Rattle.dpl_workers.specs.Soonest.{IsSoonest}
use Rattle.dpl_workers.proofs.Foralls.{made-from, made-ends, done-lacking}
use Rattle.dpl_workers.proofs.plan.made.Goals as goal

pub returns-in_err-ended-clause-ends : goal.returns-in_err-ended-clause-ends
returns-in_err-ended-clause-ends g c =
    let may = MayRefuseAmong (g.G.Gate.may_refuse c.args.site.now.gate.now) c.args.site.now.map.now (indices c.args.site.now.whole.now) in
    let turns = g.T.Turns.turn c.args.site.now.turns.now in
    let whole = c.args.site.now.whole.now in
    let axes = c.args.site.now.map.now in
    let h = c.args.plan.now.apart in
    let n = length c.args.plan.now.parts.items in
    let p = err_from_is_err_and c.from_residual-in_err-ended.result c.from_residual-in_err-ended.ensures.1 in
    rw (p.1, p.2)
    (λ m s done plan taken ranges.
    let parts = subst (AreParts whole axes) (sym c.deref.ensures.value) plan.parts in
    let workers = subst (λ ps. HaveWorkers (part whole axes) (length ps) (map (λ (j : Job). j.locale) c.in_ok-jobs.jobs.items)) c.deref.ensures.value (c.in_ok-jobs.ensures.locales whole axes parts) in
    let made = made-from may turns h whole axes n m c.args.frame.now c.in_ok-jobs.jobs.items c.in_ok-worked.worked.items (c.in_ok-jobs.ensures.jobs whole axes m parts taken) workers c.in_ok-worked.ensures.done in
    made-ends may h (turns c.args.frame.now.limits) whole axes m (plan.may c.args.frame.now.limits) plan.formed plan.exact ranges plan.rank n plan.parts.owners c.in_ok-worked.worked.items made
    c.in_err-ended.field-0.0 (subst (λ ws. IsSoonest (indices whole) ws (Err c.in_err-ended.field-0.0)) c.deref-2.ensures.value c.in_err-ended.ensures) s done)

pub returns-clause-made : goal.returns-clause-made
returns-clause-made g c m plan taken =
    let may = MayRefuseAmong (g.G.Gate.may_refuse c.args.site.now.gate.now) c.args.site.now.map.now (indices c.args.site.now.whole.now) in
    let turns = g.T.Turns.turn c.args.site.now.turns.now in
    let whole = c.args.site.now.whole.now in
    let axes = c.args.site.now.map.now in
    let parts = subst (AreParts whole axes) (sym c.deref.ensures.value) plan.parts in
    let workers = subst (λ ps. HaveWorkers (part whole axes) (length ps) (map (λ (j : Job). j.locale) c.in_ok-jobs.jobs.items)) c.deref.ensures.value (c.in_ok-jobs.ensures.locales whole axes parts) in
    made-from may turns c.args.plan.now.apart whole axes (length c.args.plan.now.parts.items) m c.args.frame.now c.in_ok-jobs.jobs.items c.in_ok-worked.worked.items
    (c.in_ok-jobs.ensures.jobs whole axes m parts taken) workers c.in_ok-worked.ensures.done

pub returns-clause-left : goal.returns-clause-left
returns-clause-left g c =
    let may = MayRefuseAmong (g.G.Gate.may_refuse c.args.site.now.gate.now) c.args.site.now.map.now (indices c.args.site.now.whole.now) in
    let turns = g.T.Turns.turn c.args.site.now.turns.now in
    done-lacking may (λ limits. named_turn (turns limits)) c.args.site.now.whole.now c.args.site.now.map.now c.in_ok-jobs.jobs.items c.in_ok-worked.worked.items c.args.taken.now.items c.jobs.new.taken.items c.in_ok-worked.ensures.done c.in_ok-jobs.ensures.taken
