-- What was planned, taken, made and put together is the forall.
use Rattle.std.proofs.Common.{◌++◌, length, subst, ap, ◌∙◌}
use Rattle.dpl_sets.specs.Indices.{indices}
use Rattle.dpl_language.specs.Environment.{Limits}
use Rattle.dpl_language.specs.Loops.{named_turn}
use Rattle.dpl_frame.specs.Frames.{Framed}
use Rattle.dpl_workers.specs.declared.plan.Plan.{Plan}
use Rattle.dpl_loop.specs.Values.{MayRefuseAmong}
use Rattle.dpl_workers.specs.Taken.{AreTaken, all_taken}
use Rattle.dpl_workers.specs.Foralls.{HaveMade}
use Rattle.dpl_workers.proofs.Foralls.{forall-made}
use Rattle.dpl_workers.proofs.plan.by_parts.Goals as goal

pub returns-clause-ends : goal.returns-clause-ends
returns-clause-ends g c =
    let may = MayRefuseAmong (g.G.Gate.may_refuse c.args.site.now.gate.now) c.args.site.now.map.now (indices c.args.site.now.whole.now) in
    let turns = g.T.Turns.turn c.args.site.now.turns.now in
    let whole = c.args.site.now.whole.now in
    let axes = c.args.site.now.map.now in
    let m = c.args.frame.now.memory in
    let p = c.args.plan.now in
    let before = c.in_ok-taken.taken.items in
    let e = c.take_all.new.frame.memory in
    let written = c.plan.inside.0.0.written.now in
    let taken : AreTaken axes p.apart.written m before e =
    subst (λ (p : Plan). AreTaken axes p.apart.written m before e) c.plan.view_is
    (record {
      taken = c.in_ok-taken.ensures.taken ∙ ap (λ ts. ts ++ all_taken axes m written) c.new.ensures.items;
      stays = ap (λ (f : Framed). f.memory) c.in_ok-taken.ensures.memory;
    }) in
    forall-made may turns c.args.frame.now.limits whole axes m e c.put_together.new.frame.memory p before c.made.new.taken.items c.in_ok-worked.worked.items c.requires.plan c.requires.ranges taken
    (subst (λ (l : Limits). HaveMade may (named_turn (turns l)) p.apart whole axes (length p.parts.items) m c.in_ok-worked.worked.items) c.take_all.ensures.limits (c.in_ok-worked.ensures.made m c.requires.plan taken))
    c.in_ok-worked.ensures.well c.in_ok-worked.ensures.left c.in_ok-put_together.ensures.pieces (ap (λ (f : Framed). f.memory) c.in_ok-put_together.ensures.together)
