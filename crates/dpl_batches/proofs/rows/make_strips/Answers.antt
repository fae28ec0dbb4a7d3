-- One strip more is made behind those before it.
-- These are the answers to the goals of `make_strips`.
use Rattle.std.proofs.Common.{◌≡◌, ◌+◌, refl, subst, ◌∙◌, arith}
use Rattle.dpl_language.specs.Environment.{Limits}
use Rattle.dpl_readings.specs.Readings.{steps_in}
use Rattle.dpl_loop.specs.Runs.{AreDone}
use Rattle.dpl_elements.specs.Turns.{index_turn}
use Rattle.dpl_strips.proofs.RowParts.{rest-again, whole-rest}
use Rattle.dpl_elements.proofs.RowTurns.{none-done, rest-done}
use Rattle.dpl_batches.proofs.rows.make_strips.Goals as goal

pub loop-all-init : goal.loop-all-init
loop-all-init g c = record {
  within = omega arith;
  few = c.requires;
  here = whole-rest c.args.row;
  done = λ w. none-done (index_turn c.args.frame.now.limits c.args.names.now (steps_in w c.args.body.now)) c.args.row c.args.frame.now.memory;
  limits = refl;
}

pub returns-in_default-rest_of-clause-done : goal.returns-in_default-rest_of-clause-done
returns-in_default-rest_of-clause-done g c w =
    let before = c.loop-all.invariant in
    let f = c.args.frame.now in
    let turn = λ (limits : Limits). index_turn limits c.args.names.now (steps_in w c.args.body.now) in
    let here = c.loop-all.here in
    let size = c.in-Ok.size in
    let middle = c.loop-all.frame.memory in
    let after = c.make_strip.new.frame.memory in
    let made = subst (λ (limits : Limits). AreDone (turn limits) here size middle after) before.limits (c.in-Ok.ensures.done w) in
    rest-done (turn f.limits) c.args.row here c.loop-all.all size f.memory middle after before.here (before.done w) made

pub returns-then-size-eq0-clause-done : goal.returns-then-size-eq0-clause-done
returns-then-size-eq0-clause-done g c w =
    let before = c.loop-all.invariant in
    let f = c.args.frame.now in
    let turn = λ (limits : Limits). index_turn limits c.args.names.now (steps_in w c.args.body.now) in
    let here = c.loop-all.here in
    let size = c.in-Ok.size in
    let middle = c.loop-all.frame.memory in
    let after = c.make_strip.new.frame.memory in
    let same : c.loop-all.all + size ≡ c.loop-all.all = omega (arith, c.if-size-eq0.true) in
    let made = subst (λ (limits : Limits). AreDone (turn limits) here size middle after) before.limits (c.in-Ok.ensures.done w) in
    subst (λ n. AreDone (turn f.limits) c.args.row n f.memory after) same
    (rest-done (turn f.limits) c.args.row here c.loop-all.all size f.memory middle after before.here (before.done w) made)

pub loop-all-preserved : goal.loop-all-preserved
loop-all-preserved g c =
    let before = c.loop-all.invariant in
    let f = c.args.frame.now in
    let row = c.args.row in
    let here = c.loop-all.here in
    let all = c.loop-all.all in
    let size = c.in-Ok.size in
    let middle = c.loop-all.frame.memory in
    let after = c.make_strip.new.frame.memory in
    record {
      within = omega (arith, before.within, c.in-Ok.ensures.most, c.loop-all-test.true);
      few = omega (arith, c.begin_again.ensures, c.make_strip.ensures.few);
      here = rest-again row here c.in-Some.rest all size before.here c.in-Some.ensures;
      done = λ w.
          let turn = λ (limits : Limits). index_turn limits c.args.names.now (steps_in w c.args.body.now) in
          let next = subst (λ (limits : Limits). AreDone (turn limits) here size middle after) before.limits (c.in-Ok.ensures.done w) in
          rest-done (turn f.limits) row here all size f.memory middle after before.here (before.done w) next;
      limits = c.make_strip.ensures.limits ∙ before.limits;
    }
