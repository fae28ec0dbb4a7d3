-- One strip more is made behind those before it.
-- These are the answers to the goals of `make_row`.
use Rattle.std.proofs.Common.{refl, subst, ◌∙◌, arith}
use Rattle.dpl_language.specs.Environment.{Limits}
use Rattle.dpl_loop.specs.Runs.{AreDone}
use Rattle.dpl_elements.specs.Wholes.{whole_turn}
use Rattle.dpl_strips.proofs.RowParts.{rest-again, whole-rest}
use Rattle.dpl_elements.proofs.RowTurns.{none-done, rest-done}
use Rattle.dpl_elements.proofs.whole.WholeTurnsTurns.make_row.Goals as goal

pub loop-made-init : goal.loop-made-init
loop-made-init g c = record {
  within = omega arith;
  here = whole-rest c.args.row;
  done = none-done (whole_turn c.args.self.now c.args.frame.now.limits) c.args.row c.args.frame.now.memory;
  limits = refl;
}

pub returns-in_default-clause-done : goal.returns-in_default-clause-done
returns-in_default-clause-done g c =
    let before = c.loop-made.invariant in
    let turns = c.args.self.now in
    let f = c.args.frame.now in
    let here = c.loop-made.here in
    let more = c.make_strip-more.result in
    let middle = c.loop-made.frame.memory in
    let after = c.make_strip-more.new.frame.memory in
    let made = subst (λ (limits : Limits). AreDone (whole_turn turns limits) here more middle after) before.limits c.make_strip-more.ensures.done in
    rest-done (whole_turn turns f.limits) c.args.row here c.loop-made.made more f.memory middle after before.here before.done made

pub loop-made-preserved : goal.loop-made-preserved
loop-made-preserved g c =
    let before = c.loop-made.invariant in
    let turns = c.args.self.now in
    let f = c.args.frame.now in
    let row = c.args.row in
    let here = c.loop-made.here in
    let made = c.loop-made.made in
    let more = c.make_strip-more.result in
    let middle = c.loop-made.frame.memory in
    let after = c.make_strip-more.new.frame.memory in
    let next = subst (λ (limits : Limits). AreDone (whole_turn turns limits) here more middle after) before.limits c.make_strip-more.ensures.done in
    record {
      within = omega (arith, before.within, c.make_strip-more.ensures.most, c.loop-made-test.true);
      here = rest-again row here c.in-Some.rest made more before.here c.in-Some.ensures;
      done = rest-done (whole_turn turns f.limits) row here made more f.memory middle after before.here before.done next;
      limits = c.make_strip-more.ensures.limits ∙ before.limits;
    }
