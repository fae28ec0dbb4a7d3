-- Each mark is gone by where the scopes before it stand.
use Rattle.std.proofs.Common.{◌∙◌, sym, subst}
use Rattle.dpl_assignments.specs.Overs.{IsFoundBy}
use Rattle.dpl_assignments.proofs.FoundArrays.{deep-at, passed-at}
use Rattle.dpl_assignments.proofs.overs.walked.Goals as goal

pub pass-requires-clause-deep : goal.pass-requires-clause-deep
pass-requires-clause-deep c =
    let at = c.loop-mark in
    deep-at c.marks-marks.result.now at.mark-index _ at.walk.before c.loop-mark-test.true c.marks-marks.ensures.kept at.invariant.before

pub loop-mark-preserved : goal.loop-mark-preserved
loop-mark-preserved c =
    let at = c.loop-mark in
    let made = c.in_ok-pass.ensures in
    record {
      before = made.before ∙ passed-at c.marks-marks.result.now at.mark-index _ at.walk.before c.loop-mark-test.true at.invariant.before;
      found = subst (λ ss. IsFoundBy c.args.slot ss c.pass.new.self.slots.items c.pass.new.self.inner) (sym made.before) made.found;
    }
