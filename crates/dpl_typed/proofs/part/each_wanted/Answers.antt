use Rattle.std.proofs.Common.{◌∙◌}
use Rattle.dpl_types.specs.Wants.{takes}
use Rattle.dpl_typed.proofs.Steps.{wanted_step}
use Rattle.dpl_typed.proofs.part.each_wanted.Goals as goal

pub loop-part-preserved : goal.loop-part-preserved
loop-part-preserved c =
    let at = c.loop-part in
    let step = wanted_step (takes c.args.of) c.args.parts.now at.part-index c.part-item.result c.loop-part-test.true c.part-item.is at.holds c.wanted-holds.result at.first c.wanted-holds.new.first c.wanted-holds.ensures in
    (step.0 ∙ at.invariant.0, step.1 ∙ at.invariant.1)
