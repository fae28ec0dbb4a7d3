-- Each is declared behind those before it, with the next slot.
use Rattle.std.proofs.Common.{◌∙◌}
use Rattle.dpl_scopes.specs.Types.{of_type}
use Rattle.dpl_heads.proofs.Once.{variables_step, slots_step}
use Rattle.dpl_heads.proofs.variables.more_variables.Goals as goal

pub loop-next-preserved : goal.loop-next-preserved
loop-next-preserved c =
    let at = c.loop-next in
    let t = of_type c.args.found in
    let xs = c.args.others.now in
    let made = c.in-Ok.ensures in
    let us = c.variable.new.scopes in
    let step = variables_step t xs at.next-index _ c.loop-next-test.true at.scopes us made.scopes at.first c.variable.new.first made.told in
    record {
      scopes = step.0 ∙ at.invariant.scopes;
      told = step.1 ∙ at.invariant.told;
      slots = slots_step t xs at.next-index _ c.loop-next-test.true at.scopes us made.scopes c.in-Ok.slot at.slots.items c.push.new.self.items made.slot c.in-Ok-push.ensures.items ∙ at.invariant.slots;
    }
