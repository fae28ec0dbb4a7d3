-- That something is sent is held before what its expression does.
-- Names in sight, slots and declarations stay as they are.
use Rattle.std.proofs.Common.{refl, option_map}
use Rattle.dpl_tree.specs.View.{expr_view}
use Rattle.dpl_rules.specs.Deeds.{held, AnOn, expr_deeds}
use Rattle.dpl_assignments.specs.Around.{reducing_view}
use Rattle.dpl_typed.proofs.Standing.{on_both}
use Rattle.dpl_checker.proofs.Steps.{adds_then}
use Rattle.dpl_checker.proofs.form.sent.Goals as goal

pub returns : goal.returns
returns c around =
    let walk = c.args.walk.now in
    on_both c.on.result
    (λ told added. record {
      scopes = refl;
      slots = refl;
      deeds = adds_then walk.deeds.items c.held.new.deeds.items c.on.new.deeds.items (held c.args.at AnOn) (expr_deeds walk.scopes (expr_view c.args.e.now)) c.in-Ok.ensures added;
      told = told;
      counts = refl;
    })
    (c.on.ensures.told (option_map reducing_view around.forall) around.in_task) c.on.ensures.deeds
