-- A condition tells and does all, whatever stands around it.
-- Names in sight, slots and declarations stay as they are.
use Rattle.std.proofs.Common.{refl, option_map}
use Rattle.dpl_assignments.specs.Around.{reducing_view}
use Rattle.dpl_typed.proofs.Standing.{on_both}
use Rattle.dpl_checker.proofs.form.tested.Goals as goal

pub returns-clause-walks : goal.returns-clause-walks
returns-clause-walks c around =
    on_both c.condition.result
    (λ told added. record { scopes = refl; slots = refl; deeds = added; told = told; counts = refl })
    (c.condition.ensures.told (option_map reducing_view around.forall) around.in_task) c.condition.ensures.deeds
