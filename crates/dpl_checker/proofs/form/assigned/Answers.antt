-- An assignment tells and does all that its statement does, in a task or not.
-- Names in sight, slots and declarations stay as they are.
use Rattle.std.proofs.Common.{refl}
use Rattle.dpl_typed.proofs.Standing.{on_both}
use Rattle.dpl_checker.proofs.form.assigned.Goals as goal

pub returns-clause-walks : goal.returns-clause-walks
returns-clause-walks c =
    on_both c.assignment.result
    (λ told added. record { scopes = refl; slots = refl; deeds = added; told = told c.args.around.in_task; counts = refl })
    c.assignment.ensures.told c.assignment.ensures.deeds
