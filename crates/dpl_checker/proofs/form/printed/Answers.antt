-- A print tells and does all that its statement does, whatever forall stands around it.
-- Names in sight, slots and declarations stay as they are.
use Rattle.std.proofs.Common.{refl, option_map}
use Rattle.dpl_assignments.specs.Around.{reducing_view}
use Rattle.dpl_typed.proofs.Standing.{on_both}
use Rattle.dpl_checker.proofs.form.printed.Goals as goal

pub returns-clause-walks : goal.returns-clause-walks
returns-clause-walks c =
    on_both c.print.result
    (λ told added. record { scopes = refl; slots = refl; deeds = added; told = told; counts = refl })
    (c.print.ensures.told (option_map reducing_view c.args.around.forall)) c.print.ensures.deeds
