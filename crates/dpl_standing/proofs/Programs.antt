-- A program that needs nothing which doesn't run yet and that breaks no rule prints and makes turns only where these may stand.
-- It is said of the lowered tree whose names are resolved, as that tree is run.
use Rattle.std.proofs.Common.{◌≡◌, [], None, sym, subst}
use Rattle.dpl_language.specs.Tree.{ProgramTree}
use Rattle.dpl_language.specs.Names.{Text}
use Rattle.dpl_agreement.specs.Renamed.{renamed_stmts, renamed_program}
use Rattle.dpl_lowered.specs.Known.{Known}
use Rattle.dpl_lowered.specs.LoweredStatements.{lowered_program}
use Rattle.dpl_agreement.specs.Untasked.{UntaskedStmts}
use Rattle.dpl_rules.specs.Breaches.{top_sight, stmts_breaches, count_breaches, all_declarations, breaches, first_breach}
use Rattle.dpl_rules.proofs.Admission.{first_empty}
use Rattle.dpl_rules.proofs.Soundness.{sound_exactly}
use Rattle.dpl_standing.specs.Standing.{Outside, AllMayStand}
use Rattle.dpl_standing.proofs.Renamed.{renamed_stmts-stand, stmts_stand-renamed}
use Rattle.dpl_standing.proofs.Lowered.{stmts_stand-lowered}
use Rattle.dpl_standing.proofs.Ruled.{program_stmts-stand}

-- ---- where nothing is broken no statement breaks a rule
pub unbroken-stmts : (t : ProgramTree Text) → breaches t ≡ [] → stmts_breaches top_sight t.stmts ≡ []
unbroken-stmts t h =
    first_empty (stmts_breaches top_sight t.stmts) (count_breaches (all_declarations t.stmts)) h

pub refused-none : (t : ProgramTree Text) → first_breach t ≡ None → stmts_breaches top_sight t.stmts ≡ []
refused-none t h = unbroken-stmts t ((sound_exactly t).1 h)

-- ---- a program
pub resolved-stands : {B C : Type 0} (f : B → Text) (g : B → C) (known : C → Known) (t : ProgramTree Text) (r : ProgramTree B)
    → UntaskedStmts t.stmts → stmts_breaches top_sight t.stmts ≡ [] → renamed_program f r ≡ t
    → AllMayStand Outside (lowered_program known (renamed_program g r)).stmts
resolved-stands f g known t r c h e =
    let spelled = subst (λ p. AllMayStand Outside p.stmts) (sym e) (program_stmts-stand top_sight t.stmts c h) in
    stmts_stand-lowered known Outside (renamed_stmts g r.stmts) (stmts_stand-renamed g Outside r.stmts (renamed_stmts-stand f Outside r.stmts spelled))
