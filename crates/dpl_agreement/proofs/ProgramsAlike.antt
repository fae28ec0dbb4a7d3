-- What a program means is what any environment that agrees with names makes of its tree, whatever stands for a name there.
-- The same is written, and the same is done to cells; so a run of the one happened where a run of the other did.
use Rattle.std.proofs.Common.{◌≡◌, List, sym, subst}
use Rattle.dpl_history.specs.declared.history.Event.{Event}
use Rattle.dpl_language.specs.Tree.{ProgramTree}
use Rattle.dpl_language.specs.Values.{Value}
use Rattle.dpl_language.specs.Outcome.{no_deeds, Outcome}
use Rattle.dpl_language.specs.Environment.{Environment, Limits}
use Rattle.dpl_language.specs.Statements.{exec_all}
use Rattle.dpl_language.specs.Names.{Text, State, by_name}
use Rattle.dpl_language.specs.Program.{settled, first_state, meaning, written}
use Rattle.dpl_language.specs.Together.{AllTogether, Happened}
use Rattle.dpl_agreement.specs.Renamed.{renamed_program}
use Rattle.dpl_agreement.specs.Scopes.{Scoping, after_all, fits_all}
use Rattle.dpl_agreement.specs.Agreement.{Simulates, EndsAlike}
use Rattle.dpl_agreement.proofs.RunsAlike.{settled-alike, written-alike, deeds_of-alike}
use Rattle.dpl_agreement.proofs.Agreement.{exec_all-alike}

-- a run of a program's tree from a state
abbrev pub run_from : {N S : Type 0} → Limits → Environment N S → ProgramTree N → S → Outcome S
run_from limits env t s = settled (exec_all limits env t.stmts s no_deeds)

module _ {N G S : Type 0} (limits : Limits) (name : N → Text) (scoping : Scoping N G) (env : Environment N S) (R : G → State → S → Type 0) (sim : Simulates limits name scoping by_name env R) where
  pub meaning-alike : (t : ProgramTree N) (program : ProgramTree Text) (sets : List (Text × Value)) (histories : List (List Event)) (g : G) (s : S) → renamed_program name t ≡ program
      → fits_all scoping t.stmts g → R g (first_state sets histories) s → EndsAlike (R (after_all scoping t.stmts g)) (meaning program sets limits histories) (run_from limits env t s)
  meaning-alike t program sets histories g s same f r =
      subst (λ p. EndsAlike (R (after_all scoping t.stmts g)) (meaning p sets limits histories) (run_from limits env t s)) same
      (settled-alike (R (after_all scoping t.stmts g)) _ _
      (exec_all-alike limits name scoping by_name env R sim t.stmts g f (first_state sets histories) s no_deeds r))

  pub written-same : (t : ProgramTree N) (program : ProgramTree Text) (sets : List (Text × Value)) (histories : List (List Event)) (g : G) (s : S) → renamed_program name t ≡ program
      → fits_all scoping t.stmts g → R g (first_state sets histories) s → written (meaning program sets limits histories) ≡ written (run_from limits env t s)
  written-same t program sets histories g s same f r =
      written-alike (R (after_all scoping t.stmts g)) _ _ (meaning-alike t program sets histories g s same f r)

  pub happened-same : (t : ProgramTree N) (program : ProgramTree Text) (sets : List (Text × Value)) (histories : List (List Event)) (g : G) (s : S) → renamed_program name t ≡ program
      → fits_all scoping t.stmts g → R g (first_state sets histories) s → Happened (run_from limits env t s) → Happened (meaning program sets limits histories)
  happened-same t program sets histories g s same f r =
      subst (λ done. AllTogether done.entered) (sym (deeds_of-alike (R (after_all scoping t.stmts g)) _ _ (meaning-alike t program sets histories g s same f r)))
