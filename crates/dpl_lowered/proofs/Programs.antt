-- A lowered program means what the program means, in every environment.
-- Last what code is proved by: what a program writes is what an environment that agrees with names makes of its lowered tree.
use Rattle.std.proofs.Common.{◌≡◌, List, sym, ap, ◌∙◌, subst, Option, None}
use Rattle.dpl_history.specs.declared.history.Event.{Event}
use Rattle.dpl_language.specs.Tree.{ExprTree, StmtTree, ProgramTree}
use Rattle.dpl_language.specs.Values.{Value, Index}
use Rattle.dpl_language.specs.Outcome.{Deeds, no_deeds, Outcome}
use Rattle.dpl_language.specs.Environment.{Environment, Limits}
use Rattle.dpl_language.specs.Expressions.{value_of}
use Rattle.dpl_language.specs.Statements.{exec}
use Rattle.dpl_language.specs.Names.{Text, State, by_name}
use Rattle.dpl_language.specs.Program.{settled, first_state, meaning, written}
use Rattle.dpl_language.specs.Together.{Happened}
use Rattle.dpl_agreement.specs.Renamed.{renamed_program}
use Rattle.dpl_agreement.specs.Scopes.{Scoping, fits_all}
use Rattle.dpl_agreement.specs.Agreement.{Simulates}
use Rattle.dpl_agreement.proofs.ProgramsAlike.{run_from, written-same, happened-same}
use Rattle.dpl_lowered.specs.Known.{Known, nothing_known, IsKnown}
use Rattle.dpl_lowered.specs.LoweredExpressions.{Once, EachTurn, lowered_expr}
use Rattle.dpl_lowered.specs.LoweredStatements.{lowered_stmt, lowered_program}
use Rattle.dpl_lowered.proofs.Values.{value_of-lowered}
use Rattle.dpl_lowered.proofs.Runs.{exec-lowered, exec_all-lowered}

-- a run of a program's tree, from any state
pub run_from-lowered : {N S : Type 0} (limits : Limits) (env : Environment N S) (known : N → Known) → IsKnown known env → (t : ProgramTree N) (s : S)
    → run_from limits env (lowered_program known t) s ≡ run_from limits env t s
run_from-lowered limits env known is t s = ap settled (exec_all-lowered limits env known is t.stmts s no_deeds)

-- WITH NOTHING KNOWN: in every environment, whatever its state
module _ {N S : Type 0} (limits : Limits) (env : Environment N S) where
  nothing : IsKnown nothing_known env
  nothing x s = tt

  pub value_of-unknown : (e : ExprTree N) (t : Option Index) (s : S) → value_of limits env (lowered_expr nothing_known EachTurn e) t s ≡ value_of limits env e t s
  value_of-unknown e t s = value_of-lowered limits env nothing_known nothing EachTurn e t s tt

  pub value_of-unknown_once : (e : ExprTree N) (s : S) → value_of limits env (lowered_expr nothing_known Once e) None s ≡ value_of limits env e None s
  value_of-unknown_once e s = value_of-lowered limits env nothing_known nothing Once e None s tt

  pub exec-unknown : (t : StmtTree N) (s : S) (done : Deeds) → exec limits env (lowered_stmt nothing_known t) s done ≡ exec limits env t s done
  exec-unknown t s done = exec-lowered limits env nothing_known nothing t s done

  pub run_from-unknown : (t : ProgramTree N) (s : S) → run_from limits env (lowered_program nothing_known t) s ≡ run_from limits env t s
  run_from-unknown t s = run_from-lowered limits env nothing_known nothing t s

-- the meaning of a lowered program is the meaning of the program
pub meaning-lowered : (t : ProgramTree Text) (sets : List (Text × Value)) (limits : Limits) (histories : List (List Event))
    → meaning (lowered_program nothing_known t) sets limits histories ≡ meaning t sets limits histories
meaning-lowered t sets limits histories = run_from-unknown limits by_name t (first_state sets histories)

-- WITH OTHER NAMES: a program's tree has slots, say, in the place of its names, and is lowered by what is known of the slots
module _ {N G S : Type 0} (limits : Limits) (name : N → Text) (scoping : Scoping N G) (env : Environment N S) (R : G → State → S → Type 0) (sim : Simulates limits name scoping by_name env R) where
  pub written-lowered : (known : N → Known) → IsKnown known env → (t : ProgramTree N) (program : ProgramTree Text) (sets : List (Text × Value)) (histories : List (List Event)) (g : G) (s : S)
      → renamed_program name t ≡ program → fits_all scoping t.stmts g → R g (first_state sets histories) s → written (meaning program sets limits histories) ≡ written (run_from limits env (lowered_program known t) s)
  written-lowered known is t program sets histories g s same f r =
      written-same limits name scoping env R sim t program sets histories g s same f r ∙ sym (ap written (run_from-lowered limits env known is t s))

  pub happened-lowered : (known : N → Known) → IsKnown known env → (t : ProgramTree N) (program : ProgramTree Text) (sets : List (Text × Value)) (histories : List (List Event)) (g : G) (s : S)
      → renamed_program name t ≡ program → fits_all scoping t.stmts g → R g (first_state sets histories) s → Happened (run_from limits env (lowered_program known t) s) → Happened (meaning program sets limits histories)
  happened-lowered known is t program sets histories g s same f r h =
      happened-same limits name scoping env R sim t program sets histories g s same f r
      (subst (λ (o : Outcome S). Happened o) (run_from-lowered limits env known is t s) h)
