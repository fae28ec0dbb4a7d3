-- A lowered statement runs as the statement that it comes from, in every environment that is as is known.
-- One induction over statements, bodies and what stands behind `else`.
use Rattle.std.proofs.Common.{◌≡◌, nat_lt, List, [], refl, ap, ◌∙◌, Option, None}
use mathlib.Core.Path.{fun_ext}
use Rattle.dpl_syntax.specs.declared.place.Place.{Place}
use Rattle.dpl_sets.specs.TextRanges.{TextRange}
use Rattle.dpl_language.specs.Values.{Index, number, fault, PastLimit}
use Rattle.dpl_language.specs.Ranges.{indices_in, size_in, loop_ranges}
use Rattle.dpl_language.specs.Tree.{ExprTree, VariablesTree, WithTree}
use Rattle.dpl_language.specs.Tree.{HeadWord, WhileWord, OnWord, LoopWord, ForWord, ForallWord, CoforallWord, StmtTree, Nothing, Declare, Assigned, Call, Write, Block, If, Headed, Loop, Body, WordBody, BlockBody, Stmts, NoStmts, Then, Else, NoElse, ElseDo}
use Rattle.dpl_language.specs.Outcome.{Deeds, Outcome, Done, Stop, Waits, Run, with_value, then_do, choose, unless, repeated}
use Rattle.dpl_language.specs.Environment.{Environment, Limits}
use Rattle.dpl_language.specs.Phrases.{intents_of}
use Rattle.dpl_language.specs.Expressions.{item_of}
use Rattle.dpl_language.specs.Declarations.{declare}
use Rattle.dpl_language.specs.Roots.{dealt}
use Rattle.dpl_language.specs.Loops.{within_budget, named_turn, scoped, turn_of}
use Rattle.dpl_language.specs.Statements.{task_limit, holds, headed, looped, exec, exec_body, exec_all, exec_else}
use Rattle.dpl_language.specs.Tasks.{tasks_of}
use Rattle.dpl_agreement.proofs.RunsAlike.{with_ok-same}
use Rattle.dpl_lowered.specs.Known.{Known, IsKnown}
use Rattle.dpl_lowered.specs.Shapes.{kept}
use Rattle.dpl_lowered.specs.LoweredExpressions.{Once, lowered_expr}
use Rattle.dpl_lowered.specs.LoweredStatements.{lowered_variables, lowered_intents, tells_head, lowered_declare, lowered_stmt, lowered_body, lowered_stmts, lowered_else}
use Rattle.dpl_lowered.proofs.Values.{value_of-lowered, item_of-lowered}
use Rattle.dpl_lowered.proofs.Parts.{intents_of-made, turn_of-lowered, first_name-lowered}
use Rattle.dpl_lowered.proofs.Assignments.{assign-lowered, cell_call-lowered}
use Rattle.dpl_lowered.proofs.Declarations.{declare-lowered}
use Rattle.dpl_lowered.proofs.Roots.{dealt-lowered}
use Rattle.dpl_lowered.proofs.Writing.{write-lowered}

module _ {N S : Type 0} (limits : Limits) (env : Environment N S) where
  then-no_more : (o : Outcome S) → then_do o (exec_all limits env NoStmts) ≡ o
  then-no_more (Done s done) = refl
  then-no_more (Stop f done) = refl
  then-no_more (Waits at c op done) = refl

module _ {N S : Type 0} (limits : Limits) (env : Environment N S) (known : N → Known) (is : IsKnown known env) where
  holds-lowered : (e : ExprTree N) (s : S) → holds limits env (lowered_expr known Once e) s ≡ holds limits env e s
  holds-lowered e s = with_ok-same _ _ _ _ (value_of-lowered limits env known is Once e None s tt) (λ v. refl)

  -- by the word of a head, and of a loop
  headed-lowered : (word : HeadWord) (at : Place) (e : ExprTree N) (run : Run S) (s : S) (done : Deeds)
      → headed limits env word (kept (tells_head word) at) (lowered_expr known Once e) run s done ≡ headed limits env word at e run s done
  headed-lowered WhileWord at e run s done = ap (λ test. repeated limits.budget at test run s done) (fun_ext (λ s. holds-lowered e s))
  headed-lowered OnWord at e run s done =
      ap (λ r. with_value r (λ v s done. then_do (run (env.move (number v) s) done) (λ after done. Done (env.move (env.here s) after) done)) s done)
      (value_of-lowered limits env known is Once e None s tt)

  looped-lowered : (word : LoopWord) (at : Place) (xs : VariablesTree N) (intents : Option (WithTree N)) (rs : List TextRange) (turn : Index → Run S)
      → looped limits env word at (lowered_variables xs) (lowered_intents word intents) rs turn ≡ looped limits env word at xs intents rs turn
  looped-lowered ForWord at xs intents rs turn = refl
  looped-lowered ForallWord at xs intents rs turn =
      ap (λ ps (s : S) (done : Deeds). then_do (within_budget limits at rs (named_turn turn) (env.intend ps s) (env.note at rs s done)) (λ s done. Done (env.intend [] s) done))
      (intents_of-made (intents_of intents))
  looped-lowered CoforallWord at xs intents rs turn =
      ap (λ x. unless (nat_lt task_limit (size_in rs)) (fault PastLimit at) (tasks_of env x turn (indices_in rs))) (first_name-lowered xs)

  mutual
    pub exec-lowered : (t : StmtTree N) (s : S) (done : Deeds) → exec limits env (lowered_stmt known t) s done ≡ exec limits env t s done
    exec-lowered (Nothing at) s done = refl
    exec-lowered (Declare d) s done =
        ap (λ o. then_do o (λ after done. Done (dealt limits env (lowered_declare known d) s after) done)) (declare-lowered limits env known is d s done)
        ∙ ap (then_do (declare limits env d s done)) (fun_ext (λ after. fun_ext (λ done. ap (λ t. Done t done) (dealt-lowered limits env known is d s after))))
    exec-lowered (Assigned target sign item semicolon) s done = assign-lowered limits env known is target sign item s done
    exec-lowered (Call x dot call semicolon) s done = cell_call-lowered limits env known is x call s done
    exec-lowered (Write w) s done = write-lowered limits env known is w s done
    exec-lowered (Block from body upto) s done = ap (λ run. scoped env run s done) (fun_ext (λ s. fun_ext (λ done. exec_all-lowered body s done)))
    exec-lowered (If at e first second) s done =
        ap (λ r. with_value r (λ b. choose b (scoped env (exec_body limits env (lowered_body known first))) (exec_else limits env (lowered_else known second))) s done) (holds-lowered e s)
        ∙ ap (λ run. with_value (holds limits env e s) (λ b. choose b (scoped env run) (exec_else limits env (lowered_else known second))) s done) (fun_ext (λ s. fun_ext (λ done. exec_body-lowered first s done)))
        ∙ ap (λ run. with_value (holds limits env e s) (λ b. choose b (scoped env (exec_body limits env first)) run) s done) (fun_ext (λ s. fun_ext (λ done. exec_else-lowered second s done)))
    exec-lowered (Headed word at e body) s done =
        ap (λ run. headed limits env word (kept (tells_head word) at) (lowered_expr known Once e) (scoped env run) s done) (fun_ext (λ s. fun_ext (λ done. exec_body-lowered body s done)))
        ∙ headed-lowered word at e (scoped env (exec_body limits env body)) s done
    exec-lowered (Loop word at xs within item intents body) s done =
        ap (λ r. with_value r
        (λ v. looped limits env word at (lowered_variables xs) (lowered_intents word intents) (loop_ranges limits.locales v) (turn_of env (lowered_variables xs) v (exec_body limits env (lowered_body known body)))) s done)
        (item_of-lowered limits env known is Once item None s tt)
        ∙ ap (λ go. with_value (item_of limits env item None s) go s done)
        (fun_ext (λ v. ap (looped limits env word at (lowered_variables xs) (lowered_intents word intents) (loop_ranges limits.locales v))
        (turn_of-lowered env xs v _ _ (fun_ext (λ s. fun_ext (λ done. exec_body-lowered body s done))))
        ∙ looped-lowered word at xs intents (loop_ranges limits.locales v) (turn_of env xs v (exec_body limits env body))))

    pub exec_body-lowered : (b : Body N) (s : S) (done : Deeds) → exec_body limits env (lowered_body known b) s done ≡ exec_body limits env b s done
    exec_body-lowered (WordBody at t) s done =
        ap (λ o. then_do o (exec_all limits env NoStmts)) (exec-lowered t s done) ∙ then-no_more limits env (exec limits env t s done)
    exec_body-lowered (BlockBody from ts upto) s done = exec_all-lowered ts s done

    pub exec_all-lowered : (ts : Stmts N) (s : S) (done : Deeds) → exec_all limits env (lowered_stmts known ts) s done ≡ exec_all limits env ts s done
    exec_all-lowered NoStmts s done = refl
    exec_all-lowered (Then t rest) s done =
        ap (λ o. then_do o (exec_all limits env (lowered_stmts known rest))) (exec-lowered t s done)
        ∙ ap (then_do (exec limits env t s done)) (fun_ext (λ s. fun_ext (λ done. exec_all-lowered rest s done)))

    pub exec_else-lowered : (o : Else N) (s : S) (done : Deeds) → exec_else limits env (lowered_else known o) s done ≡ exec_else limits env o s done
    exec_else-lowered NoElse s done = refl
    exec_else-lowered (ElseDo at t) s done = ap (λ run. scoped env run s done) (fun_ext (λ s. fun_ext (λ done. exec-lowered t s done)))
