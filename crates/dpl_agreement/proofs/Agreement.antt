-- Two environments that agree step by step give the same meaning to every tree that fits.
-- The whole theorem: for each statement, for statements in order, and for a program's statements.
use Rattle.std.proofs.Common.{◌≡◌, List, [], refl, sym, subst, Option, None, nat_lt}
use Rattle.std.specs.Prelude.{All, option_map}
use Rattle.std.proofs.lemmas.List.Elements.{All-weaker}
use Rattle.dpl_syntax.specs.declared.place.Place.{Place}
use Rattle.dpl_sets.specs.TextRanges.{TextRange}
use Rattle.dpl_language.specs.Tree.{Op, ExprTree, WithTree, VariablesTree, LoopWord, ForWord, ForallWord, CoforallWord, StmtTree, Nothing, Declare, Assigned, Call, Write, Block, If, Headed, Loop, Body, WordBody, BlockBody, Stmts, NoStmts, Then, Else, NoElse, ElseDo}
use Rattle.dpl_language.specs.Values.{Value, Index, fault, PastLimit}
use Rattle.dpl_language.specs.Ranges.{indices_in, size_in, loop_ranges}
use Rattle.dpl_language.specs.Outcome.{Done, Run, then_do}
use Rattle.dpl_language.specs.Environment.{Environment, Limits}
use Rattle.dpl_language.specs.Phrases.{intents_of}
use Rattle.dpl_language.specs.Loops.{within_budget, named_turn, turn_of}
use Rattle.dpl_language.specs.Statements.{task_limit, holds, looped, exec, exec_body, exec_all, exec_else}
use Rattle.dpl_agreement.specs.Renamed.{renamed_expr, renamed_with, renamed_variables, renamed_stmt, renamed_body, renamed_stmts, renamed_else, renamed_intents}
use Rattle.dpl_language.specs.Declarations.{type_of}
use Rattle.dpl_language.specs.Roots.{dealt}
use Rattle.dpl_agreement.specs.Scopes.{form_by, Scoping, add_variables, inside, fits_expr, fits_variables, fits_loop, begun, fits_head, after, after_all, after_body, fits, fits_body, fits_all, fits_else}
use Rattle.dpl_agreement.specs.Agreement.{Simulates, EndsAlike, RunAlike}
use Rattle.dpl_agreement.proofs.RunsAlike.{with_ok-same, then_do-alike, with_value-alike, with_value-alike_by, choose-alike, unless-alike, within_budget-alike, named_turns-alike, MovesAlike, headed-alike}
use Rattle.dpl_agreement.proofs.RenamedParts.{intents_of-renamed}
use Rattle.dpl_agreement.proofs.ExpressionsAlike.{value_of-renamed, item_of-renamed}
use Rattle.dpl_agreement.proofs.LoopsAlike.{leave-after_stmt_in, leave-after_all_in, leave-after_body_in, HoldsTurn, scoped-alike, turns-held, turn_of-alike, coforall-alike}
use Rattle.dpl_agreement.proofs.AssignmentsAlike.{assign-alike, cell_call-alike, write-alike}
use Rattle.dpl_agreement.proofs.DeclarationsAlike.{declare-alike}
use Rattle.dpl_agreement.proofs.RootsAlike.{dealt-alike}

module _ {M N G S1 S2 : Type 0} (limits : Limits) (name : N → M) (scoping : Scoping N G) (first : Environment M S1) (second : Environment N S2) (R : G → S1 → S2 → Type 0) (sim : Simulates limits name scoping first second R) where
  holds-renamed : (e : ExprTree N) (g : G) (s1 : S1) (s2 : S2) → R g s1 s2 → fits_expr scoping None e g → holds limits first (renamed_expr name e) s1 ≡ holds limits second e s2
  holds-renamed e g s1 s2 r f = with_ok-same _ _ _ _ (value_of-renamed limits name scoping first second R sim e None g s1 s2 r f) (λ v. refl)

  -- a loop's turns, where the body ends alike
  turns-alike : (xs : VariablesTree N) (over : Value) (ts : List Index) (g : G) (b : Body N) (a1 : Run S1) (a2 : Run S2) → fits_variables scoping xs (scoping.enter g)
      → All (λ t. HoldsTurn scoping xs over t) ts → RunAlike (R (inside scoping xs g)) (R (after_body scoping b (inside scoping xs g))) a1 a2
      → All (λ t. RunAlike (R g) (R g) (turn_of first (renamed_variables name xs) over a1 t) (turn_of second xs over a2 t)) ts
  turns-alike xs over ts g b a1 a2 f h p =
      All-weaker (λ t. HoldsTurn scoping xs over t) (λ t. RunAlike (R g) (R g) (turn_of first (renamed_variables name xs) over a1 t) (turn_of second xs over a2 t))
      (turn_of-alike limits name scoping first second R sim xs over g (after_body scoping b (inside scoping xs g)) a1 a2 f
      (leave-after_body_in scoping sim.lawful b (add_variables scoping xs (scoping.enter g))) p) ts h

  -- a forall's turns, with its intents, behind what is noted of it
  forall-alike : (at : Place) (rs : List TextRange) (g : G) (is : List (N × Op)) (a1 : Run S1) (a2 : Run S2) → scoping.intends is g → RunAlike (R (scoping.intend is g)) (R (scoping.intend is g)) a1 a2
      → RunAlike (R g) (R g) (λ s done. then_do (a1 (first.intend (renamed_intents name is) s) (first.note at rs s done)) (λ s done. Done (first.intend [] s) done))
      (λ s done. then_do (a2 (second.intend is s) (second.note at rs s done)) (λ s done. Done (second.intend [] s) done))
  forall-alike at rs g is a1 a2 f p s1 s2 done r =
      then_do-alike (R (scoping.intend is g)) (R g) (a1 (first.intend (renamed_intents name is) s1) (first.note at rs s1 done)) (a2 (second.intend is s2) (second.note at rs s2 done)) _ _
      (subst (λ noted. EndsAlike (R (scoping.intend is g)) (a1 (first.intend (renamed_intents name is) s1) (first.note at rs s1 done)) (a2 (second.intend is s2) noted))
      (sim.notes at rs done g s1 s2 r)
      (p (first.intend (renamed_intents name is) s1) (second.intend is s2) (first.note at rs s1 done) (sim.intends is g s1 s2 r f)))
      (λ u1 u2 done q. (second.intend [] u2, sim.ends_forall is g u1 u2 q f, refl))

  -- on a locale, and back
  moves-alike : (g : G) → scoping.moves g → MovesAlike limits limits first second (R g)
  moves-alike g m = record { heres = sim.heres g; moves = λ k s1 s2 r. sim.moves k g s1 s2 r m }

  -- by the word of a loop
  loop-alike : (word : LoopWord) (at : Place) (xs : VariablesTree N) (intents : Option (WithTree N)) (rs : List TextRange) (g : G) (a1 : Index → Run S1) (a2 : Index → Run S2)
      → fits_loop scoping word xs intents g → All (λ t. RunAlike (R (begun scoping word intents g)) (R (begun scoping word intents g)) (a1 t) (a2 t)) (indices_in rs)
      → RunAlike (R g) (R g) (looped limits first word at (renamed_variables name xs) (option_map (renamed_with name) intents) rs a1) (looped limits second word at xs intents rs a2)
  loop-alike ForWord at xs intents rs g a1 a2 f p = within_budget-alike limits at rs (R g) _ _ p
  loop-alike ForallWord at xs intents rs g a1 a2 f p =
      subst (λ is. RunAlike (R g) (R g)
      (λ s done. then_do (within_budget limits at rs (named_turn a1) (first.intend is s) (first.note at rs s done)) (λ s done. Done (first.intend [] s) done))
      (λ s done. then_do (within_budget limits at rs (named_turn a2) (second.intend (intents_of intents) s) (second.note at rs s done)) (λ s done. Done (second.intend [] s) done)))
      (sym (intents_of-renamed name intents))
      (forall-alike at rs g (intents_of intents) _ _ f
      (within_budget-alike limits at rs (R (scoping.intend (intents_of intents) g)) _ _ (named_turns-alike (indices_in rs) (R (scoping.intend (intents_of intents) g)) a1 a2 p)))
  loop-alike CoforallWord at xs intents rs g a1 a2 f p =
      unless-alike (nat_lt task_limit (size_in rs)) (fault PastLimit at) (R g) (R g) _ _
      (coforall-alike limits name scoping first second R sim xs g (scoping.begin g) a1 a2 (indices_in rs) f p)

  mutual
    pub exec-alike : (t : StmtTree N) (g : G) → fits scoping t g → RunAlike (R g) (R (after scoping t g)) (exec limits first (renamed_stmt name t)) (exec limits second t)
    exec-alike (Nothing at) g f s1 s2 done r = (s2, r, refl)
    exec-alike (Declare d) g f s1 s2 done r =
        then_do-alike (R (after scoping (Declare d) g)) (R (after scoping (Declare d) g)) _ _ _ _ (declare-alike limits name scoping first second R sim d g f s1 s2 done r)
        (λ t1 t2 done q. (
          dealt limits second d s2 t2,
          dealt-alike limits name scoping first second R sim d g (after scoping (Declare d) g) s1 s2 t1 t2 r q
              (sim.lawful.reads-add d.name.name (form_by (type_of d.typed)) g f.2) f.0 f.1 f.5,
          refl,
        ))
    exec-alike (Assigned target sign item semicolon) g f s1 s2 done r = assign-alike limits name scoping first second R sim target sign item g f.0 f.1 f.2 s1 s2 done r
    exec-alike (Call x dot call semicolon) g f s1 s2 done r = cell_call-alike limits name scoping first second R sim x call g f.0 f.1 f.2 s1 s2 done r
    exec-alike (Write w) g f s1 s2 done r = write-alike limits name scoping first second R sim w g f s1 s2 done r
    exec-alike (Block from body upto) g f s1 s2 done r =
        scoped-alike limits name scoping first second R sim g (after_all scoping body (scoping.enter g)) _ _ (leave-after_all_in scoping sim.lawful body g) (exec_all-alike body (scoping.enter g) f) s1 s2 done r
    exec-alike (If at e a b) g f s1 s2 done r =
        with_value-alike (R g) _ _ _ _ s1 s2 done (holds-renamed e g s1 s2 r f.0)
        (λ c. choose-alike c (R g) (R g) _ _ _ _
        (scoped-alike limits name scoping first second R sim g (after_body scoping a (scoping.enter g)) _ _ (leave-after_body_in scoping sim.lawful a g) (exec_body-alike a (scoping.enter g) f.1))
        (exec_else-alike b g f.2) s1 s2 done r)
    exec-alike (Headed word at e body) g f s1 s2 done r =
        headed-alike limits limits first second (R g) word at (renamed_expr name e) e _ _ refl (λ s1 s2 r. value_of-renamed limits name scoping first second R sim e None g s1 s2 r f.0)
        (scoped-alike limits name scoping first second R sim g (after_body scoping body (scoping.enter g)) _ _ (leave-after_body_in scoping sim.lawful body g) (exec_body-alike body (scoping.enter g) f.1))
        (λ is. moves-alike g (subst (λ w. fits_head scoping w g) is f.2)) s1 s2 done r
    exec-alike (Loop word at xs within item intents body) g f s1 s2 done r =
        with_value-alike_by (R g) _ _ _ _ s1 s2 done (item_of-renamed limits name scoping first second R sim item None g s1 s2 r f.0)
        (λ v e. loop-alike word at xs intents (loop_ranges limits.locales v) g _ _ f.2
        (turns-alike xs v (indices_in (loop_ranges limits.locales v)) (begun scoping word intents g) body _ _ f.3
        (turns-held limits name scoping first second R sim xs item v g s1 s2 r f.1 e)
        (exec_body-alike body (inside scoping xs (begun scoping word intents g)) f.4)) s1 s2 done r)

    exec_body-alike : (b : Body N) (g : G) → fits_body scoping b g → RunAlike (R g) (R (after_body scoping b g)) (exec_body limits first (renamed_body name b)) (exec_body limits second b)
    exec_body-alike (WordBody at t) g f s1 s2 done r = exec-alike t g f s1 s2 done r
    exec_body-alike (BlockBody from ts upto) g f s1 s2 done r = exec_all-alike ts g f s1 s2 done r

    pub exec_all-alike : (ts : Stmts N) (g : G) → fits_all scoping ts g → RunAlike (R g) (R (after_all scoping ts g)) (exec_all limits first (renamed_stmts name ts)) (exec_all limits second ts)
    exec_all-alike NoStmts g f s1 s2 done r = (s2, r, refl)
    exec_all-alike (Then t rest) g f s1 s2 done r =
        then_do-alike (R (after scoping t g)) (R (after_all scoping rest (after scoping t g))) _ _ _ _ (exec-alike t g f.0 s1 s2 done r) (exec_all-alike rest (after scoping t g) f.1)

    exec_else-alike : (o : Else N) (g : G) → fits_else scoping o g → RunAlike (R g) (R g) (exec_else limits first (renamed_else name o)) (exec_else limits second o)
    exec_else-alike NoElse g f s1 s2 done r = (s2, r, refl)
    exec_else-alike (ElseDo at t) g f s1 s2 done r =
        scoped-alike limits name scoping first second R sim g (after scoping t (scoping.enter g)) _ _ (leave-after_stmt_in scoping sim.lawful t g) (exec-alike t (scoping.enter g) f) s1 s2 done r
