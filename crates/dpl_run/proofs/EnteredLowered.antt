-- The tree that runs, which is lowered and has slots for names, enters the same foralls as the tree with resolved names, in the same states.
-- One walk over statements; that their runs are the same is a law of lowering, and one of trees with other names.
use Rattle.std.proofs.Common.{◌≡◌, List, [], ◌∷◌, ◌++◌, refl, sym, ap, ◌∙◌, subst, None, map, pos}
use Rattle.std.specs.Prelude.{All, option_map}
use Rattle.std.proofs.lemmas.List.{append-nil}
use mathlib.Core.Path.{fun_ext}
use Rattle.dpl_sets.specs.TextRanges.{TextRange}
use Rattle.dpl_language.specs.Tree.{Placed, ExprTree, ItemTree, One, VariablesTree, OneVariable, ManyVariables, ForWord, ForallWord, StmtTree, Block, If, Headed, Loop, Body, WordBody, BlockBody, Stmts, NoStmts, Then, Else, NoElse, ElseDo}
use Rattle.dpl_language.specs.Values.{Value, Int, Index}
use Rattle.dpl_language.specs.Ranges.{indices_in, loop_ranges}
use Rattle.dpl_language.specs.Outcome.{Deeds, Outcome, Done, Stop, Waits, Run, then_do}
use Rattle.dpl_language.specs.Environment.{Plain, Environment, Limits}
use Rattle.dpl_language.specs.Phrases.{parts, intents_of}
use Rattle.dpl_language.specs.Expressions.{value_of, item_of}
use Rattle.dpl_language.specs.Loops.{named_turn, scoped, declare_each, bound_to, turn_of}
use Rattle.dpl_language.specs.Statements.{holds, exec, exec_body, exec_all}
use Rattle.dpl_agreement.specs.Renamed.{map_listed, renamed, renamed_expr, renamed_item, renamed_variables, renamed_with, renamed_stmt, renamed_body, renamed_stmts, renamed_else, renamed_intents}
use Rattle.dpl_agreement.specs.Agreement.{EndsAlike, RunAlike}
use Rattle.dpl_agreement.proofs.RunsAlike.{with_ok-same, All-every, named_turns-alike}
use Rattle.dpl_agreement.proofs.RenamedParts.{parts-mapped, intents_of-renamed}
use Rattle.dpl_agreement.proofs.Through.{through, item_of-through, exec_all-through}
use Rattle.dpl_lowered.specs.Known.{Known, IsKnown}
use Rattle.dpl_lowered.specs.Shapes.{unplaced}
use Rattle.dpl_lowered.specs.LoweredExpressions.{Once, lowered_expr, lowered_item}
use Rattle.dpl_lowered.specs.LoweredStatements.{lowered_variables, with_intents, lowered_stmt, lowered_body, lowered_stmts, lowered_else}
use Rattle.dpl_lowered.proofs.Values.{value_of-lowered, item_of-lowered}
use Rattle.dpl_lowered.proofs.Parts.{parts-relisted, intents_of-made}
use Rattle.dpl_lowered.proofs.Runs.{exec_all-lowered}
use Rattle.dpl_run.specs.Entered.{Entry, Entering, entered_behind, entered_within, entered_inside, entered_turn, entered, entered_body, entered_all, entered_else, Pairwise}
use Rattle.dpl_run.proofs.EnteredAlike.{pair-append, EntersAlike, behind-entered, with-entered, if-entered, within-entered, head-entered}

-- ---- runs that are the same end alike
module _ {S : Type 0} where
  abbrev Same : S → S → Type 0
  Same s u = s ≡ u

  ends-same : (a b : Outcome S) → a ≡ b → EndsAlike Same a b
  ends-same (Done s done) b e = (s, refl, sym e)
  ends-same (Stop f done) b e = sym e
  ends-same (Waits at c op done) b e = sym e

  run-same : (a b : Run S) → ((s : S) (done : Deeds) → a s done ≡ b s done) → RunAlike Same Same a b
  run-same a b e s u done r = subst (λ u. EndsAlike Same (a s done) (b u done)) r (ends-same (a s done) (b s done) (e s done))

  behind-nothing : {N : Type 0} (limits : Limits) (env : Environment N S) (o : Outcome S) → entered_behind o (entered_all limits env NoStmts) ≡ []
  behind-nothing limits env (Done s done) = refl
  behind-nothing limits env (Stop f done) = refl
  behind-nothing limits env (Waits at c op done) = refl

  then-nothing : {N : Type 0} (limits : Limits) (env : Environment N S) (o : Outcome S) → then_do o (exec_all limits env NoStmts) ≡ o
  then-nothing limits env (Done s done) = refl
  then-nothing limits env (Stop f done) = refl
  then-nothing limits env (Waits at c op done) = refl

module _ {M N S : Type 0} (limits : Limits) (name : N → M) (env : Environment M S) (known : M → Known) (is : IsKnown known env) where
  abbrev by_names : Environment N S
  by_names = through name env

  -- one forall, entered by both
  pub record IsLowered (a : Entry N S) (b : Entry M S) : Type 0 where
    pub at : a.at ≡ b.at
    pub over : b.over ≡ lowered_item known Once (renamed_item name a.over)
    pub body : b.body ≡ lowered_body known (renamed_body name a.body)
    pub ranges : a.ranges ≡ b.ranges
    pub state : a.state ≡ b.state

  abbrev Enters : Entering N S → Entering M S → Type 0
  Enters x y = EntersAlike IsLowered Same x y

  -- ---- values and runs are the same
  value-same : (e : ExprTree N) (s : S) → value_of limits by_names e None s ≡ value_of limits env (lowered_expr known Once (renamed_expr name e)) None s
  value-same e s = item_of-through limits name env (One e) s ∙ sym (value_of-lowered limits env known is Once (renamed_expr name e) None s tt)

  holds-same : (e : ExprTree N) (s : S) → holds limits by_names e s ≡ holds limits env (lowered_expr known Once (renamed_expr name e)) s
  holds-same e s = with_ok-same _ _ _ _ (value-same e s) (λ v. refl)

  item-same : (item : ItemTree N) (s : S) → item_of limits by_names item None s ≡ item_of limits env (lowered_item known Once (renamed_item name item)) None s
  item-same item s = item_of-through limits name env item s ∙ sym (item_of-lowered limits env known is Once (renamed_item name item) None s tt)

  all-same : (ts : Stmts N) (s : S) (done : Deeds) → exec_all limits by_names ts s done ≡ exec_all limits env (lowered_stmts known (renamed_stmts name ts)) s done
  all-same ts s done = exec_all-through limits name env ts s done ∙ sym (exec_all-lowered limits env known is (renamed_stmts name ts) s done)

  stmt-same : (t : StmtTree N) (s : S) (done : Deeds) → exec limits by_names t s done ≡ exec limits env (lowered_stmt known (renamed_stmt name t)) s done
  stmt-same t s done =
      sym (then-nothing limits by_names (exec limits by_names t s done)) ∙ all-same (Then t NoStmts) s done
      ∙ then-nothing limits env (exec limits env (lowered_stmt known (renamed_stmt name t)) s done)

  body-same : (b : Body N) (s : S) (done : Deeds) → exec_body limits by_names b s done ≡ exec_body limits env (lowered_body known (renamed_body name b)) s done
  body-same (WordBody at t) s done = sym (then-nothing limits by_names (exec limits by_names t s done)) ∙ all-same (Then t NoStmts) s done
  body-same (BlockBody from ts upto) s done = all-same ts s done

  -- ---- a loop's variables in a turn
  each-named : (xs : List (Placed N)) (t : Index) (s : S) → declare_each by_names xs t s ≡ declare_each env (map (renamed name) xs) t s
  each-named [] t s = refl
  each-named (x ∷ xs) [] s = each-named xs [] (env.declare (name x.name) (Plain (Int (pos 0))) s)
  each-named (x ∷ xs) (i ∷ t) s = each-named xs t (env.declare (name x.name) (Plain (Int i)) s)

  each-unplaced : (xs : List (Placed M)) (t : Index) (s : S) → declare_each env (map unplaced xs) t s ≡ declare_each env xs t s
  each-unplaced [] t s = refl
  each-unplaced (x ∷ xs) [] s = each-unplaced xs [] (env.declare x.name (Plain (Int (pos 0))) s)
  each-unplaced (x ∷ xs) (i ∷ t) s = each-unplaced xs t (env.declare x.name (Plain (Int i)) s)

  bound-same : (xs : VariablesTree N) (over : Value) (t : Index) (s : S) → bound_to by_names xs over t s ≡ bound_to env (lowered_variables (renamed_variables name xs)) over t s
  bound-same (OneVariable x) over t s = refl
  bound-same (ManyVariables from xs upto) over t s =
      each-named (parts xs) t s ∙ ap (λ ys. declare_each env ys t s) (sym (parts-mapped (renamed name) xs))
      ∙ sym (each-unplaced (parts (map_listed (renamed name) xs)) t s) ∙ ap (λ ys. declare_each env ys t s) (sym (parts-relisted unplaced (map_listed (renamed name) xs)))

  module _ (xs : VariablesTree N) (over : Value) (b : Body N) where
    abbrev turn1 : Index → Run S
    turn1 = turn_of by_names xs over (exec_body limits by_names b)

    abbrev turn2 : Index → Run S
    turn2 = turn_of env (lowered_variables (renamed_variables name xs)) over (exec_body limits env (lowered_body known (renamed_body name b)))

    turn-same : (t : Index) (s : S) (done : Deeds) → turn1 t s done ≡ turn2 t s done
    turn-same t s done =
        ap (λ bound. scoped env (λ s done. scoped env (exec_body limits by_names b) (bound s) done) s done) (fun_ext (λ s. bound-same xs over t s))
        ∙ ap (λ run. scoped env (λ s done. scoped env run (bound_to env (lowered_variables (renamed_variables name xs)) over t s) done) s done) (fun_ext (λ s. fun_ext (λ done. body-same b s done)))

    turns-same : (ts : List Index) → All (λ t. RunAlike Same Same (turn1 t) (turn2 t)) ts
    turns-same ts = All-every (λ t. RunAlike Same Same (turn1 t) (turn2 t)) (λ t. run-same (turn1 t) (turn2 t) (turn-same t)) ts

    turn-entered : (x : Entering N S) (y : Entering M S) → Enters x y → (t : Index) → Enters (entered_turn limits by_names xs over x t) (entered_turn limits env (lowered_variables (renamed_variables name xs)) over y t)
    turn-entered x y p t s u done r =
        p (env.enter (bound_to by_names xs over t (env.enter s))) (env.enter (bound_to env (lowered_variables (renamed_variables name xs)) over t (env.enter u))) done
        (ap env.enter (bound-same xs over t (env.enter s) ∙ ap (λ u. bound_to env (lowered_variables (renamed_variables name xs)) over t (env.enter u)) r))

    within-same : (rs : List TextRange) → Enters (entered_body limits by_names b) (entered_body limits env (lowered_body known (renamed_body name b)))
        → Enters (entered_within limits rs turn1 (entered_turn limits by_names xs over (entered_body limits by_names b)))
        (entered_within limits rs turn2 (entered_turn limits env (lowered_variables (renamed_variables name xs)) over (entered_body limits env (lowered_body known (renamed_body name b)))))
    within-same rs p = within-entered IsLowered limits rs Same _ _ _ _ (turns-same (indices_in rs)) (All-every _ (turn-entered _ _ p) (indices_in rs))

    named-same : (rs : List TextRange) → Enters (entered_body limits by_names b) (entered_body limits env (lowered_body known (renamed_body name b)))
        → Enters (entered_within limits rs (named_turn turn1) (entered_turn limits by_names xs over (entered_body limits by_names b)))
        (entered_within limits rs (named_turn turn2) (entered_turn limits env (lowered_variables (renamed_variables name xs)) over (entered_body limits env (lowered_body known (renamed_body name b)))))
    named-same rs p =
        within-entered IsLowered limits rs Same _ _ _ _ (named_turns-alike (indices_in rs) Same turn1 turn2 (turns-same (indices_in rs))) (All-every _ (turn-entered _ _ p) (indices_in rs))

  inside-same : (x : Entering N S) (y : Entering M S) → Enters x y → Enters (entered_inside limits by_names x) (entered_inside limits env y)
  inside-same x y p s u done r = p (env.enter s) (env.enter u) done (ap env.enter r)

  mutual
    stmt-lowered : (t : StmtTree N) → Enters (entered limits by_names t) (entered limits env (lowered_stmt known (renamed_stmt name t)))
    stmt-lowered (Block from body upto) s u done r = inside-same _ _ (stmts-lowered body) s u done r
    stmt-lowered (If at e a b) s u done r =
        with-entered IsLowered (holds limits by_names e s) (holds limits env (lowered_expr known Once (renamed_expr name e)) u) _ _ s u done
        (holds-same e s ∙ ap (holds limits env (lowered_expr known Once (renamed_expr name e))) r)
        (λ c told. if-entered IsLowered c Same _ _ _ _ (inside-same _ _ (body-lowered a)) (else-lowered b) s u done r)
    stmt-lowered (Headed word at e body) s u done r =
        head-entered IsLowered limits by_names env Same word e (lowered_expr known Once (renamed_expr name e))
        (scoped by_names (exec_body limits by_names body)) (scoped env (exec_body limits env (lowered_body known (renamed_body name body)))) _ _
        (λ s u r. value-same e s ∙ ap (value_of limits env (lowered_expr known Once (renamed_expr name e)) None) r)
        (run-same _ _ (λ s done. ap (λ run. scoped env run s done) (fun_ext (λ s. fun_ext (λ done. body-same body s done)))))
        (inside-same _ _ (body-lowered body)) s u done r
    stmt-lowered (Loop ForWord at xs within item intents body) s u done r =
        with-entered IsLowered (item_of limits by_names item None s) (item_of limits env (lowered_item known Once (renamed_item name item)) None u) _ _ s u done
        (item-same item s ∙ ap (item_of limits env (lowered_item known Once (renamed_item name item)) None) r)
        (λ v told. within-same xs v body (loop_ranges limits.locales v) (body-lowered body) s u done r)
    stmt-lowered (Loop ForallWord at xs within item intents body) s u done r =
        with-entered IsLowered (item_of limits by_names item None s) (item_of limits env (lowered_item known Once (renamed_item name item)) None u) _ _ s u done
        (item-same item s ∙ ap (item_of limits env (lowered_item known Once (renamed_item name item)) None) r)
        (λ v told.
        let rs = loop_ranges limits.locales v in
        let js = renamed_intents name (intents_of intents) in
        let ks = intents_of (with_intents (intents_of (option_map (renamed_with name) intents))) in
        let same : js ≡ ks = sym (intents_of-renamed name intents) ∙ sym (intents_of-made (intents_of (option_map (renamed_with name) intents))) in (
          record { at = refl; over = refl; body = refl; ranges = refl; state = r },
          subst (λ noted. Pairwise IsLowered (entered_within limits rs (named_turn (turn1 xs v body)) (entered_turn limits by_names xs v (entered_body limits by_names body)) (env.intend js s) (env.note at rs s done))
              (entered_within limits rs (named_turn (turn2 xs v body)) (entered_turn limits env (lowered_variables (renamed_variables name xs)) v (entered_body limits env (lowered_body known (renamed_body name body)))) (env.intend ks u) noted))
              (ap (λ u. env.note at rs u done) r)
              (named-same xs v body rs (body-lowered body) (env.intend js s) (env.intend ks u) (env.note at rs s done) (ap (λ is. env.intend is s) same ∙ ap (env.intend ks) r)),
        ))
    stmt-lowered _ s u done r = tt

    body-lowered : (b : Body N) → Enters (entered_body limits by_names b) (entered_body limits env (lowered_body known (renamed_body name b)))
    body-lowered (WordBody at t) s u done r =
        let more = exec limits env (lowered_stmt known (renamed_stmt name t)) u done in
        let own = entered limits env (lowered_stmt known (renamed_stmt name t)) u done in
        subst (Pairwise IsLowered (entered limits by_names t s done)) (sym (ap (λ es. own ++ es) (behind-nothing limits env more) ∙ append-nil own)) (stmt-lowered t s u done r)
    body-lowered (BlockBody from ts upto) s u done r = stmts-lowered ts s u done r

    pub stmts-lowered : (ts : Stmts N) → Enters (entered_all limits by_names ts) (entered_all limits env (lowered_stmts known (renamed_stmts name ts)))
    stmts-lowered NoStmts s u done r = tt
    stmts-lowered (Then t rest) s u done r =
        pair-append IsLowered (entered limits by_names t s done) _ (entered limits env (lowered_stmt known (renamed_stmt name t)) u done) _ (stmt-lowered t s u done r)
        (behind-entered IsLowered Same (exec limits by_names t s done) (exec limits env (lowered_stmt known (renamed_stmt name t)) u done) _ _
        (run-same _ _ (stmt-same t) s u done r) (stmts-lowered rest))

    else-lowered : (o : Else N) → Enters (entered_else limits by_names o) (entered_else limits env (lowered_else known (renamed_else name o)))
    else-lowered NoElse s u done r = tt
    else-lowered (ElseDo at t) s u done r = inside-same _ _ (stmt-lowered t) s u done r
