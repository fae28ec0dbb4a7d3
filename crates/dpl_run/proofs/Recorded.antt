-- A run that keeps a record of its foralls ends as the run that keeps none, and has on record those that this one enters, in their order.
-- First what is put together of such runs; then one walk over statements, in an environment that notes nothing and in the same one that notes each forall.
use Rattle.std.proofs.Common.{◌≡◌, ℕ, zero, suc, Bool, true, false, List, [], ◌∷◌, ◌++◌, refl, sym, ap, ◌∙◌, Ok, Err, None, Result, nat_lt, map}
use Rattle.std.proofs.lemmas.List.{append-nil, append_assoc}
use Rattle.dpl_syntax.specs.declared.place.Place.{Place}
use Rattle.dpl_history.specs.declared.history.Event.{Event}
use Rattle.dpl_sets.specs.TextRanges.{TextRange}
use Rattle.dpl_language.specs.Tree.{Op, ExprTree, ItemTree, ProgramTree, VariablesTree, HeadWord, WhileWord, OnWord, ForWord, ForallWord, CoforallWord, StmtTree, Nothing, Declare, Assigned, Call, Write, Block, If, Headed, Loop, Body, WordBody, BlockBody, Stmts, NoStmts, Then, Else, NoElse, ElseDo}
use Rattle.dpl_language.specs.Values.{Value, Index, Fault, fault, Budget}
use Rattle.dpl_language.specs.Ranges.{indices_in, size_in, loop_ranges}
use Rattle.dpl_language.specs.Outcome.{LoopRun, Deeds, no_deeds, with_loop, Outcome, Done, Stop, Waits, Run, with_value, then_do, choose, unless, in_order, repeated, naming}
use Rattle.dpl_language.specs.Environment.{Environment, Limits}
use Rattle.dpl_language.specs.Phrases.{intents_of}
use Rattle.dpl_language.specs.Expressions.{item_of}
use Rattle.dpl_language.specs.Loops.{within_budget, named_turn, scoped, bound_to, turn_of}
use Rattle.dpl_language.specs.Declarations.{declare}
use Rattle.dpl_language.specs.Roots.{dealt}
use Rattle.dpl_language.specs.Statements.{holds, headed, exec, exec_body, exec_all, exec_else}
use Rattle.dpl_language.specs.Names.{Text, State, by_name, recording}
use Rattle.dpl_language.specs.Program.{first_state, deeds_of, settled, written, meaning}
use Rattle.dpl_agreement.specs.Untasked.{UntaskedHead, UntaskedStmt, UntaskedBody, UntaskedStmts, UntaskedElse}
use Rattle.dpl_exchange.specs.Counts.{recorded}
use Rattle.dpl_run.specs.Entered.{Entry, Entering, entered_behind, entered_with, entered_if, entered_never, entered_in_order, entered_within, entered_repeated, entered_inside, entered_turn, entered_head, entered, entered_body, entered_all, entered_else}
use Rattle.dpl_run.specs.Recorded.{with_loops, on_record, loop_of, loops_of}
use Rattle.dpl_run.proofs.RecordKept.{Keeps, then_do-kept, with_value-kept, naming-kept, assign-kept, cell_call-kept, write-kept, declare-kept}

-- ---- what is put together of runs that record what is entered
module _ {N S : Type 0} (noted : Entry N S → LoopRun) where
  -- behind what is on record, what is noted of some foralls, one after another
  abbrev record_behind : List LoopRun → List (Entry N S) → List LoopRun
  record_behind loops [] = loops
  record_behind loops (e ∷ es) = record_behind (loops ++ noted e ∷ []) es

  behind-append : (loops : List LoopRun) (es fs : List (Entry N S)) → record_behind loops (es ++ fs) ≡ record_behind (record_behind loops es) fs
  behind-append loops [] fs = refl
  behind-append loops (e ∷ es) fs = behind-append (loops ++ noted e ∷ []) es fs

  behind-map : (loops : List LoopRun) (es : List (Entry N S)) → record_behind loops es ≡ loops ++ map noted es
  behind-map loops [] = sym (append-nil loops)
  behind-map loops (e ∷ es) = behind-map (loops ++ noted e ∷ []) es ∙ append_assoc loops (noted e ∷ []) (map noted es)

  -- Whatever is on record, the first run ends as the second, which keeps no record; and behind what was on record then stands what is noted
  -- of the foralls that the second enters. What these are is told from the deeds of the second, so that the record isn't asked for them.
  abbrev Records : Run S → Run S → Entering N S → Type 0
  Records a b x = (s : S) (done : Deeds) (loops : List LoopRun) → a s (with_loops loops done) ≡ on_record (record_behind loops (x s done)) (b s done)

  then_do-recorded : (o : Outcome S) (a b : Run S) (x : Entering N S) → Records a b x → (loops : List LoopRun)
      → then_do (on_record loops o) a ≡ on_record (record_behind loops (entered_behind o x)) (then_do o b)
  then_do-recorded (Done s done) a b x p loops = p s done loops
  then_do-recorded (Stop f done) a b x p loops = refl
  then_do-recorded (Waits at c op done) a b x p loops = refl

  -- one run after another
  both-recorded : (a b c d : Run S) (x y : Entering N S) → Records a b x → Records c d y
      → Records (λ s done. then_do (a s done) c) (λ s done. then_do (b s done) d) (λ s done. x s done ++ entered_behind (b s done) y)
  both-recorded a b c d x y p q s done loops =
      ap (λ o. then_do o c) (p s done loops) ∙ then_do-recorded (b s done) c d y q (record_behind loops (x s done))
      ∙ ap (λ loops. on_record loops (then_do (b s done) d)) (sym (behind-append loops (x s done) (entered_behind (b s done) y)))

  with_value-recorded : {A : Type 0} (v : Result A Fault) (a b : A → Run S) (x : A → Entering N S) → ((v : A) → Records (a v) (b v) (x v))
      → Records (with_value v a) (with_value v b) (entered_with v x)
  with_value-recorded (Ok v) a b x p s done loops = p v s done loops
  with_value-recorded (Err f) a b x p s done loops = refl

  choose-recorded : (t : Bool) (a b c d : Run S) (x y : Entering N S) → Records a b x → Records c d y
      → Records (choose t a c) (choose t b d) (entered_if t x y)
  choose-recorded true a b c d x y p q s done loops = p s done loops
  choose-recorded false a b c d x y p q s done loops = q s done loops

  -- the turns of a loop, in a loop within its budget or past it
  in_order-recorded : (a b : Index → Run S) (x : Index → Entering N S) → ((t : Index) → Records (a t) (b t) (x t))
      → (ts : List Index) → Records (in_order a ts) (in_order b ts) (entered_in_order b x ts)
  in_order-recorded a b x p [] s done loops = refl
  in_order-recorded a b x p (t ∷ ts) s done loops =
      both-recorded (a t) (b t) (in_order a ts) (in_order b ts) (x t) (entered_in_order b x ts) (p t) (in_order-recorded a b x p ts) s done loops

  unless-recorded : (t : Bool) (f : Fault) (a b : Run S) (x : Entering N S) → Records a b x
      → Records (unless t f a) (unless t f b) (entered_if t entered_never x)
  unless-recorded true f a b x p s done loops = refl
  unless-recorded false f a b x p s done loops = p s done loops

  within-recorded : (limits : Limits) (at : Place) (rs : List TextRange) (a b : Index → Run S) (x : Index → Entering N S)
      → ((t : Index) → Records (a t) (b t) (x t))
      → Records (within_budget limits at rs a) (within_budget limits at rs b) (entered_within limits rs b x)
  within-recorded limits at rs a b x p =
      unless-recorded (nat_lt limits.budget (size_in rs)) (fault Budget at) _ _ _ (in_order-recorded a b x p (indices_in rs))

  named-recorded : (a b : Index → Run S) (x : Index → Entering N S) → ((t : Index) → Records (a t) (b t) (x t))
      → (t : Index) → Records (named_turn a t) (named_turn b t) (x t)
  named-recorded a b x p t s done loops = ap (naming t) (p t s done loops) ∙ naming-kept t (b t s done) (record_behind loops (x t s done))

  -- a `while`: where no turn is left, its condition alone is evaluated
  last-recorded : (t : Bool) (f : Fault) → Keeps {S = S} (choose t (λ s done. Stop f done) (λ s done. Done s done))
  last-recorded true f s done loops = refl
  last-recorded false f s done loops = refl

  repeated-recorded : (n : ℕ) (at : Place) (test : S → Result Bool Fault) (a b : Run S) (x : Entering N S) → Records a b x
      → Records (repeated n at test a) (repeated n at test b) (entered_repeated n test b x)
  repeated-recorded zero at test a b x p s done loops = with_value-kept (test s) _ (λ t. last-recorded t (fault Budget at)) s done loops
  repeated-recorded (suc n) at test a b x p s done loops =
      with_value-recorded (test s) _ _ _
      (λ t. choose-recorded t _ _ _ _ _ _ (both-recorded a b _ _ x _ p (repeated-recorded n at test a b x p)) (λ s done loops. refl)) s done loops

-- behind a forall there are no reduce variables
abbrev end_forall : {N S : Type 0} → Environment N S → Run S
end_forall env s done = Done (env.intend [] s) done

-- ---- statements
module _ {N S : Type 0} (limits : Limits) (env : Environment N S) (loop : Place → List TextRange → S → LoopRun) where
  -- an environment that notes nothing, and the same one that notes each forall
  abbrev silent : Environment N S
  silent = record env { note = λ at rs s done. done }

  abbrev noting : Environment N S
  noting = record env { note = λ at rs s done. with_loop (loop at rs s) done }

  abbrev noted : Entry N S → LoopRun
  noted e = loop e.at e.ranges e.state

  -- by the one the run is that by the other, with what it enters on record
  abbrev IsRecorded : Run S → Run S → Entering N S → Type 0
  IsRecorded = Records noted

  abbrev IsRecordedBody : Body N → Type 0
  IsRecordedBody b = IsRecorded (exec_body limits noting b) (exec_body limits silent b) (entered_body limits silent b)

  -- in a scope
  scoped-recorded : (a b : Run S) (x : Entering N S) → IsRecorded a b x → IsRecorded (scoped noting a) (scoped silent b) (entered_inside limits silent x)
  scoped-recorded a b x p s done loops =
      ap (λ o. then_do o (λ s done. Done (env.leave s) done)) (p (env.enter s) done loops)
      ∙ then_do-kept (b (env.enter s) done) (λ s done. Done (env.leave s) done) (λ s done loops. refl) (record_behind noted loops (x (env.enter s) done))

  inside-recorded : (b : Body N) → IsRecordedBody b
      → IsRecorded (scoped noting (exec_body limits noting b)) (scoped silent (exec_body limits silent b))
      (entered_inside limits silent (entered_body limits silent b))
  inside-recorded b p = scoped-recorded (exec_body limits noting b) (exec_body limits silent b) (entered_body limits silent b) p

  -- behind a word and an expression, by the word
  head-recorded : (word : HeadWord) (at : Place) (e : ExprTree N) (a b : Run S) (x : Entering N S) → UntaskedHead word → IsRecorded a b x
      → IsRecorded (headed limits noting word at e a) (headed limits silent word at e b) (entered_head limits silent word e b x)
  head-recorded WhileWord at e a b x u p = repeated-recorded noted limits.budget at (holds limits silent e) a b x p
  head-recorded OnWord at e a b x u p = absurd u

  -- a loop's turns, and what is entered in them
  module _ (xs : VariablesTree N) (over : Value) (b : Body N) where
    abbrev noting_turn : Index → Run S
    noting_turn = turn_of noting xs over (exec_body limits noting b)

    abbrev silent_turn : Index → Run S
    silent_turn = turn_of silent xs over (exec_body limits silent b)

    abbrev entering_turn : Index → Entering N S
    entering_turn = entered_turn limits silent xs over (entered_body limits silent b)

    turn-recorded : IsRecordedBody b → (t : Index) → IsRecorded (noting_turn t) (silent_turn t) (entering_turn t)
    turn-recorded p t =
        scoped-recorded (λ s done. scoped noting (exec_body limits noting b) (bound_to env xs over t s) done)
        (λ s done. scoped silent (exec_body limits silent b) (bound_to env xs over t s) done)
        (λ s done. entered_inside limits silent (entered_body limits silent b) (bound_to env xs over t s) done)
        (λ s done loops. inside-recorded b p (bound_to env xs over t s) done loops)

    -- a `for`; and a forall, which is noted before its turns are made, and so stands before what is entered in them
    for-recorded : (at : Place) (rs : List TextRange) → IsRecordedBody b
        → IsRecorded (within_budget limits at rs noting_turn) (within_budget limits at rs silent_turn) (entered_within limits rs silent_turn entering_turn)
    for-recorded at rs p = within-recorded noted limits at rs noting_turn silent_turn entering_turn (turn-recorded p)

    forall-recorded : (at : Place) (rs : List TextRange) (item : ItemTree N) (is : List (N × Op)) → IsRecordedBody b
        → IsRecorded
        (λ s done. then_do (within_budget limits at rs (named_turn noting_turn) (env.intend is s) (noting.note at rs s done)) (end_forall env))
        (λ s done. then_do (within_budget limits at rs (named_turn silent_turn) (env.intend is s) done) (end_forall env))
        (λ s done. record { at = at; over = item; body = b; ranges = rs; state = s }
        ∷ entered_within limits rs (named_turn silent_turn) entering_turn (env.intend is s) done)
    forall-recorded at rs item is p s done loops =
        let more = loops ++ loop at rs s ∷ [] in
        let inner = env.intend is s in
        ap (λ o. then_do o (end_forall env))
        (within-recorded noted limits at rs (named_turn noting_turn) (named_turn silent_turn) entering_turn
        (named-recorded noted noting_turn silent_turn entering_turn (turn-recorded p)) inner done more)
        ∙ then_do-kept (within_budget limits at rs (named_turn silent_turn) inner done) (end_forall env) (λ s done loops. refl)
        (record_behind noted more (entered_within limits rs (named_turn silent_turn) entering_turn inner done))

  -- Nothing in a statement but a forall itself asks its environment to note: by both of them the same values come out, and the same is declared,
  -- assigned and written. That the prover computes, and no lemma says it.
  mutual
    stmt-recorded : (t : StmtTree N) → UntaskedStmt t → IsRecorded (exec limits noting t) (exec limits silent t) (entered limits silent t)
    stmt-recorded (Nothing at) u s done loops = refl
    stmt-recorded (Declare d) u s done loops =
        ap (λ o. then_do o (λ after done. Done (dealt limits silent d s after) done)) (declare-kept limits silent d s done loops)
        ∙ then_do-kept (declare limits silent d s done) (λ after done. Done (dealt limits silent d s after) done) (λ s done loops. refl) loops
    stmt-recorded (Assigned target sign item semicolon) u s done loops = assign-kept limits silent target sign item s done loops
    stmt-recorded (Call x dot call semicolon) u s done loops = cell_call-kept limits silent x call s done loops
    stmt-recorded (Write w) u s done loops = write-kept limits silent w s done loops
    stmt-recorded (Block from body upto) u s done loops =
        scoped-recorded (exec_all limits noting body) (exec_all limits silent body) (entered_all limits silent body) (stmts-recorded body u) s done loops
    stmt-recorded (If at e first second) u s done loops =
        with_value-recorded noted (holds limits silent e s) _ _ _
        (λ t. choose-recorded noted t _ _ _ _ _ _ (inside-recorded first (body-recorded first u.1)) (else-recorded second u.2)) s done loops
    stmt-recorded (Headed word at e body) u s done loops = head-recorded word at e _ _ _ u.2 (inside-recorded body (body-recorded body u.1)) s done loops
    stmt-recorded (Loop ForWord at xs within item intents body) u s done loops =
        with_value-recorded noted (item_of limits silent item None s) _ _ _
        (λ v. for-recorded xs v body at (loop_ranges limits.locales v) (body-recorded body u.1)) s done loops
    stmt-recorded (Loop ForallWord at xs within item intents body) u s done loops =
        with_value-recorded noted (item_of limits silent item None s) _ _ _
        (λ v. forall-recorded xs v body at (loop_ranges limits.locales v) item (intents_of intents) (body-recorded body u.1)) s done loops
    stmt-recorded (Loop CoforallWord at xs within item intents body) u s done loops = absurd u.2

    body-recorded : (b : Body N) → UntaskedBody b → IsRecordedBody b
    body-recorded (WordBody at t) u s done loops = stmt-recorded t u s done loops
    body-recorded (BlockBody from ts upto) u s done loops = stmts-recorded ts u s done loops

    stmts-recorded : (ts : Stmts N) → UntaskedStmts ts → IsRecorded (exec_all limits noting ts) (exec_all limits silent ts) (entered_all limits silent ts)
    stmts-recorded NoStmts u s done loops = refl
    stmts-recorded (Then t rest) u s done loops =
        both-recorded noted (exec limits noting t) (exec limits silent t) (exec_all limits noting rest) (exec_all limits silent rest)
        (entered limits silent t) (entered_all limits silent rest) (stmt-recorded t u.0) (stmts-recorded rest u.1) s done loops

    else-recorded : (o : Else N) → UntaskedElse o → IsRecorded (exec_else limits noting o) (exec_else limits silent o) (entered_else limits silent o)
    else-recorded NoElse u s done loops = refl
    else-recorded (ElseDo at t) u s done loops =
        scoped-recorded (exec limits noting t) (exec limits silent t) (entered limits silent t) (stmt-recorded t u) s done loops

-- ---- variables kept by their names
abbrev loop_at : Place → List TextRange → State → LoopRun
loop_at at rs s = record { at = at; over = rs; value = λ x. by_name.get x s; root = λ x. by_name.root x s }

-- statements, from any state and whatever is on record
pub run-recorded : (limits : Limits) (ts : Stmts Text) → UntaskedStmts ts → (s : State) (done : Deeds) (loops : List LoopRun)
    → exec_all limits recording ts s (with_loops loops done)
    ≡ on_record (loops ++ map loop_of (entered_all limits by_name ts s done)) (exec_all limits by_name ts s done)
run-recorded limits ts u s done loops =
    stmts-recorded limits by_name loop_at ts u s done loops
    ∙ ap (λ loops. on_record loops (exec_all limits by_name ts s done)) (behind-map loop_of loops (entered_all limits by_name ts s done))

-- what is on record changes nothing else that is told of an end
module _ {S : Type 0} (loops : List LoopRun) where
  deeds_of-recorded : (o : Outcome S) → deeds_of (on_record loops o) ≡ with_loops loops (deeds_of o)
  deeds_of-recorded (Done s done) = refl
  deeds_of-recorded (Stop f done) = refl
  deeds_of-recorded (Waits at c op done) = refl

  settled-recorded : (o : Outcome S) → settled (on_record loops o) ≡ on_record loops (settled o)
  settled-recorded (Done s done) = refl
  settled-recorded (Stop f done) = refl
  settled-recorded (Waits at c op done) = refl

  written-recorded : (o : Outcome S) → written (on_record loops o) ≡ written o
  written-recorded (Done s done) = refl
  written-recorded (Stop f done) = refl
  written-recorded (Waits at c op done) = refl

-- ---- a program without the words of tasks
module _ (t : ProgramTree Text) (u : UntaskedStmts t.stmts) (sets : List (Text × Value)) (limits : Limits) (histories : List (List Event)) where
  -- its run by names, with a record and without one; and the foralls that this enters
  abbrev with_record : Outcome State
  with_record = exec_all limits recording t.stmts (first_state sets histories) no_deeds

  abbrev without_record : Outcome State
  without_record = exec_all limits by_name t.stmts (first_state sets histories) no_deeds

  abbrev loops : List LoopRun
  loops = loops_of t sets limits histories

  -- THE LAW: with a record it ends the same, but for the record, on which are the foralls that are entered
  pub ends-recorded : with_record ≡ on_record loops without_record
  ends-recorded = run-recorded limits t.stmts u (first_state sets histories) no_deeds []

  pub deeds-recorded : recorded t sets limits histories ≡ with_loops loops (deeds_of without_record)
  deeds-recorded = ap deeds_of ends-recorded ∙ deeds_of-recorded loops without_record

  pub loops-entered : (recorded t sets limits histories).loops ≡ loops
  loops-entered = ap (λ (done : Deeds). done.loops) deeds-recorded

  -- so it means the same, and writes the same
  pub meaning-recorded : settled with_record ≡ on_record loops (meaning t sets limits histories)
  meaning-recorded = ap settled ends-recorded ∙ settled-recorded loops without_record

  pub writes-recorded : written (settled with_record) ≡ written (meaning t sets limits histories)
  writes-recorded = ap written meaning-recorded ∙ written-recorded loops (meaning t sets limits histories)
