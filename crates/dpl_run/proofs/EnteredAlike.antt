-- Two environments that agree step by step enter the same foralls, one after another, in states that are related as they are entered.
-- First what is put together of runs; then one walk over statements, beside the one by which their runs end alike.
use Rattle.std.proofs.Common.{◌≡◌, ℕ, zero, suc, Bool, true, false, List, [], ◌∷◌, ◌++◌, refl, sym, subst, Ok, Err, None, Result, nat_lt, pos, map}
use Rattle.std.specs.Prelude.{All}
use Rattle.std.proofs.lemmas.List.Elements.{All-head, All-tail, All-weaker}
use Rattle.dpl_syntax.specs.declared.place.Place.{Place}
use Rattle.dpl_sets.specs.TextRanges.{TextRange}
use Rattle.dpl_language.specs.Tree.{Placed, ExprTree, ItemTree, VariablesTree, OneVariable, ManyVariables, HeadWord, WhileWord, OnWord, ForWord, ForallWord, CoforallWord, StmtTree, Nothing, Declare, Assigned, Call, Write, Block, If, Headed, Loop, Body, WordBody, BlockBody, Stmts, NoStmts, Then, Else, NoElse, ElseDo}
use Rattle.dpl_language.specs.Values.{Value, Int, Index, Fault}
use Rattle.dpl_language.specs.Ranges.{indices_in, size_in, loop_ranges, loop_value}
use Rattle.dpl_language.specs.Outcome.{Deeds, Outcome, Done, Stop, Waits, Run}
use Rattle.dpl_language.specs.Environment.{Plain, Environment, Limits}
use Rattle.dpl_language.specs.Phrases.{parts, intents_of}
use Rattle.dpl_language.specs.Loops.{named_turn, scoped, declare_each, bound_to, turn_of}
use Rattle.dpl_language.specs.Expressions.{value_of, item_of}
use Rattle.dpl_language.specs.Statements.{holds, exec_body}
use Rattle.dpl_agreement.specs.Renamed.{renamed, renamed_expr, renamed_item, renamed_variables, renamed_stmt, renamed_body, renamed_stmts, renamed_else, renamed_intents}
use Rattle.dpl_agreement.specs.Scopes.{Scoping, PlainForm, add_each, add_variables, inside, fits_expr, fits_item, fits_each, fits_variables, holds_ints, after, after_body, fits, fits_body, fits_all, fits_else}
use Rattle.dpl_agreement.specs.Agreement.{Simulates, EndsAlike, RunAlike}
use Rattle.dpl_agreement.proofs.RunsAlike.{with_ok-same, named_turns-alike}
use Rattle.dpl_agreement.proofs.RenamedParts.{parts-mapped, intents_of-renamed}
use Rattle.dpl_agreement.proofs.ExpressionsAlike.{value_of-renamed, item_of-renamed}
use Rattle.dpl_agreement.proofs.LoopsAlike.{leave-after_body_in, HoldsTurn, scoped-alike, turns-held, turn_of-alike}
use Rattle.dpl_agreement.proofs.Agreement.{exec-alike, exec_all-alike}
use Rattle.dpl_run.specs.Entered.{Entry, Entering, entered_behind, entered_with, entered_if, entered_never, entered_in_order, entered_within, entered_repeated, entered_inside, entered_turn, entered_head, entered, entered_body, entered_all, entered_else, Pairwise}

pub pair-append : {A B : Type 0} (R : A → B → Type 0) (ws xs : List A) (ys zs : List B) → Pairwise R ws ys → Pairwise R xs zs → Pairwise R (ws ++ xs) (ys ++ zs)
pair-append R [] xs [] zs p q = q
pair-append R [] xs (y ∷ ys) zs p q = absurd p
pair-append R (w ∷ ws) xs [] zs p q = absurd p
pair-append R (w ∷ ws) xs (y ∷ ys) zs p q = (p.0, pair-append R ws xs ys zs p.1 q)

-- ---- what is put together of runs that end alike
module _ {M N S1 S2 : Type 0} (Same : Entry M S1 → Entry N S2 → Type 0) where
  -- from related states, and behind the same deeds, the same is entered
  abbrev pub EntersAlike : (S1 → S2 → Type 0) → Entering M S1 → Entering N S2 → Type 0
  EntersAlike P a b = (s1 : S1) (s2 : S2) (done : Deeds) → P s1 s2 → Pairwise Same (a s1 done) (b s2 done)

  pub behind-entered : (P : S1 → S2 → Type 0) (a : Outcome S1) (b : Outcome S2) (x : Entering M S1) (y : Entering N S2) → EndsAlike P a b → EntersAlike P x y
      → Pairwise Same (entered_behind a x) (entered_behind b y)
  behind-entered P (Done s done) b x y al go = subst (λ o. Pairwise Same (x s done) (entered_behind o y)) (sym al.2) (go s al.0 done al.1)
  behind-entered P (Stop f done) b x y al go = subst (λ o. Pairwise {A = Entry M S1} {B = Entry N S2} Same [] (entered_behind o y)) (sym al) tt
  behind-entered P (Waits at c op done) b x y al go = subst (λ o. Pairwise {A = Entry M S1} {B = Entry N S2} Same [] (entered_behind o y)) (sym al) tt

  pub with-entered : {A : Type 0} (a b : Result A Fault) (x : A → Entering M S1) (y : A → Entering N S2) (s1 : S1) (s2 : S2) (done : Deeds) → a ≡ b
      → ((v : A) → b ≡ Ok v → Pairwise Same (x v s1 done) (y v s2 done)) → Pairwise Same (entered_with a x s1 done) (entered_with b y s2 done)
  with-entered (Ok v) b x y s1 s2 done e go = subst (λ b. Pairwise Same (x v s1 done) (entered_with b y s2 done)) e (go v (sym e))
  with-entered (Err f) b x y s1 s2 done e go = subst (λ b. Pairwise {A = Entry M S1} {B = Entry N S2} Same [] (entered_with b y s2 done)) e tt

  pub if-entered : (c : Bool) (P : S1 → S2 → Type 0) (w x : Entering M S1) (y z : Entering N S2) → EntersAlike P w y → EntersAlike P x z → EntersAlike P (entered_if c w x) (entered_if c y z)
  if-entered true P w x y z p q s1 s2 done r = p s1 s2 done r
  if-entered false P w x y z p q s1 s2 done r = q s1 s2 done r

  pub in_order-entered : (ts : List Index) (P : S1 → S2 → Type 0) (a : Index → Run S1) (b : Index → Run S2) (x : Index → Entering M S1) (y : Index → Entering N S2)
      → All (λ t. RunAlike P P (a t) (b t)) ts → All (λ t. EntersAlike P (x t) (y t)) ts → EntersAlike P (entered_in_order a x ts) (entered_in_order b y ts)
  in_order-entered [] P a b x y p q s1 s2 done r = tt
  in_order-entered (t ∷ ts) P a b x y p q s1 s2 done r =
      pair-append Same (x t s1 done) (entered_behind (a t s1 done) (entered_in_order a x ts)) (y t s2 done) (entered_behind (b t s2 done) (entered_in_order b y ts))
      (All-head (λ t. EntersAlike P (x t) (y t)) t ts q s1 s2 done r)
      (behind-entered P (a t s1 done) (b t s2 done) (entered_in_order a x ts) (entered_in_order b y ts) (All-head (λ t. RunAlike P P (a t) (b t)) t ts p s1 s2 done r)
      (in_order-entered ts P a b x y (All-tail (λ t. RunAlike P P (a t) (b t)) t ts p) (All-tail (λ t. EntersAlike P (x t) (y t)) t ts q)))

  pub within-entered : (limits : Limits) (rs : List TextRange) (P : S1 → S2 → Type 0) (a : Index → Run S1) (b : Index → Run S2) (x : Index → Entering M S1) (y : Index → Entering N S2)
      → All (λ t. RunAlike P P (a t) (b t)) (indices_in rs) → All (λ t. EntersAlike P (x t) (y t)) (indices_in rs)
      → EntersAlike P (entered_within limits rs a x) (entered_within limits rs b y)
  within-entered limits rs P a b x y p q =
      if-entered (nat_lt limits.budget (size_in rs)) P entered_never (entered_in_order a x (indices_in rs)) entered_never (entered_in_order b y (indices_in rs))
      (λ s1 s2 done r. tt) (in_order-entered (indices_in rs) P a b x y p q)

  pub repeated-entered : (n : ℕ) (P : S1 → S2 → Type 0) (t1 : S1 → Result Bool Fault) (t2 : S2 → Result Bool Fault) (a : Run S1) (b : Run S2) (x : Entering M S1) (y : Entering N S2)
      → ((s1 : S1) (s2 : S2) → P s1 s2 → t1 s1 ≡ t2 s2) → RunAlike P P a b → EntersAlike P x y → EntersAlike P (entered_repeated n t1 a x) (entered_repeated n t2 b y)
  repeated-entered zero P t1 t2 a b x y e p q s1 s2 done r = tt
  repeated-entered (suc n) P t1 t2 a b x y e p q s1 s2 done r =
      with-entered (t1 s1) (t2 s2) _ _ s1 s2 done (e s1 s2 r) (λ c told. if-entered c P
      (λ s done. x s done ++ entered_behind (a s done) (entered_repeated n t1 a x)) entered_never
      (λ s done. y s done ++ entered_behind (b s done) (entered_repeated n t2 b y)) entered_never
      (λ s1 s2 done r. pair-append Same (x s1 done) (entered_behind (a s1 done) (entered_repeated n t1 a x)) (y s2 done) (entered_behind (b s2 done) (entered_repeated n t2 b y))
      (q s1 s2 done r)
      (behind-entered P (a s1 done) (b s2 done) (entered_repeated n t1 a x) (entered_repeated n t2 b y) (p s1 s2 done r) (repeated-entered n P t1 t2 a b x y e p q)))
      (λ s1 s2 done r. tt) s1 s2 done r)

  -- behind a word and an expression, by the word: here is its case, so that a law of statements needs none of its own
  pub head-entered : (limits : Limits) (first : Environment M S1) (second : Environment N S2) (P : S1 → S2 → Type 0) (word : HeadWord) (e1 : ExprTree M) (e2 : ExprTree N)
      (a : Run S1) (b : Run S2) (x : Entering M S1) (y : Entering N S2) → ((s1 : S1) (s2 : S2) → P s1 s2 → value_of limits first e1 None s1 ≡ value_of limits second e2 None s2)
      → RunAlike P P a b → EntersAlike P x y → EntersAlike P (entered_head limits first word e1 a x) (entered_head limits second word e2 b y)
  head-entered limits first second P WhileWord e1 e2 a b x y same p q =
      repeated-entered limits.budget P (holds limits first e1) (holds limits second e2) a b x y (λ s1 s2 r. with_ok-same _ _ _ _ (same s1 s2 r) (λ v. refl)) p q
  head-entered limits first second P OnWord e1 e2 a b x y same p q = λ s1 s2 done r. tt

-- ---- what is so of each forall of a text where it stands, but for those in a coforall
module _ {N G : Type 0} (scoping : Scoping N G) (Q : G → Place → ItemTree N → Body N → Type 0) where
  abbrev mutual
    pub EachForall : StmtTree N → G → Type 0
    EachForall (Nothing at) g = Unit {0}
    EachForall (Declare d) g = Unit {0}
    EachForall (Assigned target sign item semicolon) g = Unit {0}
    EachForall (Call x dot call semicolon) g = Unit {0}
    EachForall (Write w) g = Unit {0}
    EachForall (Block from body upto) g = EachAmong body (scoping.enter g)
    EachForall (If at e first second) g = EachInBody first (scoping.enter g) × EachInElse second g
    EachForall (Headed word at e body) g = EachInBody body (scoping.enter g)
    EachForall (Loop ForWord at xs within item intents body) g = EachInBody body (inside scoping xs g)
    EachForall (Loop ForallWord at xs within item intents body) g = Q g at item body × EachInBody body (inside scoping xs (scoping.intend (intents_of intents) g))
    EachForall (Loop CoforallWord at xs within item intents body) g = Unit {0}

    pub EachInBody : Body N → G → Type 0
    EachInBody (WordBody at t) g = EachForall t g
    EachInBody (BlockBody from ts upto) g = EachAmong ts g

    pub EachAmong : Stmts N → G → Type 0
    EachAmong NoStmts g = Unit {0}
    EachAmong (Then t rest) g = EachForall t g × EachAmong rest (after scoping t g)

    pub EachInElse : Else N → G → Type 0
    EachInElse NoElse g = Unit {0}
    EachInElse (ElseDo at t) g = EachForall t (scoping.enter g)

module _ {M N G S1 S2 : Type 0} (limits : Limits) (name : N → M) (scoping : Scoping N G) (first : Environment M S1) (second : Environment N S2) (R : G → S1 → S2 → Type 0)
    (sim : Simulates limits name scoping first second R) (Q : G → Place → ItemTree N → Body N → Type 0) where
  -- one forall, entered by both: what is so of it where it stands, and the states are related
  pub record IsMet (a : Entry M S1) (b : Entry N S2) : Type 0 where
    pub at : a.at ≡ b.at
    pub over : a.over ≡ renamed_item name b.over
    pub body : a.body ≡ renamed_body name b.body
    pub ranges : a.ranges ≡ b.ranges
    pub seen : G
    pub known : Q seen b.at b.over b.body
    pub fits : fits_item scoping None b.over seen
    pub alike : R seen a.state b.state

  holds-same : (e : ExprTree N) (g : G) (s1 : S1) (s2 : S2) → R g s1 s2 → fits_expr scoping None e g → holds limits first (renamed_expr name e) s1 ≡ holds limits second e s2
  holds-same e g s1 s2 r f = with_ok-same _ _ _ _ (value_of-renamed limits name scoping first second R sim e None g s1 s2 r f) (λ v. refl)

  -- a loop's variables in a turn
  each-bound : (xs : List (Placed N)) (t : Index) (g : G) (s1 : S1) (s2 : S2) → R g s1 s2 → fits_each scoping xs g → holds_ints scoping xs
      → R (add_each scoping xs g) (declare_each first (map (renamed name) xs) t s1) (declare_each second xs t s2)
  each-bound [] t g s1 s2 r f h = r
  each-bound (x ∷ xs) [] g s1 s2 r f h =
      each-bound xs [] (scoping.add x.name PlainForm g) _ _ (sim.declares x.name (Plain (Int (pos 0))) g s1 s2 r f.0 (h.0 (pos 0))) f.1 h.1
  each-bound (x ∷ xs) (i ∷ t) g s1 s2 r f h =
      each-bound xs t (scoping.add x.name PlainForm g) _ _ (sim.declares x.name (Plain (Int i)) g s1 s2 r f.0 (h.0 i)) f.1 h.1

  variables-bound : (xs : VariablesTree N) (over : Value) (t : Index) (g : G) (s1 : S1) (s2 : S2) → R g s1 s2 → fits_variables scoping xs g → HoldsTurn scoping xs over t
      → R (add_variables scoping xs g) (bound_to first (renamed_variables name xs) over t s1) (bound_to second xs over t s2)
  variables-bound (OneVariable x) over t g s1 s2 r f h = sim.declares x.name (Plain (loop_value over t)) g s1 s2 r f h
  variables-bound (ManyVariables from xs upto) over t g s1 s2 r f h =
      subst (λ ys. R (add_each scoping (parts xs) g) (declare_each first ys t s1) (declare_each second (parts xs) t s2)) (sym (parts-mapped (renamed name) xs))
      (each-bound (parts xs) t g s1 s2 r f h)

  abbrev Alike : G → Entering M S1 → Entering N S2 → Type 0
  Alike g x y = EntersAlike IsMet (R g) x y

  -- in a scope, and in each turn of a loop
  inside-entered : (g : G) (x : Entering M S1) (y : Entering N S2) → Alike (scoping.enter g) x y → Alike g (entered_inside limits first x) (entered_inside limits second y)
  inside-entered g x y p s1 s2 done r = p (first.enter s1) (second.enter s2) done (sim.enters g s1 s2 r)

  turn-entered : (xs : VariablesTree N) (over : Value) (g : G) (x : Entering M S1) (y : Entering N S2) → fits_variables scoping xs (scoping.enter g) → Alike (inside scoping xs g) x y
      → (t : Index) → HoldsTurn scoping xs over t → Alike g (entered_turn limits first (renamed_variables name xs) over x t) (entered_turn limits second xs over y t)
  turn-entered xs over g x y f p t held s1 s2 done r =
      p (first.enter (bound_to first (renamed_variables name xs) over t (first.enter s1))) (second.enter (bound_to second xs over t (second.enter s2))) done
      (sim.enters (add_variables scoping xs (scoping.enter g)) _ _ (variables-bound xs over t (scoping.enter g) (first.enter s1) (second.enter s2) (sim.enters g s1 s2 r) f held))

  -- the runs of bodies, and of the turns of a loop
  body-alike : (b : Body N) (g : G) → fits_body scoping b g → RunAlike (R g) (R (after_body scoping b g)) (exec_body limits first (renamed_body name b)) (exec_body limits second b)
  body-alike (WordBody at t) g f s1 s2 done r = exec-alike limits name scoping first second R sim t g f s1 s2 done r
  body-alike (BlockBody from ts upto) g f s1 s2 done r = exec_all-alike limits name scoping first second R sim ts g f s1 s2 done r

  inner-alike : (b : Body N) (g : G) → fits_body scoping b (scoping.enter g)
      → RunAlike (R g) (R g) (scoped first (exec_body limits first (renamed_body name b))) (scoped second (exec_body limits second b))
  inner-alike b g f =
      scoped-alike limits name scoping first second R sim g (after_body scoping b (scoping.enter g)) _ _ (leave-after_body_in scoping sim.lawful b g) (body-alike b (scoping.enter g) f)

  module _ (xs : VariablesTree N) (over : Value) (g : G) (b : Body N) (f : fits_variables scoping xs (scoping.enter g)) (inner : fits_body scoping b (inside scoping xs g)) where
    turns-alike : (ts : List Index) → All (λ t. HoldsTurn scoping xs over t) ts
        → All (λ t. RunAlike (R g) (R g) (turn_of first (renamed_variables name xs) over (exec_body limits first (renamed_body name b)) t) (turn_of second xs over (exec_body limits second b) t)) ts
    turns-alike ts h =
        All-weaker (λ t. HoldsTurn scoping xs over t)
        (λ t. RunAlike (R g) (R g) (turn_of first (renamed_variables name xs) over (exec_body limits first (renamed_body name b)) t) (turn_of second xs over (exec_body limits second b) t))
        (turn_of-alike limits name scoping first second R sim xs over g (after_body scoping b (inside scoping xs g)) _ _ f
        (leave-after_body_in scoping sim.lawful b (add_variables scoping xs (scoping.enter g))) (body-alike b (inside scoping xs g) inner)) ts h

    turns-entered : (ts : List Index) → All (λ t. HoldsTurn scoping xs over t) ts
        → Alike (inside scoping xs g) (entered_body limits first (renamed_body name b)) (entered_body limits second b)
        → All (λ t. Alike g (entered_turn limits first (renamed_variables name xs) over (entered_body limits first (renamed_body name b)) t) (entered_turn limits second xs over (entered_body limits second b) t)) ts
    turns-entered ts h p =
        All-weaker (λ t. HoldsTurn scoping xs over t)
        (λ t. Alike g (entered_turn limits first (renamed_variables name xs) over (entered_body limits first (renamed_body name b)) t) (entered_turn limits second xs over (entered_body limits second b) t))
        (turn-entered xs over g _ _ f p) ts h

  mutual
    pub stmt-entered : (t : StmtTree N) (g : G) → fits scoping t g → EachForall scoping Q t g → Alike g (entered limits first (renamed_stmt name t)) (entered limits second t)
    stmt-entered (Block from body upto) g f q s1 s2 done r = inside-entered g _ _ (stmts-entered body (scoping.enter g) f q) s1 s2 done r
    stmt-entered (If at e a b) g f q s1 s2 done r =
        with-entered IsMet (holds limits first (renamed_expr name e) s1) (holds limits second e s2) _ _ s1 s2 done (holds-same e g s1 s2 r f.0)
        (λ c told. if-entered IsMet c (R g) _ _ _ _ (inside-entered g _ _ (body-entered a (scoping.enter g) f.1 q.0)) (else-entered b g f.2 q.1) s1 s2 done r)
    stmt-entered (Headed word at e body) g f q s1 s2 done r =
        head-entered IsMet limits first second (R g) word (renamed_expr name e) e _ _ _ _ (λ s1 s2 r. value_of-renamed limits name scoping first second R sim e None g s1 s2 r f.0)
        (inner-alike body g f.1) (inside-entered g _ _ (body-entered body (scoping.enter g) f.1 q)) s1 s2 done r
    stmt-entered (Loop ForWord at xs within item intents body) g f q s1 s2 done r =
        with-entered IsMet (item_of limits first (renamed_item name item) None s1) (item_of limits second item None s2) _ _ s1 s2 done
        (item_of-renamed limits name scoping first second R sim item None g s1 s2 r f.0)
        (λ v e. let ts = indices_in (loop_ranges limits.locales v) in
        let held = turns-held limits name scoping first second R sim xs item v g s1 s2 r f.1 e in
        within-entered IsMet limits (loop_ranges limits.locales v) (R g) _ _ _ _ (turns-alike xs v g body f.3 f.4 ts held)
        (turns-entered xs v g body f.3 f.4 ts held (body-entered body (inside scoping xs g) f.4 q)) s1 s2 done r)
    stmt-entered (Loop ForallWord at xs within item intents body) g f q s1 s2 done r =
        with-entered IsMet (item_of limits first (renamed_item name item) None s1) (item_of limits second item None s2) _ _ s1 s2 done
        (item_of-renamed limits name scoping first second R sim item None g s1 s2 r f.0)
        (λ v e.
        let is = intents_of intents in
        let rs = loop_ranges limits.locales v in
        let g_in = scoping.intend is g in
        let held = turns-held limits name scoping first second R sim xs item v g s1 s2 r f.1 e in
        let plain1 = turn_of first (renamed_variables name xs) v (exec_body limits first (renamed_body name body)) in
        let plain2 = turn_of second xs v (exec_body limits second body) in
        let turns1 = named_turn plain1 in
        let turns2 = named_turn plain2 in
        let inner1 = entered_turn limits first (renamed_variables name xs) v (entered_body limits first (renamed_body name body)) in
        let inner2 = entered_turn limits second xs v (entered_body limits second body) in
        let more =
        within-entered IsMet limits rs (R g_in) turns1 turns2 inner1 inner2 (named_turns-alike (indices_in rs) (R g_in) plain1 plain2 (turns-alike xs v g_in body f.3 f.4 (indices_in rs) held))
        (turns-entered xs v g_in body f.3 f.4 (indices_in rs) held (body-entered body (inside scoping xs g_in) f.4 q.1))
        (first.intend (renamed_intents name is) s1) (second.intend is s2) (first.note at rs s1 done) (sim.intends is g s1 s2 r f.2) in (
          record { at = refl; over = refl; body = refl; ranges = refl; seen = g; known = q.0; fits = f.0; alike = r },
          subst (λ js. Pairwise IsMet (entered_within limits rs turns1 inner1 (first.intend js s1) (first.note at rs s1 done)) (entered_within limits rs turns2 inner2 (second.intend is s2) (second.note at rs s2 done)))
              (sym (intents_of-renamed name intents))
              (subst (λ noted. Pairwise IsMet (entered_within limits rs turns1 inner1 (first.intend (renamed_intents name is) s1) (first.note at rs s1 done)) (entered_within limits rs turns2 inner2 (second.intend is s2) noted))
              (sim.notes at rs done g s1 s2 r) more),
        ))
    stmt-entered _ g f q s1 s2 done r = tt

    body-entered : (b : Body N) (g : G) → fits_body scoping b g → EachInBody scoping Q b g → Alike g (entered_body limits first (renamed_body name b)) (entered_body limits second b)
    body-entered (WordBody at t) g f q s1 s2 done r = stmt-entered t g f q s1 s2 done r
    body-entered (BlockBody from ts upto) g f q s1 s2 done r = stmts-entered ts g f q s1 s2 done r

    pub stmts-entered : (ts : Stmts N) (g : G) → fits_all scoping ts g → EachAmong scoping Q ts g → Alike g (entered_all limits first (renamed_stmts name ts)) (entered_all limits second ts)
    stmts-entered NoStmts g f q s1 s2 done r = tt
    stmts-entered (Then t rest) g f q s1 s2 done r =
        pair-append IsMet (entered limits first (renamed_stmt name t) s1 done) _ (entered limits second t s2 done) _ (stmt-entered t g f.0 q.0 s1 s2 done r)
        (behind-entered IsMet (R (after scoping t g)) _ _ (entered_all limits first (renamed_stmts name rest)) (entered_all limits second rest)
        (exec-alike limits name scoping first second R sim t g f.0 s1 s2 done r) (stmts-entered rest (after scoping t g) f.1 q.1))

    else-entered : (o : Else N) (g : G) → fits_else scoping o g → EachInElse scoping Q o g → Alike g (entered_else limits first (renamed_else name o)) (entered_else limits second o)
    else-entered NoElse g f q s1 s2 done r = tt
    else-entered (ElseDo at t) g f q s1 s2 done r = inside-entered g _ _ (stmt-entered t (scoping.enter g) f q) s1 s2 done r
