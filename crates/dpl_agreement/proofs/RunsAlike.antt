-- Runs that are put together from runs that end alike end alike.
-- One lemma for each way in which runs are put together, over any two relations of states.
use Rattle.std.proofs.Common.{◌≡◌, ℕ, zero, suc, Bool, true, false, List, [], ◌∷◌, refl, sym, ap, ◌∙◌, subst, Ok, Err, Some, None, Result, Option, nat_lt}
use Rattle.std.specs.Prelude.{ℤ, All, get_or}
use Rattle.std.proofs.lemmas.List.Elements.{All-head, All-tail, All-weaker}
use Rattle.dpl_syntax.specs.declared.place.Place.{Place}
use Rattle.dpl_sets.specs.TextRanges.{TextRange}
use Rattle.dpl_language.specs.Tree.{ExprTree, HeadWord, WhileWord, OnWord}
use Rattle.dpl_language.specs.Values.{Index, number, Fault, fault, Budget}
use Rattle.dpl_language.specs.Ranges.{indices_in, size_in}
use Rattle.dpl_language.specs.Outcome.{Deeds, Outcome, Done, Stop, Waits, Run, with_ok, with_value, then_do, choose, unless, in_order, repeated, naming}
use Rattle.dpl_language.specs.Environment.{Environment, Limits}
use Rattle.dpl_language.specs.Expressions.{value_of}
use Rattle.dpl_language.specs.Loops.{within_budget, named_turn}
use Rattle.dpl_language.specs.Statements.{holds, headed}
use Rattle.dpl_language.specs.Tasks.{solo_of, stop_or}
use Rattle.dpl_language.specs.Program.{settled, deeds_of, written}
use Rattle.dpl_agreement.specs.Agreement.{EndsAlike, RunAlike}

-- VALUES
pub with_ok-same : {A B : Type 0} (a b : Result A Fault) (f h : A → Result B Fault) → a ≡ b → ((v : A) → f v ≡ h v) → with_ok a f ≡ with_ok b h
with_ok-same (Ok v) b f h e p = p v ∙ ap (λ b. with_ok b h) e
with_ok-same (Err x) b f h e p = ap (λ b. with_ok b h) e

-- the same, where what is done with the value needs to know whose value it is
pub with_ok-same_by : {A B : Type 0} (a b : Result A Fault) (f h : A → Result B Fault) → a ≡ b → ((v : A) → b ≡ Ok v → f v ≡ h v) → with_ok a f ≡ with_ok b h
with_ok-same_by (Ok v) b f h e p = p v (sym e) ∙ ap (λ b. with_ok b h) e
with_ok-same_by (Err x) b f h e p = ap (λ b. with_ok b h) e

-- what is so of every element is so of each of a list
pub All-every : {A : Type 0} (P : A → Type 0) → ((x : A) → P x) → (xs : List A) → All P xs
All-every P h xs k d lt = h (get_or xs k d)

module _ {S1 S2 : Type 0} where
  pub EndsAlike-weaker : (P Q : S1 → S2 → Type 0) → ((s1 : S1) (s2 : S2) → P s1 s2 → Q s1 s2) → (a : Outcome S1) (b : Outcome S2) → EndsAlike P a b → EndsAlike Q a b
  EndsAlike-weaker P Q q (Done s done) b al = (al.0, q s al.0 al.1, al.2)
  EndsAlike-weaker P Q q (Stop f done) b al = al
  EndsAlike-weaker P Q q (Waits at c op done) b al = al

  pub then_do-alike : (P Q : S1 → S2 → Type 0) (a : Outcome S1) (b : Outcome S2) (go1 : Run S1) (go2 : Run S2) → EndsAlike P a b → RunAlike P Q go1 go2 → EndsAlike Q (then_do a go1) (then_do b go2)
  then_do-alike P Q (Done s done) b go1 go2 al go = subst (λ b. EndsAlike Q (go1 s done) (then_do b go2)) (sym al.2) (go s al.0 done al.1)
  then_do-alike P Q (Stop f done) b go1 go2 al go = ap (λ b. then_do b go2) al
  then_do-alike P Q (Waits at c op done) b go1 go2 al go = ap (λ b. then_do b go2) al

  -- the same value, and runs that end alike behind it
  pub with_value-alike : {A : Type 0} (Q : S1 → S2 → Type 0) (a b : Result A Fault) (go1 : A → Run S1) (go2 : A → Run S2) (s1 : S1) (s2 : S2) (done : Deeds) → a ≡ b
      → ((v : A) → EndsAlike Q (go1 v s1 done) (go2 v s2 done)) → EndsAlike Q (with_value a go1 s1 done) (with_value b go2 s2 done)
  with_value-alike Q (Ok v) b go1 go2 s1 s2 done e go = subst (λ b. EndsAlike Q (go1 v s1 done) (with_value b go2 s2 done)) e (go v)
  with_value-alike Q (Err f) b go1 go2 s1 s2 done e go = ap (λ b. with_value b go2 s2 done) (sym e)

  pub with_value-alike_by : {A : Type 0} (Q : S1 → S2 → Type 0) (a b : Result A Fault) (go1 : A → Run S1) (go2 : A → Run S2) (s1 : S1) (s2 : S2) (done : Deeds) → a ≡ b
      → ((v : A) → b ≡ Ok v → EndsAlike Q (go1 v s1 done) (go2 v s2 done)) → EndsAlike Q (with_value a go1 s1 done) (with_value b go2 s2 done)
  with_value-alike_by Q (Ok v) b go1 go2 s1 s2 done e go = subst (λ b. EndsAlike Q (go1 v s1 done) (with_value b go2 s2 done)) e (go v (sym e))
  with_value-alike_by Q (Err f) b go1 go2 s1 s2 done e go = ap (λ b. with_value b go2 s2 done) (sym e)

  pub choose-alike : (c : Bool) (P Q : S1 → S2 → Type 0) (a1 b1 : Run S1) (a2 b2 : Run S2) → RunAlike P Q a1 a2 → RunAlike P Q b1 b2 → RunAlike P Q (choose c a1 b1) (choose c a2 b2)
  choose-alike true P Q a1 b1 a2 b2 p q s1 s2 done r = p s1 s2 done r
  choose-alike false P Q a1 b1 a2 b2 p q s1 s2 done r = q s1 s2 done r

  pub unless-alike : (c : Bool) (f : Fault) (P Q : S1 → S2 → Type 0) (a : Run S1) (b : Run S2) → RunAlike P Q a b → RunAlike P Q (unless c f a) (unless c f b)
  unless-alike true f P Q a b p s1 s2 done r = refl
  unless-alike false f P Q a b p s1 s2 done r = p s1 s2 done r

  pub in_order-alike : (ts : List Index) (P : S1 → S2 → Type 0) (a : Index → Run S1) (b : Index → Run S2) → All (λ t. RunAlike P P (a t) (b t)) ts → RunAlike P P (in_order a ts) (in_order b ts)
  in_order-alike [] P a b p s1 s2 done r = (s2, r, refl)
  in_order-alike (t ∷ ts) P a b p s1 s2 done r = then_do-alike P P (a t s1 done) (b t s2 done) (in_order a ts) (in_order b ts)
      (All-head (λ t. RunAlike P P (a t) (b t)) t ts p s1 s2 done r) (in_order-alike ts P a b (All-tail (λ t. RunAlike P P (a t) (b t)) t ts p))

  -- a `while`
  pub repeated-alike : (n : ℕ) (at : Place) (P : S1 → S2 → Type 0) (t1 : S1 → Result Bool Fault) (t2 : S2 → Result Bool Fault) (a : Run S1) (b : Run S2)
      → ((s1 : S1) (s2 : S2) → P s1 s2 → t1 s1 ≡ t2 s2) → RunAlike P P a b → RunAlike P P (repeated n at t1 a) (repeated n at t2 b)
  repeated-alike zero at P t1 t2 a b e p s1 s2 done r =
      with_value-alike P (t1 s1) (t2 s2) _ _ s1 s2 done (e s1 s2 r) (λ c. choose-alike c P P
      (λ s done. Stop (fault Budget at) done) (λ s done. Done s done) (λ s done. Stop (fault Budget at) done) (λ s done. Done s done)
      (λ s1 s2 done r. refl) (λ s1 s2 done r. (s2, r, refl)) s1 s2 done r)
  repeated-alike (suc n) at P t1 t2 a b e p s1 s2 done r =
      with_value-alike P (t1 s1) (t2 s2) _ _ s1 s2 done (e s1 s2 r) (λ c. choose-alike c P P
      (λ s done. then_do (a s done) (repeated n at t1 a)) (λ s done. Done s done) (λ s done. then_do (b s done) (repeated n at t2 b)) (λ s done. Done s done)
      (λ s1 s2 done r. then_do-alike P P (a s1 done) (b s2 done) (repeated n at t1 a) (repeated n at t2 b) (p s1 s2 done r) (repeated-alike n at P t1 t2 a b e p))
      (λ s1 s2 done r. (s2, r, refl)) s1 s2 done r)

  pub naming-alike : (P : S1 → S2 → Type 0) (t : Index) (a : Outcome S1) (b : Outcome S2) → EndsAlike P a b → EndsAlike P (naming t a) (naming t b)
  naming-alike P t (Done s done) b al = (al.0, al.1, ap (naming t) al.2)
  naming-alike P t (Stop f done) b al = ap (naming t) al
  naming-alike P t (Waits at c op done) b al = ap (naming t) al

  pub named_turn-alike : (P : S1 → S2 → Type 0) (a : Index → Run S1) (b : Index → Run S2) → ((t : Index) → RunAlike P P (a t) (b t)) → (t : Index) → RunAlike P P (named_turn a t) (named_turn b t)
  named_turn-alike P a b p t s1 s2 done r = naming-alike P t (a t s1 done) (b t s2 done) (p t s1 s2 done r)

  pub named_turns-alike : (ts : List Index) (P : S1 → S2 → Type 0) (a : Index → Run S1) (b : Index → Run S2) → All (λ t. RunAlike P P (a t) (b t)) ts → All (λ t. RunAlike P P (named_turn a t) (named_turn b t)) ts
  named_turns-alike ts P a b p =
      All-weaker (λ t. RunAlike P P (a t) (b t)) (λ t. RunAlike P P (named_turn a t) (named_turn b t)) (λ t q s1 s2 done r. naming-alike P t (a t s1 done) (b t s2 done) (q s1 s2 done r)) ts p

  pub within_budget-alike : (limits : Limits) (at : Place) (rs : List TextRange) (P : S1 → S2 → Type 0) (a : Index → Run S1) (b : Index → Run S2) → All (λ t. RunAlike P P (a t) (b t)) (indices_in rs)
      → RunAlike P P (within_budget limits at rs a) (within_budget limits at rs b)
  within_budget-alike limits at rs P a b p =
      unless-alike (nat_lt limits.budget (size_in rs)) (fault Budget at) P P (in_order a (indices_in rs)) (in_order b (indices_in rs)) (in_order-alike (indices_in rs) P a b p)

  -- a task by itself
  pub solo_of-alike : (P : S1 → S2 → Type 0) (a : Outcome S1) (b : Outcome S2) → EndsAlike P a b → solo_of a ≡ solo_of b
  solo_of-alike P (Done s done) b al = ap solo_of (sym al.2)
  solo_of-alike P (Stop f done) b al = ap solo_of (sym al)
  solo_of-alike P (Waits at c op done) b al = ap solo_of (sym al)

  pub stop_or-alike : (f : Option Fault) (P Q : S1 → S2 → Type 0) (a : Run S1) (b : Run S2) → RunAlike P Q a b → RunAlike P Q (stop_or f a) (stop_or f b)
  stop_or-alike None P Q a b p s1 s2 done r = p s1 s2 done r
  stop_or-alike (Some f) P Q a b p s1 s2 done r = refl

  -- a program's end: what is written, and all that was done
  pub settled-alike : (P : S1 → S2 → Type 0) (a : Outcome S1) (b : Outcome S2) → EndsAlike P a b → EndsAlike P (settled a) (settled b)
  settled-alike P (Done s done) b al = (al.0, al.1, ap settled al.2)
  settled-alike P (Stop f done) b al = ap settled al
  settled-alike P (Waits at c op done) b al = ap settled al

  pub written-alike : (P : S1 → S2 → Type 0) (a : Outcome S1) (b : Outcome S2) → EndsAlike P a b → written a ≡ written b
  written-alike P (Done s done) b al = ap written (sym al.2)
  written-alike P (Stop f done) b al = ap written (sym al)
  written-alike P (Waits at c op done) b al = ap written (sym al)

  pub deeds_of-alike : (P : S1 → S2 → Type 0) (a : Outcome S1) (b : Outcome S2) → EndsAlike P a b → deeds_of a ≡ deeds_of b
  deeds_of-alike P (Done s done) b al = ap deeds_of (sym al.2)
  deeds_of-alike P (Stop f done) b al = ap deeds_of (sym al)
  deeds_of-alike P (Waits at c op done) b al = ap deeds_of (sym al)

-- A BODY BEHIND A WORD AND AN EXPRESSION, by the word: here is its case, so that a law of statements needs none of its own.
module _ {M N S1 S2 : Type 0} (one other : Limits) (first : Environment M S1) (second : Environment N S2) (P : S1 → S2 → Type 0) where
  -- on the same locale, and moved to the same one
  pub record MovesAlike : Type 0 where
    pub heres : (s1 : S1) (s2 : S2) → P s1 s2 → first.here s1 ≡ second.here s2
    pub moves : (k : ℤ) (s1 : S1) (s2 : S2) → P s1 s2 → P (first.move k s1) (second.move k s2)

  -- from the same value and a body that ends alike; of locales is asked only where the word is `on`
  pub headed-alike : (word : HeadWord) (at : Place) (e1 : ExprTree M) (e2 : ExprTree N) (a : Run S1) (b : Run S2) → one.budget ≡ other.budget
      → ((s1 : S1) (s2 : S2) → P s1 s2 → value_of one first e1 None s1 ≡ value_of other second e2 None s2) → RunAlike P P a b → (word ≡ OnWord → MovesAlike)
      → RunAlike P P (headed one first word at e1 a) (headed other second word at e2 b)
  headed-alike WhileWord at e1 e2 a b budget same p locales =
      subst (λ n. RunAlike P P (repeated one.budget at (holds one first e1) a) (repeated n at (holds other second e2) b)) budget
      (repeated-alike one.budget at P _ _ a b (λ s1 s2 r. with_ok-same _ _ _ _ (same s1 s2 r) (λ v. refl)) p)
  headed-alike OnWord at e1 e2 a b budget same p locales = λ s1 s2 done r.
      let is = locales refl in
      with_value-alike P _ _ _ _ s1 s2 done (same s1 s2 r)
      (λ v. then_do-alike P P (a (first.move (number v) s1) done) (b (second.move (number v) s2) done) _ _
      (p (first.move (number v) s1) (second.move (number v) s2) done (is.moves (number v) s1 s2 r))
      (λ u1 u2 done q. (second.move (second.here s2) u2, subst (λ k. P (first.move (first.here s1) u1) (second.move k u2)) (is.heres s1 s2 r) (is.moves (first.here s1) u1 u2 q), refl)))
