-- The laws of a choice by a test, of a choice by the next token, and of want of room for one more level.
-- A choice by the next token is one whose test looks at that token alone.
use Rattle.std.proofs.Common.{◌≡◌, ◌⊎◌, inl, inr, ◌≤◌, Bool, true, false, cond, List, [], ◌∷◌, ◌++◌, length, Ok, Err, refl, sym, arith}
use Rattle.dpl_syntax.specs.declared.token.Token.{Token}
use Rattle.dpl_grammar.specs.Numbers.{kind_number}
use Rattle.dpl_grammar.specs.Classes.{Class, in_class, apart, within}
use Rattle.dpl_grammar.specs.Language.{Language, never, either}
use Rattle.dpl_grammar.specs.Reader.{Unexpected, NoRoom, Read, Reader, rest_of, next_in, choose, decide, no_room}
use Rattle.dpl_grammar.specs.Laws.{Tells, Settles, Reads}
use Rattle.dpl_grammar.proofs.Classes.{within_is, next_within, next_apart}

-- The test is true of what spells the one, and false of what spells the other with nothing more of it behind;
-- where it takes the one for a front, that is a front of the other too.
module _ {T : Type 0} (X : Class) (test : List Token → Bool) (A A' : Language T) (p p' : Reader T) (F : Class) (C : T → Class) (one : Reads X A A' p p' false F C)
    (B B' : Language T) (r r' : Reader T) (nB : Bool) (G : Class) (D : T → Class) (two : Reads X B B' r r' nB G D)
    (FF : Class) (E : T → Class)
    (is_one : (u w : List Token) (x : T) → A.Spells u x → test (u ++ w) ≡ true)
    (is_two : (u rest : List Token) (x : T) → B.Spells u x → next_in (E x) rest ≡ false → test (u ++ rest) ≡ false)
    (front_one : (u w : List Token) → A.Front u → (test (u ++ w) ≡ true) ⊎ B.Front u)
    (front_two : (u w : List Token) → B.Front u → (test (u ++ w) ≡ false) ⊎ A.Front u)
    (ends_one : (x : T) → within (C x) (E x) ≡ true)
    (ends_two : (x : T) → within (D x) (E x) ≡ true)
    (begins_one : within F FF ≡ true)
    (begins_two : within G FF ≡ true) where
  decide_tells : (ts : List Token) (b : Bool) → Tells (either A B) (either A' B') ts (cond b (p ts) (r ts))
  unfolding either
  decide_tells ts true = at (p ts) (one.tells ts)
    where
      at : (x : Read T) → Tells A A' ts x → Tells (either A B) (either A' B') ts x
      at (Ok x) h = (h.0, h.1, inl h.2)
      at (Err e) h = (h.0, h.1, inl h.2, λ is. let d = h.3 is in (d.0, d.1, d.2, inl d.3))
  decide_tells ts false = at (r ts) (two.tells ts)
    where
      at : (x : Read T) → Tells B B' ts x → Tells (either A B) (either A' B') ts x
      at (Ok x) h = (h.0, h.1, inr h.2)
      at (Err e) h = (h.0, h.1, inr h.2, λ is. let d = h.3 is in (d.0, d.1, d.2, inr d.3))

  decide_again : (u : List Token) (x : T) (rest : List Token) → (either A B).Spells u x → next_in (E x) rest ≡ false → cond (test (u ++ rest)) (p (u ++ rest)) (r (u ++ rest)) ≡ Ok (x, rest)
  unfolding either
  decide_again u x rest (inl s) e = rw (is_one u rest x s) (one.again u x rest s (next_within (C x) (E x) rest (ends_one x) e))
  decide_again u x rest (inr s) e = rw (is_two u rest x s e) (two.again u x rest s (next_within (D x) (E x) rest (ends_two x) e))

  decide_reaches : (u w : List Token) → (either A B).Front u → length (rest_of (cond (test (u ++ w)) (p (u ++ w)) (r (u ++ w)))) ≤ length w
  unfolding either
  decide_reaches u w (inl h) = at (test (u ++ w)) refl
    where
      at : (b : Bool) → test (u ++ w) ≡ b → length (rest_of (cond b (p (u ++ w)) (r (u ++ w)))) ≤ length w
      at true e = one.reaches u w h
      at false e = elim (front_one u w h) [ inl t ↦ absurd cc | inr f ↦ two.reaches u w f ]
  decide_reaches u w (inr h) = at (test (u ++ w)) refl
    where
      at : (b : Bool) → test (u ++ w) ≡ b → length (rest_of (cond b (p (u ++ w)) (r (u ++ w)))) ≤ length w
      at true e = elim (front_two u w h) [ inl t ↦ absurd cc | inr f ↦ one.reaches u w f ]
      at false e = two.reaches u w h

  decide_same : (ts : List Token) (b : Bool) → Settles (cond b (p ts) (r ts)) (cond b (p' ts) (r' ts))
  decide_same ts true = one.same ts
  decide_same ts false = two.same ts

  pub decide_reads : Reads X (either A B) (either A' B') (decide test p r) (decide test p' r') nB FF E
  unfolding either
  decide_reads = record {
    empty = inl one.empty;
    before = λ u v h. elim h [ inl f ↦ inl (one.before u v f) | inr f ↦ inr (two.before u v f) ];
    lacks = λ u h. elim h [ inl f ↦ one.lacks u f | inr f ↦ two.lacks u f ];
    solid = λ n x h. elim h [ inl s ↦ one.solid refl x s | inr s ↦ two.solid n x s ];
    first = λ k u h. elim h [
      | inl f ↦ within_is F FF (kind_number k.kind) begins_one (one.first k u f)
      | inr f ↦ within_is G FF (kind_number k.kind) begins_two (two.first k u f)
    ];
    whole = λ u x h. elim h [ inl s ↦ inl (one.whole u x s) | inr s ↦ inr (two.whole u x s) ];
    wider = λ u x h. elim h [ inl s ↦ inl (one.wider u x s) | inr s ↦ inr (two.wider u x s) ];
    wider_front = λ u h. elim h [ inl f ↦ inl (one.wider_front u f) | inr f ↦ inr (two.wider_front u f) ];
    tells = λ ts. decide_tells ts (test ts);
    again = decide_again;
    reaches = decide_reaches;
    same = λ ts. decide_same ts (test ts);
  }

-- a choice by the next token
module _ {T : Type 0} (X : Class) (A A' : Language T) (p p' : Reader T) (F : Class) (C : T → Class) (one : Reads X A A' p p' false F C)
    (B B' : Language T) (r r' : Reader T) (nB : Bool) (G : Class) (D : T → Class) (two : Reads X B B' r r' nB G D)
    (FF : Class) (E : T → Class)
    (differ : apart G F ≡ true)
    (ends_one : (x : T) → within (C x) (E x) ≡ true)
    (ends_two : (x : T) → within (D x) (E x) ≡ true)
    (not_other : (x : T) → B.Spells [] x → within F (E x) ≡ true)
    (begins_one : within F FF ≡ true)
    (begins_two : within G FF ≡ true) where
  choose_one : (u w : List Token) (x : T) → A.Spells u x → next_in F (u ++ w) ≡ true
  choose_one [] w x s = absurd (one.solid refl x s)
  choose_one (k ∷ u) w x s = one.first k u (one.whole (k ∷ u) x s)

  choose_two : (u rest : List Token) (x : T) → B.Spells u x → next_in (E x) rest ≡ false → next_in F (u ++ rest) ≡ false
  choose_two [] rest x s e = next_within F (E x) rest (not_other x s) e
  choose_two (k ∷ u) rest x s e = next_apart G F k differ (two.first k u (two.whole (k ∷ u) x s))

  choose_front_one : (u w : List Token) → A.Front u → (next_in F (u ++ w) ≡ true) ⊎ B.Front u
  choose_front_one [] w f = inr two.empty
  choose_front_one (k ∷ u) w f = inl (one.first k u f)

  choose_front_two : (u w : List Token) → B.Front u → (next_in F (u ++ w) ≡ false) ⊎ A.Front u
  choose_front_two [] w f = inr one.empty
  choose_front_two (k ∷ u) w f = inl (next_apart G F k differ (two.first k u f))

  pub choose_reads : Reads X (either A B) (either A' B') (choose F p r) (choose F p' r') nB FF E
  choose_reads = decide_reads X (next_in F) A A' p p' F C one B B' r r' nB G D two FF E choose_one choose_two choose_front_one choose_front_two ends_one ends_two begins_one begins_two

-- no room for what begins with a token of the class, where M has room for it

module _ {T : Type 0} (X F : Class) (M : Language T) (q : Reader T)
    (opens : (k : Token) → in_class F k ≡ true → M.Front (k ∷ []))
    (nothing : M.Front [])
    (refuses : (ts : List Token) → next_in F ts ≡ false → q ts ≡ Err (Unexpected, ts)) where
  no_room_tells : (ts : List Token) → Tells never M ts (no_room F ts)
  unfolding never
  no_room_tells [] = ([], refl, refl, λ e. absurd cc)
  no_room_tells (k ∷ ts) = at (in_class F k) refl
    where
      at : (b : Bool) → in_class F k ≡ b → Tells never M (k ∷ ts) (cond b (Err (NoRoom, k ∷ ts)) (Err (Unexpected, k ∷ ts)))
      at true e = ([], refl, refl, λ is. (k, ts, refl, opens k e))
      at false e = ([], refl, refl, λ is. absurd cc)

  no_room_same : (ts : List Token) (b : Bool) → next_in F ts ≡ b → Settles (cond b (Err (NoRoom, ts)) (Err (Unexpected, ts))) (q ts)
  no_room_same ts true e = inr (ts, refl)
  no_room_same ts false e = inl (sym (refuses ts e))

  no_room_rest : (ts : List Token) (b : Bool) → length (rest_of {T = T} (cond b (Err (NoRoom, ts)) (Err (Unexpected, ts)))) ≤ length ts
  no_room_rest ts true = omega arith
  no_room_rest ts false = omega arith

  pub no_room_reads : (C : T → Class) → Reads X never M (no_room F) q false F C
  unfolding never
  no_room_reads C = record {
    empty = refl;
    before = λ u v h. none u v h;
    lacks = λ u h. rw h tt;
    solid = λ n x h. h;
    first = λ k u h. absurd cc;
    whole = λ u x h. absurd h;
    wider = λ u x h. absurd h;
    wider_front = λ u h. rw h nothing;
    tells = no_room_tells;
    again = λ u x rest h e. absurd h;
    reaches = λ u w h. rw h (no_room_rest w (next_in F w));
    same = λ ts. no_room_same ts (next_in F ts) refl;
  }
    where
      none : (u v : List Token) → u ++ v ≡ [] → u ≡ []
      none [] v e = refl
      none (k ∷ u) v e = absurd cc
