-- The laws of one token, of no token, and of one thing after another.
-- The parts and the whole are of any language and reader that keep the laws.
use Rattle.std.proofs.Common.{◌≡◌, inl, inr, ℕ, suc, ◌≤◌, Bool, true, false, cond, List, [], ◌∷◌, ◌++◌, length, Ok, Err, refl, sym, ap, ◌∙◌, append_assoc, arith}
use Rattle.std.proofs.lemmas.List.{append-nil}
use Rattle.dpl_syntax.specs.declared.token.Token.{Token}
use Rattle.dpl_grammar.specs.Numbers.{kind_number}
use Rattle.dpl_grammar.specs.Classes.{Class, in_class, Lacks, apart, within}
use Rattle.dpl_grammar.specs.Language.{Language, done, token, ◌>>=◌}
use Rattle.dpl_grammar.specs.Reader as reader
use Rattle.dpl_grammar.specs.Reader.{Cause, Unexpected, Read, Reader, rest_of, on_read, done_at, next_in, token_at}
use Rattle.dpl_grammar.specs.Laws.{IsFrontDeeper, Tells, Settles, Reads}
use Rattle.dpl_grammar.proofs.Classes.{within_is, next_within, next_apart, lacks_append}
use Rattle.dpl_grammar.proofs.Lists.{cuts, ends_shorter}

-- one token

token_tells : (F : Class) (ts : List Token) (M : Language Token) → Tells (token F) M ts (token_at F ts)
unfolding token
token_tells F [] M = ([], refl, inl refl, λ e. absurd cc)
token_tells F (k ∷ ts) M = at (in_class F k) refl
  where
    at : (b : Bool) → in_class F k ≡ b → Tells (token F) M (k ∷ ts) (cond b (Ok (k, ts)) (Err (Unexpected, k ∷ ts)))
    at true e = (k ∷ [], refl, (refl, e))
    at false e = ([], refl, inl refl, λ e. absurd cc)

token_again : (F : Class) (u : List Token) (k : Token) (rest : List Token) → (token F).Spells u k → token_at F (u ++ rest) ≡ Ok (k, rest)
unfolding token
token_again F u k rest h = rw (h.0, h.1) refl

token_reaches : (F : Class) (u w : List Token) → (token F).Front u → length (rest_of (token_at F (u ++ w))) ≤ length w
unfolding token
token_reaches F u w (inl e) = rw e (tail w)
  where
    tail : (w : List Token) → length (rest_of (token_at F w)) ≤ length w
    tail [] = omega arith
    tail (k ∷ w) = at (in_class F k)
      where
        at : (b : Bool) → length (rest_of (cond b (Ok (k, w)) (Err (Unexpected, k ∷ w)))) ≤ suc (length w)
        at true = omega arith
        at false = omega arith
token_reaches F u w (inr (k, e, h)) = rw (e, h) (omega arith)

token_before : (F : Class) (u v : List Token) → (token F).Front (u ++ v) → (token F).Front u
unfolding token
token_before F [] v h = inl refl
token_before F (k ∷ u) v (inl e) = absurd cc
token_before F (k ∷ []) v (inr (j, e, h)) = let same : k ≡ j = cc in inr (j, rw same refl, h)
token_before F (k ∷ (i ∷ u)) v (inr (j, e, h)) = absurd cc

token_lacks : (X F : Class) → apart F X ≡ true → (u : List Token) → (token F).Front u → Lacks X u
unfolding token
token_lacks X F a u (inl e) = rw e tt
token_lacks X F a u (inr (k, e, h)) = rw e (next_apart F X k a h, tt)

pub token_reads : (X F : Class) → apart F X ≡ true → Reads X (token F) (token F) (token_at F) (token_at F) false F (λ k. [])
unfolding token
token_reads X F a = record {
  empty = inl refl;
  whole = λ u k h. inr (k, h.0, h.1);
  before = token_before F;
  lacks = token_lacks X F a;
  solid = λ e k h. absurd cc;
  first = λ k u. at k u;
  wider = λ u k h. h;
  wider_front = λ u h. h;
  tells = λ ts. token_tells F ts (token F);
  again = λ u k rest h e. token_again F u k rest h;
  reaches = token_reaches F;
  same = λ ts. inl refl;
}
  where
    at : (k : Token) (u : List Token) → (token F).Front (k ∷ u) → in_class F k ≡ true
    at k u (inl e) = absurd cc
    at k u (inr (j, e, h)) = let same : k ≡ j = cc in rw same h

-- no token

done_before : (u v : List Token) → u ++ v ≡ [] → u ≡ []
done_before [] v e = refl
done_before (k ∷ u) v e = absurd cc

-- whatever may follow
pub done_reads : {T : Type 0} {X : Class} {C : T → Class} (x : T) → Reads X (done x) (done x) (done_at x) (done_at x) true [] C
unfolding done
done_reads {X = X} x = record {
  empty = refl;
  whole = λ u y h. h.0;
  before = done_before;
  lacks = λ u h. rw h tt;
  solid = λ e y h. absurd cc;
  first = λ k u h. absurd cc;
  wider = λ u y h. h;
  wider_front = λ u h. h;
  tells = λ ts. ([], refl, (refl, refl));
  again = λ u y rest h e. rw (h.0, h.1) refl;
  reaches = λ u w h. rw h (omega arith);
  same = λ ts. inl refl;
}

-- one thing after another

pub tells_shorter : {T : Type 0} (L M : Language T) (ts : List Token) (r : Read T) → Tells L M ts r → length (rest_of r) ≤ length ts
tells_shorter L M ts (Ok x) h = ends_shorter ts h.0 x.1 h.1
tells_shorter L M ts (Err e) h = ends_shorter ts h.0 e.1 h.1

bind_deep : {T U : Type 0} (A' : Language T) (B' : T → Language U) (u : List Token) (e : Cause × List Token) → IsFrontDeeper A' u e → IsFrontDeeper (A' >>= B') u e
unfolding ◌>>=◌
bind_deep A' B' u e h is = let d = h is in (d.0, d.1, d.2, inl d.3)

module _ {T U : Type 0} (A A' : Language T) (B B' : T → Language U) (wider : (u : List Token) (x : T) → A.Spells u x → A'.Spells u x) where
  after_tells : (ts u : List Token) (x : T) (mid : List Token) → ts ≡ u ++ mid → A.Spells u x → (r : Read U) → Tells (B x) (B' x) mid r → Tells (A >>= B) (A' >>= B') ts r
  unfolding ◌>>=◌
  after_tells ts u x mid e s (Ok y) h =
      (u ++ h.0, e ∙ ap (λ (l : List Token). u ++ l) h.1 ∙ sym (append_assoc u h.0 y.1), (u, h.0, x, refl, s, h.2))
  after_tells ts u x mid e s (Err y) h = (
    u ++ h.0,
    e ∙ ap (λ (l : List Token). u ++ l) h.1 ∙ sym (append_assoc u h.0 y.1),
    inr (u, h.0, x, refl, s, h.2),
    λ is. let d = h.3 is in (d.0, d.1, d.2, inr (u, h.0 ++ d.0 ∷ [], x, append_assoc u h.0 (d.0 ∷ []), wider u x s, d.3)),
  )

  bind_tells : (ts : List Token) (r : Read T) (f : T × List Token → Read U) → Tells A A' ts r → ((x : T × List Token) → Tells (B x.0) (B' x.0) x.1 (f x)) → Tells (A >>= B) (A' >>= B') ts (on_read r f)
  unfolding ◌>>=◌
  bind_tells ts (Ok x) f h g = after_tells ts h.0 x.0 x.1 h.1 h.2 (f x) (g x)
  bind_tells ts (Err e) f h g = (h.0, h.1, inl h.2, bind_deep A' B' h.0 e h.3)

pub bind_same : {T U : Type 0} (r s : Read T) (f g : T × List Token → Read U) → Settles r s → ((x : T × List Token) → Settles (f x) (g x)) → Settles (on_read r f) (on_read s g)
bind_same r s f g (inr (ts, e)) h = rw e (inr (ts, refl))
bind_same (Ok x) s f g (inl e) h = rw (← e) (h x)
bind_same (Err x) s f g (inl e) h = rw (← e) (inl refl)

pub bind_shorter : {T U : Type 0} (r : Read T) (f : T × List Token → Read U) (n : ℕ) → ((x : T × List Token) → length (rest_of (f x)) ≤ length x.1) → length (rest_of r) ≤ n → length (rest_of (on_read r f)) ≤ n
bind_shorter (Ok x) f n h le = omega (arith, h x)
bind_shorter (Err e) f n h le = le

module _ {T U : Type 0} (X : Class) (A A' : Language T) (p p' : Reader T) (nA : Bool) (F : Class) (C : T → Class) (one : Reads X A A' p p' nA F C)
    (B B' : T → Language U) (r r' : T → Reader U) (nB : Bool) (G : T → Class) (D : T → U → Class) (two : (x : T) → Reads X (B x) (B' x) (r x) (r' x) nB (G x) (D x))
    (FF : Class) (E : U → Class)
    (not_more : (x : T) → apart (G x) (C x) ≡ true)
    (ends : (x : T) (y : U) → within (D x y) (E y) ≡ true)
    (ends_one : (x : T) (y : U) → (B x).Spells [] y → within (C x) (E y) ≡ true)
    (begins : within F FF ≡ true)
    (begins_two : (x : T) → cond nA (within (G x) FF) true ≡ true) where
  -- what comes after the first part isn't more of it
  bind_ended : (x : T) (b : List Token) (w : List Token) (k : Token) → (B x).Front (k ∷ b) → next_in (C x) ((k ∷ b) ++ w) ≡ false
  bind_ended x b w k h = next_apart (G x) (C x) k (not_more x) ((two x).first k b h)

  bind_ended_spelled : (x : T) (y : U) (b rest : List Token) → (B x).Spells b y → next_in (E y) rest ≡ false → next_in (C x) (b ++ rest) ≡ false
  bind_ended_spelled x y [] rest h e = next_within (C x) (E y) rest (ends_one x y h) e
  bind_ended_spelled x y (k ∷ b) rest h e = bind_ended x b rest k ((two x).whole (k ∷ b) y h)

  bind_again : (u : List Token) (y : U) (rest : List Token) → (A >>= B).Spells u y → next_in (E y) rest ≡ false → on_read (p (u ++ rest)) (λ x. r x.0 x.1) ≡ Ok (y, rest)
  unfolding ◌>>=◌
  bind_again u y rest (a, b, x, e, s, t) ended =
      let whole : u ++ rest ≡ a ++ (b ++ rest) = ap (λ (l : List Token). l ++ rest) e ∙ append_assoc a b rest in
      let first = one.again a x (b ++ rest) s (bind_ended_spelled x y b rest t ended) in
      let second = (two x).again b y rest t (next_within (D x y) (E y) rest (ends x y) ended) in
      rw (whole, first) second

  bind_reaches : (u w : List Token) → (A >>= B).Front u → length (rest_of (on_read (p (u ++ w)) (λ x. r x.0 x.1))) ≤ length w
  unfolding ◌>>=◌
  bind_reaches u w (inl h) = bind_shorter (p (u ++ w)) (λ x. r x.0 x.1) (length w) (λ x. tells_shorter (B x.0) (B' x.0) x.1 (r x.0 x.1) ((two x.0).tells x.1)) (one.reaches u w h)
  bind_reaches u w (inr (a, [], x, e, s, t)) =
      let h : A.Front u = rw (e, append-nil a) (one.whole a x s) in
      bind_shorter (p (u ++ w)) (λ x. r x.0 x.1) (length w) (λ x. tells_shorter (B x.0) (B' x.0) x.1 (r x.0 x.1) ((two x.0).tells x.1)) (one.reaches u w h)
  bind_reaches u w (inr (a, k ∷ b, x, e, s, t)) =
      let whole : u ++ w ≡ a ++ ((k ∷ b) ++ w) = ap (λ (l : List Token). l ++ w) e ∙ append_assoc a (k ∷ b) w in
      let first = one.again a x ((k ∷ b) ++ w) s (bind_ended x b w k t) in
      rw (whole, first) ((two x).reaches (k ∷ b) w t)

  bind_solid : cond nA nB false ≡ false → (y : U) → (A >>= B).Spells [] y → ⊥
  unfolding ◌>>=◌
  bind_solid n y ([], [], x, e, s, t) = at nA refl n
    where
      at : (b : Bool) → nA ≡ b → cond b nB false ≡ false → ⊥
      at true is m = (two x).solid m y t
      at false is m = one.solid is x s
  bind_solid n y ([], k ∷ b, x, e, s, t) = absurd cc
  bind_solid n y (k ∷ a, b, x, e, s, t) = absurd cc

  bind_first : (k : Token) (u : List Token) → (A >>= B).Front (k ∷ u) → in_class FF k ≡ true
  unfolding ◌>>=◌
  bind_first k u (inl h) = within_is F FF (kind_number k.kind) begins (one.first k u h)
  bind_first k u (inr ([], b, x, e, s, t)) = at nA refl (begins_two x)
    where
      at : (n : Bool) → nA ≡ n → cond n (within (G x) FF) true ≡ true → in_class FF k ≡ true
      at true is m = within_is (G x) FF (kind_number k.kind) m ((two x).first k u (rw e t))
      at false is m = absurd (one.solid is x s)
  bind_first k u (inr (j ∷ a, b, x, e, s, t)) =
      let same : k ≡ j = cc in
      within_is F FF (kind_number k.kind) begins (one.first k a (rw same (one.whole (j ∷ a) x s)))

  bind_before : (u v : List Token) → (A >>= B).Front (u ++ v) → (A >>= B).Front u
  unfolding ◌>>=◌
  bind_before u v (inl h) = inl (one.before u v h)
  bind_before u v (inr (a, b, x, e, s, t)) = elim (cuts u v a b e) [
    | inl h ↦ inl (one.before u h.0 (rw h.1 at (one.whole a x s)))
    | inr h ↦ inr (a, h.0, x, h.1, s, (two x).before h.0 v (rw h.2 at t))
  ]

  bind_lacks : (u : List Token) → (A >>= B).Front u → Lacks X u
  unfolding ◌>>=◌
  bind_lacks u (inl h) = one.lacks u h
  bind_lacks u (inr (a, b, x, e, s, t)) = rw e (lacks_append X a b (one.lacks a (one.whole a x s)) ((two x).lacks b t))

  pub bind_reads : Reads X (A >>= B) (A' >>= B') (reader.◌>>=◌ p r) (reader.◌>>=◌ p' r') (cond nA nB false) FF E
  unfolding ◌>>=◌
  bind_reads = record {
    empty = inl one.empty;
    whole = λ u y h. let (a, b, x, e, s, t) = h in inr (a, b, x, e, s, (two x).whole b y t);
    before = bind_before;
    lacks = bind_lacks;
    solid = bind_solid;
    first = bind_first;
    wider = λ u y h. let (a, b, x, e, s, t) = h in (a, b, x, e, one.wider a x s, (two x).wider b y t);
    wider_front = λ u h. elim h [
      | inl f ↦ inl (one.wider_front u f)
      | inr f ↦ let (a, b, x, e, s, t) = f in inr (a, b, x, e, one.wider a x s, (two x).wider_front b t)
    ];
    tells = λ ts. bind_tells A A' B B' one.wider ts (p ts) (λ x. r x.0 x.1) (one.tells ts) (λ x. (two x.0).tells x.1);
    again = bind_again;
    reaches = bind_reaches;
    same = λ ts. bind_same (p ts) (p' ts) (λ x. r x.0 x.1) (λ x. r' x.0 x.1) (one.same ts) (λ x. (two x.0).same x.1);
  }
