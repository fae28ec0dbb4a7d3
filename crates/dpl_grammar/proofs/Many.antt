-- The laws of repetition.
-- The reader's number of turns is no less than the number of tokens, so it never ends the repetition.
use Rattle.std.proofs.Common.{◌≡◌, inl, inr, ℕ, zero, suc, ◌≤◌, Bool, true, false, cond, List, [], ◌∷◌, ◌++◌, length, Ok, Err, refl, sym, ap, subst, ◌∙◌, append_assoc, arith, length-append}
use Rattle.std.proofs.lemmas.List.{append-nil}
use Rattle.dpl_syntax.specs.declared.token.Token.{Token}
use Rattle.dpl_grammar.specs.Classes.{Class, in_class, Lacks, apart, within}
use Rattle.dpl_grammar.specs.Language.{Language, many, SpellsEach}
use Rattle.dpl_grammar.specs.Reader.{Read, Reader, rest_of, on_read, next_in, each_at, many_at}
use Rattle.dpl_grammar.specs.Laws.{Tells, Settles, Reads}
use Rattle.dpl_grammar.proofs.Classes.{next_within, next_apart, lacks_append}
use Rattle.dpl_grammar.proofs.Lists.{cuts}
use Rattle.dpl_grammar.proofs.Basic.{tells_shorter, bind_same, bind_shorter}

at_same : {T : Type 0} (ts : List Token) (b : Bool) (r s : Read (List T)) → Settles r s → Settles (cond b r (Ok ([], ts))) (cond b s (Ok ([], ts)))
at_same ts true r s h = h
at_same ts false r s h = inl refl

each_same : {T : Type 0} (F : Class) (p p' : Reader T) → ((ts : List Token) → Settles (p ts) (p' ts)) → (n : ℕ) (ts : List Token) → Settles (each_at F p n ts) (each_at F p' n ts)
unfolding each_at
each_same F p p' same zero ts = inl refl
each_same F p p' same (suc n) ts = at_same ts (next_in F ts) _ _
    (bind_same (p ts) (p' ts) (λ x. on_read (each_at F p n x.1) (λ xs. Ok (x.0 ∷ xs.0, xs.1))) (λ x. on_read (each_at F p' n x.1) (λ xs. Ok (x.0 ∷ xs.0, xs.1))) (same ts)
    (λ x. bind_same (each_at F p n x.1) (each_at F p' n x.1) (λ xs. Ok (x.0 ∷ xs.0, xs.1)) (λ xs. Ok (x.0 ∷ xs.0, xs.1)) (each_same F p p' same n x.1) (λ xs. inl refl)))

module _ {T : Type 0} (X : Class) (A A' : Language T) (p p' : Reader T) (F : Class) (C : T → Class) (one : Reads X A A' p p' false F C)
    (E : Class)
    (not_more : (x : T) → apart F (C x) ≡ true)
    (ends : (x : T) → within (C x) E ≡ true)
    (not_again : within F E ≡ true) where
  each_after : (ts u : List Token) (x : T) (mid : List Token) → ts ≡ u ++ mid → A.Spells u x → (r : Read (List T)) → Tells (many A) (many A') mid r → Tells (many A) (many A') ts (on_read r (λ xs. Ok (x ∷ xs.0, xs.1)))
  unfolding many
  each_after ts u x mid e s (Ok y) h = (u ++ h.0, e ∙ ap (λ (l : List Token). u ++ l) h.1 ∙ sym (append_assoc u h.0 y.1), (u, h.0, refl, s, h.2))
  each_after ts u x mid e s (Err y) h =
      let (xs, a, b, is, each, f) = h.2 in (
        u ++ h.0,
        e ∙ ap (λ (l : List Token). u ++ l) h.1 ∙ sym (append_assoc u h.0 y.1),
        (x ∷ xs, u ++ a, b, ap (λ (l : List Token). u ++ l) is ∙ sym (append_assoc u a b), (u, a, refl, s, each), f),
        λ deep. let d = h.3 deep in let (xs, a, b, is, each, f) = d.3 in
            (d.0, d.1, d.2, (x ∷ xs, u ++ a, b, append_assoc u h.0 (d.0 ∷ []) ∙ ap (λ (l : List Token). u ++ l) is ∙ sym (append_assoc u a b), (u, a, refl, one.wider u x s, each), f)),
      )

  each_bind_tells : (ts : List Token) (r : Read T) (f : T × List Token → Read (List T)) → Tells A A' ts r → ((x : T × List Token) → Tells (many A) (many A') x.1 (f x)) → Tells (many A) (many A') ts (on_read r (λ x. on_read (f x) (λ xs. Ok (x.0 ∷ xs.0, xs.1))))
  unfolding many
  each_bind_tells ts (Ok x) f h g = each_after ts h.0 x.0 x.1 h.1 h.2 (f x) (g x)
  each_bind_tells ts (Err e) f h g = (h.0, h.1, ([], [], h.0, refl, refl, h.2), λ deep. let d = h.3 deep in (d.0, d.1, d.2, ([], [], h.0 ++ d.0 ∷ [], refl, refl, d.3)))

  each_tells : (n : ℕ) (ts : List Token) → Tells (many A) (many A') ts (each_at F p n ts)
  unfolding each_at many
  each_tells zero ts = ([], refl, refl)
  each_tells (suc n) ts = at (next_in F ts) _ (each_bind_tells ts (p ts) (λ x. each_at F p n x.1) (one.tells ts) (λ x. each_tells n x.1))
    where
      at : (b : Bool) (r : Read (List T)) → Tells (many A) (many A') ts r → Tells (many A) (many A') ts (cond b r (Ok ([], ts)))
      at true r h = h
      at false r h = ([], refl, refl)

  each_shorter : (n : ℕ) (ts : List Token) → length (rest_of (each_at F p n ts)) ≤ length ts
  each_shorter n ts = tells_shorter (many A) (many A') ts (each_at F p n ts) (each_tells n ts)

  then_shorter : (n : ℕ) (x : T × List Token) → length (rest_of (on_read (each_at F p n x.1) (λ xs. Ok (x.0 ∷ xs.0, xs.1)))) ≤ length x.1
  then_shorter n x = bind_shorter (each_at F p n x.1) (λ xs. Ok (x.0 ∷ xs.0, xs.1)) (length x.1) (λ xs. omega arith) (each_shorter n x.1)

  -- after an item comes another one, or what ends them
  each_ended : (x : T) (b : List Token) (xs : List T) (rest : List Token) → SpellsEach A b xs → next_in E rest ≡ false → next_in (C x) (b ++ rest) ≡ false
  each_ended x [] xs rest h e = next_within (C x) E rest (ends x) e
  each_ended x (k ∷ b) [] rest h e = absurd cc
  each_ended x (k ∷ b) (y ∷ ys) rest ([], d, is, s, each) e = absurd (one.solid refl y s)
  each_ended x (k ∷ b) (y ∷ ys) rest (j ∷ c, d, is, s, each) e =
      let same : k ≡ j = cc in
      next_apart F (C x) k (not_more x) (one.first k c (rw same (one.whole (j ∷ c) y s)))

  each_again : (xs : List T) (u rest : List Token) (n : ℕ) → length (u ++ rest) ≤ n → SpellsEach A u xs → next_in E rest ≡ false → each_at F p n (u ++ rest) ≡ Ok (xs, rest)
  unfolding each_at
  each_again [] u rest zero le h e = rw h refl
  each_again [] u rest (suc n) le h e = let not = next_within F E rest not_again e in rw (h, not) refl
  each_again (x ∷ xs) u rest n le ([], b, is, s, each) e = absurd (one.solid refl x s)
  each_again (x ∷ xs) u rest zero le (k ∷ a, b, is, s, each) e =
      absurd (omega (arith, ap length is, length-append u rest))
  each_again (x ∷ xs) u rest (suc n) le (k ∷ a, b, is, s, each) e =
      let begins = one.first k a (one.whole (k ∷ a) x s) in
      let whole : u ++ rest ≡ (k ∷ a) ++ (b ++ rest) = ap (λ (l : List Token). l ++ rest) is ∙ append_assoc (k ∷ a) b rest in
      let first = one.again (k ∷ a) x (b ++ rest) s (each_ended x b xs rest each e) in
      let fewer : length (b ++ rest) ≤ n = omega (arith, ap length whole, length-append a (b ++ rest)) in
      let others = each_again xs b rest n fewer each e in
      rw (whole, begins, first, others) refl

  each_front : (xs : List T) (d b l : List Token) → l ≡ d ++ b → SpellsEach A d xs → A.Front b → (many A).Front l
  unfolding many
  each_front xs d b l e each f = (xs, d, b, e, each, f)

  each_first : (k : Token) (u : List Token) → (many A).Front (k ∷ u) → in_class F k ≡ true
  unfolding many
  each_first k u ([], a, b, is, each, f) = one.first k u (rw (is, each) f)
  each_first k u (x ∷ xs, a, b, is, ([], d, e, s, each), f) = absurd (one.solid refl x s)
  each_first k u (x ∷ xs, a, b, is, (j ∷ c, d, e, s, each), f) =
      let whole : k ∷ u ≡ (j ∷ c) ++ d ++ b = is ∙ ap (λ (l : List Token). l ++ b) e in
      let same : k ≡ j = cc in
      one.first k c (rw same (one.whole (j ∷ c) x s))

  -- with a next token of an item, and enough turns, reading goes on as one item and others
  each_turn : (n : ℕ) (k : Token) (ts : List Token) → in_class F k ≡ true → each_at F p (suc n) (k ∷ ts) ≡ on_read (p (k ∷ ts)) (λ x. on_read (each_at F p n x.1) (λ xs. Ok (x.0 ∷ xs.0, xs.1)))
  unfolding each_at
  each_turn n k ts is = rw is refl

  each_reaches_one : (n : ℕ) (b w : List Token) → length (b ++ w) ≤ n → A.Front b → length (rest_of (each_at F p n (b ++ w))) ≤ length w
  each_reaches_one n [] w le f = each_shorter n w
  each_reaches_one zero (k ∷ b) w le f = absurd (omega arith)
  each_reaches_one (suc n) (k ∷ b) w le f =
      rw (each_turn n k (b ++ w) (one.first k b f)) (bind_shorter (p ((k ∷ b) ++ w)) (λ x. on_read (each_at F p n x.1) (λ xs. Ok (x.0 ∷ xs.0, xs.1))) (length w) (then_shorter n) (one.reaches (k ∷ b) w f))

  -- an item, and then a front of more
  each_after_front : (x : T) (xs : List T) (k : Token) (c d b w : List Token) (n : ℕ) (l : List Token) → d ++ b ≡ l → A.Spells (k ∷ c) x → SpellsEach A d xs → A.Front b
      → length (rest_of (each_at F p n ((d ++ b) ++ w))) ≤ length w
      → length (rest_of (on_read (p ((k ∷ c) ++ ((d ++ b) ++ w))) (λ x. on_read (each_at F p n x.1) (λ xs. Ok (x.0 ∷ xs.0, xs.1))))) ≤ length w
  each_after_front x xs k c d b w n [] e s each f ih =
      let one_more = bind_shorter (p ((k ∷ c) ++ w)) (λ x. on_read (each_at F p n x.1) (λ xs. Ok (x.0 ∷ xs.0, xs.1))) (length w) (then_shorter n) (one.reaches (k ∷ c) w (one.whole (k ∷ c) x s)) in
      rw e one_more
  each_after_front x xs k c d b w n (j ∷ l) e s each f ih =
      let is = each_first j l (each_front xs d b (j ∷ l) (sym e) each f) in
      let ended : next_in (C x) ((d ++ b) ++ w) ≡ false = rw e (next_apart F (C x) j (not_more x) is) in
      let first = one.again (k ∷ c) x ((d ++ b) ++ w) s ended in
      rw first (bind_shorter (each_at F p n ((d ++ b) ++ w)) (λ xs. Ok (x ∷ xs.0, xs.1)) (length w) (λ xs. omega arith) ih)

  wider_each : (u : List Token) (xs : List T) → SpellsEach A u xs → SpellsEach A' u xs
  wider_each u [] h = h
  wider_each u (x ∷ xs) h = let (a, b, e, s, each) = h in (a, b, e, one.wider a x s, wider_each b xs each)

  each_reaches : (xs : List T) (a b w : List Token) (n : ℕ) → length ((a ++ b) ++ w) ≤ n → SpellsEach A a xs → A.Front b → length (rest_of (each_at F p n ((a ++ b) ++ w))) ≤ length w
  each_reaches [] a b w n le h f = let P : List Token → Type 0 = λ l. length (l ++ w) ≤ n → length (rest_of (each_at F p n (l ++ w))) ≤ length w in
      subst P (sym (ap (λ (l : List Token). l ++ b) h)) (λ less. each_reaches_one n b w less f) le
  each_reaches (x ∷ xs) a b w n le ([], d, is, s, each) f = absurd (one.solid refl x s)
  each_reaches (x ∷ xs) a b w zero le (k ∷ c, d, is, s, each) f = absurd (omega (arith, ap length is, length-append (a ++ b) w, length-append a b))
  each_reaches (x ∷ xs) a b w (suc n) le (k ∷ c, d, is, s, each) f =
      let begins = one.first k c (one.whole (k ∷ c) x s) in
      let whole : (a ++ b) ++ w ≡ (k ∷ c) ++ ((d ++ b) ++ w) = ap (λ (l : List Token). (l ++ b) ++ w) is ∙ ap (λ (l : List Token). l ++ w) (append_assoc (k ∷ c) d b) ∙ append_assoc (k ∷ c) (d ++ b) w in
      let fewer : length ((d ++ b) ++ w) ≤ n = omega (arith, ap length whole, length-append c ((d ++ b) ++ w)) in
      let turn = each_turn n k (c ++ ((d ++ b) ++ w)) begins in
      let after = each_after_front x xs k c d b w n (d ++ b) refl s each f (each_reaches xs d b w n fewer each f) in
      rw (whole, turn) after

  many_before : (xs : List T) (u v a b : List Token) → u ++ v ≡ a ++ b → SpellsEach A a xs → A.Front b → (many A).Front u
  unfolding many
  many_before [] u v a b e each f = ([], [], u, refl, refl, one.before u v (rw (sym (e ∙ ap (λ (l : List Token). l ++ b) each)) at f))
  many_before (x ∷ xs) u v a b e (c, d, is, s, each) f =
      elim (cuts u v c (d ++ b) (e ∙ ap (λ (l : List Token). l ++ b) is ∙ append_assoc c d b)) [
        | inl h ↦ ([], [], u, refl, refl, one.before u h.0 (rw h.1 at (one.whole c x s)))
        | inr h ↦
            let (ys, a2, b2, e2, each2, f2) = many_before xs h.0 v d b (sym h.2) each f in
            (x ∷ ys, c ++ a2, b2, h.1 ∙ ap (λ (l : List Token). c ++ l) e2 ∙ sym (append_assoc c a2 b2), (c, a2, refl, s, each2), f2)
      ]

  each_lacks : (u : List Token) (xs : List T) → SpellsEach A u xs → Lacks X u
  each_lacks u [] h = rw h tt
  each_lacks u (x ∷ xs) (a, b, e, s, each) = rw e (lacks_append X a b (one.lacks a (one.whole a x s)) (each_lacks b xs each))

  pub many_reads : Reads X (many A) (many A') (many_at F p) (many_at F p') true F (λ xs. E)
  unfolding many
  many_reads = record {
    empty = ([], [], [], refl, refl, one.empty);
    whole = λ u xs h. (xs, u, [], sym (append-nil u), h, one.empty);
    before = λ u v h. let (xs, a, b, e, each, f) = h in many_before xs u v a b e each f;
    lacks = λ u h. let (xs, a, b, e, each, f) = h in rw e (lacks_append X a b (each_lacks a xs each) (one.lacks b f));
    solid = λ e xs h. absurd cc;
    first = each_first;
    wider = wider_each;
    wider_front = λ u h. let (xs, a, b, e, each, f) = h in (xs, a, b, e, wider_each a xs each, one.wider_front b f);
    tells = λ ts. each_tells (length ts) ts;
    again = λ u xs rest h e. each_again xs u rest (length (u ++ rest)) (omega arith) h e;
    reaches = λ u w h. let (xs, a, b, e, each, f) = h in
        let P : List Token → Type 0 = λ l. length (rest_of (many_at F p (l ++ w))) ≤ length w in
        subst P (sym e) (each_reaches xs a b w (length ((a ++ b) ++ w)) (omega arith) each f);
    same = λ ts. each_same F p p' one.same (length ts) ts;
  }
