-- The laws of repetition up to a value that lets no other follow.
-- The reader's number of turns is no less than the number of tokens, so it never ends the repetition.
use Rattle.std.proofs.Common.{◌≡◌, inl, inr, ℕ, zero, suc, ◌≤◌, Bool, true, false, cond, List, [], ◌∷◌, ◌++◌, length, Ok, Err, refl, sym, ap, subst, ◌∙◌, append_assoc, arith, length-append}
use Rattle.std.proofs.lemmas.List.{append-nil}
use Rattle.dpl_syntax.specs.declared.token.Token.{Token}
use Rattle.dpl_grammar.specs.Classes.{Class, in_class, Lacks, apart, within}
use Rattle.dpl_grammar.specs.Language.{Language, SpellsEach, run, SpellsRun, LetsMore, EachLetsMore}
use Rattle.dpl_grammar.specs.Reader.{Read, Reader, rest_of, on_read, next_in, run_turns_at, run_at}
use Rattle.dpl_grammar.specs.Laws.{Tells, Settles, Reads}
use Rattle.dpl_grammar.proofs.Classes.{next_within, next_apart, lacks_append}
use Rattle.dpl_grammar.proofs.Lists.{cuts}
use Rattle.dpl_grammar.proofs.Basic.{tells_shorter, bind_same, bind_shorter}

-- what follows an item
abbrev pub run_more : {T : Type 0} → Class → (T → Bool) → (Reader T) → ℕ → T × List Token → Bool → Read (List T)
run_more F more p n x b = cond b (on_read (run_turns_at F more p n x.1) (λ xs. Ok (x.0 ∷ xs.0, xs.1))) (Ok (x.0 ∷ [], x.1))

at_same : {T : Type 0} (ts : List Token) (b : Bool) (r s : Read (List T)) → Settles r s → Settles (cond b r (Ok ([], ts))) (cond b s (Ok ([], ts)))
at_same ts true r s h = h
at_same ts false r s h = inl refl

run_same : {T : Type 0} (F : Class) (more : T → Bool) (p p' : Reader T) → ((ts : List Token) → Settles (p ts) (p' ts)) → (n : ℕ) (ts : List Token) → Settles (run_turns_at F more p n ts) (run_turns_at F more p' n ts)
unfolding run_turns_at
run_same F more p p' same zero ts = inl refl
run_same {T = T} F more p p' same (suc n) ts = at_same ts (next_in F ts) _ _
    (bind_same (p ts) (p' ts) (λ x. run_more F more p n x (more x.0)) (λ x. run_more F more p' n x (more x.0)) (same ts)
    (λ x. at x (more x.0) (bind_same (run_turns_at F more p n x.1) (run_turns_at F more p' n x.1) (λ xs. Ok (x.0 ∷ xs.0, xs.1)) (λ xs. Ok (x.0 ∷ xs.0, xs.1)) (run_same F more p p' same n x.1) (λ xs. inl refl))))
  where
    at : (x : T × List Token) (b : Bool) → Settles (run_more F more p n x true) (run_more F more p' n x true) → Settles (run_more F more p n x b) (run_more F more p' n x b)
    at x true h = h
    at x false h = inl refl

module _ {T : Type 0} (X : Class) (more : T → Bool) (A A' : Language T) (p p' : Reader T) (F : Class) (C : T → Class) (one : Reads X A A' p p' false F C)
    (E : Class)
    (not_more : (x : T) → more x ≡ true → apart F (C x) ≡ true)
    (ends : (x : T) → within (C x) E ≡ true)
    (not_again : within F E ≡ true) where
  goes_on : (x : T) (xs : List T) → more x ≡ true → LetsMore more x xs
  goes_on x [] h = tt
  goes_on x (y ∷ ys) h = h

  run_after : (ts u : List Token) (x : T) (mid : List Token) → ts ≡ u ++ mid → A.Spells u x → more x ≡ true → (r : Read (List T)) → Tells (run more A) (run more A') mid r → Tells (run more A) (run more A') ts (on_read r (λ xs. Ok (x ∷ xs.0, xs.1)))
  unfolding run
  run_after ts u x mid e s m (Ok y) h = (u ++ h.0, e ∙ ap (λ (l : List Token). u ++ l) h.1 ∙ sym (append_assoc u h.0 y.1), (u, h.0, refl, s, goes_on x y.0 m, h.2))
  run_after ts u x mid e s m (Err y) h = (
    u ++ h.0,
    e ∙ ap (λ (l : List Token). u ++ l) h.1 ∙ sym (append_assoc u h.0 y.1),
    front_after A h.0 s h.2,
    λ deep. let d = h.3 deep in (d.0, d.1, d.2, subst (λ (l : List Token). (run more A').Front l) (sym (append_assoc u h.0 (d.0 ∷ []))) (front_after A' (h.0 ++ d.0 ∷ []) (one.wider u x s) d.3)),
  )
    where
      front_after : (L : Language T) (v : List Token) → L.Spells u x → (run more L).Front v → (run more L).Front (u ++ v)
      front_after L v s (inl g) = inl (x ∷ g.0, (u, v, refl, s, goes_on x g.0 m, g.1))
      front_after L v s (inr (xs, a, b, is, each, all, f)) = inr (x ∷ xs, u ++ a, b, ap (λ (l : List Token). u ++ l) is ∙ sym (append_assoc u a b), (u, a, refl, s, each), (m, all), f)

  run_last : (ts : List Token) (x : T × List Token) → Tells A A' ts (Ok x) → (r : Bool → Read (List T)) → r false ≡ Ok (x.0 ∷ [], x.1) → (more x.0 ≡ true → Tells (run more A) (run more A') ts (r true)) → (b : Bool) → more x.0 ≡ b → Tells (run more A) (run more A') ts (r b)
  unfolding run
  run_last ts x h r e g true m = g m
  run_last ts x h r e g false m = rw e (h.0, h.1, (h.0, [], sym (append-nil h.0), h.2, tt, refl))

  run_bind_tells : (n : ℕ) (ts : List Token) (r : Read T) → Tells A A' ts r → ((l : List Token) → Tells (run more A) (run more A') l (run_turns_at F more p n l)) → Tells (run more A) (run more A') ts (on_read r (λ x. run_more F more p n x (more x.0)))
  unfolding run
  run_bind_tells n ts (Ok x) h g = run_last ts x h (run_more F more p n x) refl (λ m. run_after ts h.0 x.0 x.1 h.1 h.2 m (run_turns_at F more p n x.1) (g x.1)) (more x.0) refl
  run_bind_tells n ts (Err e) h g = (h.0, h.1, inr ([], [], h.0, refl, refl, tt, h.2), λ deep. let d = h.3 deep in (d.0, d.1, d.2, inr ([], [], h.0 ++ d.0 ∷ [], refl, refl, tt, d.3)))

  run_tells : (n : ℕ) (ts : List Token) → Tells (run more A) (run more A') ts (run_turns_at F more p n ts)
  unfolding run_turns_at run
  run_tells zero ts = ([], refl, refl)
  run_tells (suc n) ts = at (next_in F ts) _ (run_bind_tells n ts (p ts) (one.tells ts) (run_tells n))
    where
      at : (b : Bool) (r : Read (List T)) → Tells (run more A) (run more A') ts r → Tells (run more A) (run more A') ts (cond b r (Ok ([], ts)))
      at true r h = h
      at false r h = ([], refl, refl)

  run_shorter : (n : ℕ) (ts : List Token) → length (rest_of (run_turns_at F more p n ts)) ≤ length ts
  run_shorter n ts = tells_shorter (run more A) (run more A') ts (run_turns_at F more p n ts) (run_tells n ts)

  then_shorter : (n : ℕ) (x : T × List Token) (b : Bool) → length (rest_of (run_more F more p n x b)) ≤ length x.1
  then_shorter n x true = bind_shorter (run_turns_at F more p n x.1) (λ xs. Ok (x.0 ∷ xs.0, xs.1)) (length x.1) (λ xs. omega arith) (run_shorter n x.1)
  then_shorter n x false = omega arith

  run_ended : (x : T) (b : List Token) (xs : List T) (rest : List Token) → LetsMore more x xs → SpellsRun A more b xs → next_in E rest ≡ false → next_in (C x) (b ++ rest) ≡ false
  run_ended x [] xs rest m h e = next_within (C x) E rest (ends x) e
  run_ended x (k ∷ b) [] rest m h e = absurd cc
  run_ended x (k ∷ b) (y ∷ ys) rest m ([], d, is, s, g, each) e = absurd (one.solid refl y s)
  run_ended x (k ∷ b) (y ∷ ys) rest m (j ∷ c, d, is, s, g, each) e =
      let same : k ≡ j = cc in
      next_apart F (C x) k (not_more x m) (one.first k c (rw same (one.whole (j ∷ c) y s)))

  -- with a next token of an item, and enough turns, reading goes on as one item and what follows
  run_turn : (n : ℕ) (k : Token) (ts : List Token) → in_class F k ≡ true → run_turns_at F more p (suc n) (k ∷ ts) ≡ on_read (p (k ∷ ts)) (λ x. run_more F more p n x (more x.0))
  unfolding run_turns_at
  run_turn n k ts is = rw is refl

  -- the last one, whether or not another one might come
  last_read : (n : ℕ) (x : T) (rest : List Token) (b : Bool) → run_turns_at F more p n rest ≡ Ok ([], rest) → run_more F more p n (x, rest) b ≡ Ok (x ∷ [], rest)
  last_read n x rest true e = rw e refl
  last_read n x rest false e = refl

  none_read : (n : ℕ) (rest : List Token) → next_in F rest ≡ false → run_turns_at F more p n rest ≡ Ok ([], rest)
  unfolding run_turns_at
  none_read zero rest e = refl
  none_read (suc n) rest e = rw e refl

  run_again : (xs : List T) (u rest : List Token) (n : ℕ) → length (u ++ rest) ≤ n → SpellsRun A more u xs → next_in E rest ≡ false → run_turns_at F more p n (u ++ rest) ≡ Ok (xs, rest)
  run_again [] u rest n le h e = rw h (none_read n rest (next_within F E rest not_again e))
  run_again (x ∷ xs) u rest n le ([], b, is, s, g, each) e = absurd (one.solid refl x s)
  run_again (x ∷ xs) u rest zero le (k ∷ a, b, is, s, g, each) e = absurd (omega (arith, ap length is, length-append u rest))
  run_again (x ∷ []) u rest (suc n) le (k ∷ a, b, is, s, g, each) e =
      let begins = one.first k a (one.whole (k ∷ a) x s) in
      let whole : u ++ rest ≡ (k ∷ a) ++ rest = ap (λ (l : List Token). l ++ rest) (is ∙ ap (λ (l : List Token). (k ∷ a) ++ l) each ∙ append-nil (k ∷ a)) in
      let first = one.again (k ∷ a) x rest s (next_within (C x) E rest (ends x) e) in
      whole_is whole ∙ run_turn n k (a ++ rest) begins ∙ ap (λ (r : Read T). on_read r (λ x. run_more F more p n x (more x.0))) first ∙ last_read n x rest (more x) (none_read n rest (next_within F E rest not_again e))
    where
      whole_is : u ++ rest ≡ (k ∷ a) ++ rest → run_turns_at F more p (suc n) (u ++ rest) ≡ run_turns_at F more p (suc n) ((k ∷ a) ++ rest)
      whole_is w = ap (run_turns_at F more p (suc n)) w
  run_again (x ∷ (y ∷ ys)) u rest (suc n) le (k ∷ a, b, is, s, g, each) e =
      let begins = one.first k a (one.whole (k ∷ a) x s) in
      let whole : u ++ rest ≡ (k ∷ a) ++ (b ++ rest) = ap (λ (l : List Token). l ++ rest) is ∙ append_assoc (k ∷ a) b rest in
      let first = one.again (k ∷ a) x (b ++ rest) s (run_ended x b (y ∷ ys) rest g each e) in
      let fewer : length (b ++ rest) ≤ n = omega (arith, ap length whole, length-append a (b ++ rest)) in
      let others = run_again (y ∷ ys) b rest n fewer each e in
      ap (run_turns_at F more p (suc n)) whole ∙ run_turn n k (a ++ (b ++ rest)) begins ∙ ap (λ (r : Read T). on_read r (λ x. run_more F more p n x (more x.0))) first ∙ rw (g, others) refl

  -- items spelled are a front: all but the last, and the last as a front
  run_front : (xs : List T) (u : List Token) → SpellsRun A more u xs → (ys : List T) × (a b : List Token) × (u ≡ a ++ b) × SpellsEach A a ys × EachLetsMore more ys × A.Front b
  run_front [] u h = ([], [], [], h, refl, tt, one.empty)
  run_front (x ∷ []) u (a, b, is, s, g, each) = ([], [], a, is ∙ ap (λ (l : List Token). a ++ l) each ∙ append-nil a, refl, tt, one.whole a x s)
  run_front (x ∷ (y ∷ ys)) u (a, b, is, s, g, each) =
      let (zs, c, d, e, all, m, f) = run_front (y ∷ ys) b each in
      (x ∷ zs, a ++ c, d, is ∙ ap (λ (l : List Token). a ++ l) e ∙ sym (append_assoc a c d), (a, c, refl, s, all), (g, m), f)

  each_first : (xs : List T) (k : Token) (u a b : List Token) → k ∷ u ≡ a ++ b → SpellsEach A a xs → A.Front b → in_class F k ≡ true
  each_first [] k u a b is each f = one.first k u (rw (is, each) f)
  each_first (x ∷ xs) k u a b is ([], d, e, s, each) f = absurd (one.solid refl x s)
  each_first (x ∷ xs) k u a b is (j ∷ c, d, e, s, each) f =
      let whole : k ∷ u ≡ (j ∷ c) ++ d ++ b = is ∙ ap (λ (l : List Token). l ++ b) e in
      let same : k ≡ j = cc in
      one.first k c (rw same (one.whole (j ∷ c) x s))

  run_first : (k : Token) (u : List Token) → (run more A).Front (k ∷ u) → in_class F k ≡ true
  unfolding run
  run_first k u (inl (xs, h)) = let (ys, a, b, e, all, m, f) = run_front xs (k ∷ u) h in each_first ys k u a b e all f
  run_first k u (inr (xs, a, b, e, all, m, f)) = each_first xs k u a b e all f

  reaches_one : (n : ℕ) (b w : List Token) → length (b ++ w) ≤ n → A.Front b → length (rest_of (run_turns_at F more p n (b ++ w))) ≤ length w
  reaches_one n [] w le f = run_shorter n w
  reaches_one zero (k ∷ b) w le f = absurd (omega arith)
  reaches_one (suc n) (k ∷ b) w le f =
      rw (run_turn n k (b ++ w) (one.first k b f)) (bind_shorter (p ((k ∷ b) ++ w)) (λ x. run_more F more p n x (more x.0)) (length w) (λ x. then_shorter n x (more x.0)) (one.reaches (k ∷ b) w f))

  after_front : (x : T) (xs : List T) (k : Token) (c d b w : List Token) (n : ℕ) (l : List Token) → d ++ b ≡ l → A.Spells (k ∷ c) x → more x ≡ true → SpellsEach A d xs → A.Front b
      → length (rest_of (run_turns_at F more p n ((d ++ b) ++ w))) ≤ length w
      → length (rest_of (on_read (p ((k ∷ c) ++ ((d ++ b) ++ w))) (λ x. run_more F more p n x (more x.0)))) ≤ length w
  after_front x xs k c d b w n [] e s m each f ih =
      let one_more = bind_shorter (p ((k ∷ c) ++ w)) (λ x. run_more F more p n x (more x.0)) (length w) (λ x. then_shorter n x (more x.0)) (one.reaches (k ∷ c) w (one.whole (k ∷ c) x s)) in
      rw e one_more
  after_front x xs k c d b w n (j ∷ l) e s m each f ih =
      let is = each_first xs j l d b (sym e) each f in
      let ended : next_in (C x) ((d ++ b) ++ w) ≡ false = rw e (next_apart F (C x) j (not_more x m) is) in
      let first = one.again (k ∷ c) x ((d ++ b) ++ w) s ended in
      rw (first, m) (bind_shorter (run_turns_at F more p n ((d ++ b) ++ w)) (λ xs. Ok (x ∷ xs.0, xs.1)) (length w) (λ xs. omega arith) ih)

  reaches_each : (xs : List T) (a b w : List Token) (n : ℕ) → length ((a ++ b) ++ w) ≤ n → SpellsEach A a xs → EachLetsMore more xs → A.Front b → length (rest_of (run_turns_at F more p n ((a ++ b) ++ w))) ≤ length w
  reaches_each [] a b w n le h m f = let P : List Token → Type 0 = λ l. length (l ++ w) ≤ n → length (rest_of (run_turns_at F more p n (l ++ w))) ≤ length w in
      subst P (sym (ap (λ (l : List Token). l ++ b) h)) (λ less. reaches_one n b w less f) le
  reaches_each (x ∷ xs) a b w n le ([], d, is, s, each) m f = absurd (one.solid refl x s)
  reaches_each (x ∷ xs) a b w zero le (k ∷ c, d, is, s, each) m f = absurd (omega (arith, ap length is, length-append (a ++ b) w, length-append a b))
  reaches_each (x ∷ xs) a b w (suc n) le (k ∷ c, d, is, s, each) m f =
      let begins = one.first k c (one.whole (k ∷ c) x s) in
      let whole : (a ++ b) ++ w ≡ (k ∷ c) ++ ((d ++ b) ++ w) = ap (λ (l : List Token). (l ++ b) ++ w) is ∙ ap (λ (l : List Token). l ++ w) (append_assoc (k ∷ c) d b) ∙ append_assoc (k ∷ c) (d ++ b) w in
      let fewer : length ((d ++ b) ++ w) ≤ n = omega (arith, ap length whole, length-append c ((d ++ b) ++ w)) in
      let turn = run_turn n k (c ++ ((d ++ b) ++ w)) begins in
      let after = after_front x xs k c d b w n (d ++ b) refl s m.0 each f (reaches_each xs d b w n fewer each m.1 f) in
      rw (whole, turn) after

  wider_run : (u : List Token) (xs : List T) → SpellsRun A more u xs → SpellsRun A' more u xs
  wider_run u [] h = h
  wider_run u (x ∷ xs) h = let (a, b, e, s, g, each) = h in (a, b, e, one.wider a x s, g, wider_run b xs each)

  wider_each : (u : List Token) (xs : List T) → SpellsEach A u xs → SpellsEach A' u xs
  wider_each u [] h = h
  wider_each u (x ∷ xs) h = let (a, b, e, s, each) = h in (a, b, e, one.wider a x s, wider_each b xs each)

  reaches_front : (u w : List Token) → (run more A).Front u → length (rest_of (run_turns_at F more p (length (u ++ w)) (u ++ w))) ≤ length w
  unfolding run
  reaches_front u w (inl (xs, h)) = let (ys, a, b, e, all, m, f) = run_front xs u h in
      let P : List Token → Type 0 = λ l. length (rest_of (run_turns_at F more p (length (l ++ w)) (l ++ w))) ≤ length w in
      subst P (sym e) (reaches_each ys a b w (length ((a ++ b) ++ w)) (omega arith) all m f)
  reaches_front u w (inr (xs, a, b, e, all, m, f)) =
      let P : List Token → Type 0 = λ l. length (rest_of (run_turns_at F more p (length (l ++ w)) (l ++ w))) ≤ length w in
      subst P (sym e) (reaches_each xs a b w (length ((a ++ b) ++ w)) (omega arith) all m f)

  run_before : (xs : List T) (u v a b : List Token) → u ++ v ≡ a ++ b → SpellsEach A a xs → EachLetsMore more xs → A.Front b → (ys : List T) × (c d : List Token) × (u ≡ c ++ d) × SpellsEach A c ys × EachLetsMore more ys × A.Front d
  run_before [] u v a b e each m f = ([], [], u, refl, refl, tt, one.before u v (rw (sym (e ∙ ap (λ (l : List Token). l ++ b) each)) at f))
  run_before (x ∷ xs) u v a b e (c, d, is, s, each) m f =
      elim (cuts u v c (d ++ b) (e ∙ ap (λ (l : List Token). l ++ b) is ∙ append_assoc c d b)) [
        | inl h ↦ ([], [], u, refl, refl, tt, one.before u h.0 (rw h.1 at (one.whole c x s)))
        | inr h ↦
            let (ys, a2, b2, e2, each2, m2, f2) = run_before xs h.0 v d b (sym h.2) each m.1 f in
            (x ∷ ys, c ++ a2, b2, h.1 ∙ ap (λ (l : List Token). c ++ l) e2 ∙ sym (append_assoc c a2 b2), (c, a2, refl, s, each2), (m.0, m2), f2)
      ]

  run_front_before : (u v : List Token) → (run more A).Front (u ++ v) → (run more A).Front u
  unfolding run
  run_front_before u v (inl (xs, h)) = let (ys, a, b, e, all, m, f) = run_front xs (u ++ v) h in inr (run_before ys u v a b e all m f)
  run_front_before u v (inr (xs, a, b, e, all, m, f)) = inr (run_before xs u v a b e all m f)

  each_lacks : (u : List Token) (xs : List T) → SpellsEach A u xs → Lacks X u
  each_lacks u [] h = rw h tt
  each_lacks u (x ∷ xs) (a, b, e, s, each) = rw e (lacks_append X a b (one.lacks a (one.whole a x s)) (each_lacks b xs each))

  run_lacks : (u : List Token) → (run more A).Front u → Lacks X u
  unfolding run
  run_lacks u (inl (xs, h)) = let (ys, a, b, e, all, m, f) = run_front xs u h in rw e (lacks_append X a b (each_lacks a ys all) (one.lacks b f))
  run_lacks u (inr (xs, a, b, e, all, m, f)) = rw e (lacks_append X a b (each_lacks a xs all) (one.lacks b f))

  pub run_reads : Reads X (run more A) (run more A') (run_at F more p) (run_at F more p') true F (λ xs. E)
  unfolding run
  run_reads = record {
    empty = inl ([], refl);
    whole = λ u xs h. inl (xs, h);
    before = run_front_before;
    lacks = run_lacks;
    solid = λ e xs h. absurd cc;
    first = run_first;
    wider = wider_run;
    wider_front = λ u h. elim h [
      | inl g ↦ inl (g.0, wider_run u g.0 g.1)
      | inr g ↦ let (xs, a, b, e, all, m, f) = g in inr (xs, a, b, e, wider_each a xs all, m, one.wider_front b f)
    ];
    tells = λ ts. run_tells (length ts) ts;
    again = λ u xs rest h e. run_again xs u rest (length (u ++ rest)) (omega arith) h e;
    reaches = reaches_front;
    same = λ ts. run_same F more p p' one.same (length ts) ts;
  }
