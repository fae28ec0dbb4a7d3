-- Reduce variables in two memories that go along: what is put to one is put to both.
use Rattle.std.proofs.Common.{eqb-true, ◌≢◌, ◌≡◌, ℕ, ◌<◌, ℤ, pos, Bool, true, false, List, [], ◌∷◌, Some, length, get_or, set, w64, refl, sym, ap, ◌∙◌, subst, arith}
use Rattle.std.specs.Prelude.{if◌then◌else◌, ◌==◌, ◌&&◌, ◌||◌, ◌+ℤ◌, ◌*ℤ◌}
use Rattle.std.specs.Int.{int_wrap}
use Rattle.std.specs.List.{AllByRecursion}
use Rattle.std.proofs.lemmas.Bool.Decides.{nat_tests}
use Rattle.std.proofs.lemmas.Int.{int_wrap-add_left, int_wrap-add_right, int_wrap-mul_left, int_wrap-mul_right}
use Rattle.std.proofs.lemmas.List.{get_or-set_same, get_or-set_other}
use Rattle.std.proofs.Math.IntN.{+ℤ_assoc}
use Rattle.dpl_language.specs.Tree.{Op, Sum, Product, AllOf, AnyOf, Least, Greatest, Assign, SetAdd, SetMultiply, SetReduce}
use Rattle.dpl_language.specs.Values.{Value, Int, Truth, number, truth, kept_number}
use Rattle.dpl_language.specs.Arithmetic.{combined, assigned}
use Rattle.dpl_words.specs.Words.{IntLeaf, TruthLeaf, is_true, combines, intent_at}
use Rattle.dpl_memory.specs.Memory.{is_among}
use Rattle.dpl_apart.specs.Operands.{value_of_word, combined_words, IsExact, all_combined, AreExact}
use Rattle.dpl_apart.specs.Rows.{AreOnce}
use Rattle.dpl_apart.specs.Memories.{operators_of}
use Rattle.dpl_apart.proofs.Bits.{product-assoc, least-assoc, greatest-assoc}
use Rattle.dpl_apart.proofs.Operators.{combined-operand}
use Rattle.dpl_apart.proofs.ReduceWords.{combined-kept, exact-operand, operand-exact}
use Rattle.dpl_turns.specs.Alongside.{slots_of, words_at}
use Rattle.dpl_turns.specs.Bodies.{is_free, is_sum, is_product, adds_by}

-- ---- any value, put to two operands
and-assoc : (a b c : Bool) → ((a && b) && c) ≡ (a && (b && c))
and-assoc true b c = refl
and-assoc false b c = refl

or-assoc : (a b c : Bool) → ((a || b) || c) ≡ (a || (b || c))
or-assoc true b c = refl
or-assoc false b c = refl

free-assoc : (p : Op) (u v w : Value) → is_free p ≡ true → combined p (combined p u v) w ≡ combined p u (combined p v w)
free-assoc Sum u v w e =
    ap (λ n. Int n) (int_wrap-add_left w64 (number u +ℤ number v) (number w) ∙ ap (int_wrap w64) (+ℤ_assoc (number u) (number v) (number w)) ∙ sym (int_wrap-add_right w64 (number u) (number v +ℤ number w)))
free-assoc Product u v w e =
    ap (λ n. Int n) (int_wrap-mul_left w64 (number u *ℤ number v) (number w) ∙ ap (int_wrap w64) (product-assoc (number u) (number v) (number w)) ∙ sym (int_wrap-mul_right w64 (number u) (number v *ℤ number w)))
free-assoc AllOf u v w e = ap (λ b. Truth b) (and-assoc (truth u) (truth v) (truth w))
free-assoc AnyOf u v w e = ap (λ b. Truth b) (or-assoc (truth u) (truth v) (truth w))
free-assoc Least u v w e = ap (λ n. Int n) (least-assoc (number u) (number v) (number w))
free-assoc Greatest u v w e = ap (λ n. Int n) (greatest-assoc (number u) (number v) (number w))
free-assoc _ u v w e = absurd cc

-- the word after a value is put to it
abbrev pub word_after : Op → ℤ → Value → ℤ
word_after p w v = kept_number (combined p (value_of_word p w) v)

after-combined : (p : Op) (a w : ℤ) (v : Value) → is_free p ≡ true → word_after p (combined_words p a w) v ≡ combined_words p a (word_after p w v)
after-combined p a w v e =
    ap (λ u. kept_number (combined p u v)) (combined-kept p (value_of_word p a) (value_of_word p w))
    ∙ ap kept_number (free-assoc p (value_of_word p a) (value_of_word p w) v e)
    ∙ sym (ap (λ u. kept_number (combined p (value_of_word p a) u)) (combined-kept p (value_of_word p w) v))

after-exact : (p : Op) (w : ℤ) (v : Value) → IsExact p w → IsExact p (word_after p w v)
after-exact p w v h = operand-exact p (combined p (value_of_word p w) v) (combined-operand p (value_of_word p w) v (exact-operand p w h))

-- ---- assignments that put their value to a word
int-reduced : (p : Op) (w : ℤ) (v : Value) → (combines IntLeaf p && is_free p) ≡ true → (number (combined p (Int w) v) ≡ word_after p w v) × (is_free p ≡ true)
int-reduced Sum w v e = (refl, refl)
int-reduced Product w v e = (refl, refl)
int-reduced Least w v e = (refl, refl)
int-reduced Greatest w v e = (refl, refl)
int-reduced _ w v e = absurd cc

int-summed : (p : Op) (w : ℤ) (v : Value) → (combines IntLeaf p && is_sum p) ≡ true → (number (assigned SetAdd (Some p) (Int w) v) ≡ word_after p w v) × (is_free p ≡ true)
int-summed Sum w v e = (refl, refl)
int-summed _ w v e = absurd cc

int-multiplied : (p : Op) (w : ℤ) (v : Value) → (combines IntLeaf p && is_product p) ≡ true → (number (assigned SetMultiply (Some p) (Int w) v) ≡ word_after p w v) × (is_free p ≡ true)
int-multiplied Product w v e = (refl, refl)
int-multiplied _ w v e = absurd cc

and-second : (a b : Bool) → (a && b) ≡ true → b ≡ true
and-second true b e = e
and-second false b e = absurd cc

pub int-added : (op : Assign) (p : Op) (w : ℤ) (v : Value) → adds_by IntLeaf op (Some p) ≡ true → (number (assigned op (Some p) (Int w) v) ≡ word_after p w v) × (is_free p ≡ true)
int-added SetAdd p w v e = int-summed p w v e
int-added SetMultiply p w v e = int-multiplied p w v e
int-added SetReduce p w v e = int-reduced p w v e
int-added _ p w v e = absurd (let no : false ≡ true = and-second (combines IntLeaf p) false e in cc)

truth-reduced : (p : Op) (w : ℤ) (v : Value) → (combines TruthLeaf p && is_free p) ≡ true → (kept_number (combined p (is_true w) v) ≡ word_after p w v) × (is_free p ≡ true)
truth-reduced AllOf w v e = (refl, refl)
truth-reduced AnyOf w v e = (refl, refl)
truth-reduced _ w v e = absurd cc

no-sum : (p : Op) → (combines TruthLeaf p && is_sum p) ≡ true → ⊥
no-sum Sum e = cc
no-sum _ e = cc

no-product : (p : Op) → (combines TruthLeaf p && is_product p) ≡ true → ⊥
no-product Product e = cc
no-product _ e = cc

pub truth-added : (op : Assign) (p : Op) (w : ℤ) (v : Value) → adds_by TruthLeaf op (Some p) ≡ true → (kept_number (assigned op (Some p) (is_true w) v) ≡ word_after p w v) × (is_free p ≡ true)
truth-added SetAdd p w v e = absurd (no-sum p e)
truth-added SetMultiply p w v e = absurd (no-product p e)
truth-added SetReduce p w v e = truth-reduced p w v e
truth-added _ p w v e = absurd (let no : false ≡ true = and-second (combines TruthLeaf p) false e in cc)

-- ---- among several
pub words-unset : (ps : List (ℕ × Op)) (ns : List ℤ) (slot : ℕ) (y : ℤ) → is_among slot (slots_of ps) ≡ false → words_at ps (set ns slot y) ≡ words_at ps ns
words-unset [] ns slot y h = refl
words-unset (p ∷ ps) ns slot y h = by (slot == p.0) refl h (words-unset ps ns slot y) where
  by : (c : Bool) → (slot == p.0) ≡ c → (c || is_among slot (slots_of ps)) ≡ false → (is_among slot (slots_of ps) ≡ false → words_at ps (set ns slot y) ≡ words_at ps ns)
      → words_at (p ∷ ps) (set ns slot y) ≡ words_at (p ∷ ps) ns
  by true e h rest = absurd cc
  by false e h rest =
      let other : p.0 ≢ slot = grind (arith, nat_tests) in
      let here = get_or-set_other ns slot p.0 y (pos 0) other in
      let behind = rest h in
      λ i. here i ∷ behind i

-- what is put to both words leaves them so
abbrev pub AreAdded : List (ℕ × Op) → List ℤ → List ℤ → List ℤ → Type 0
AreAdded ps words ns ms = (words_at ps ms ≡ all_combined (operators_of ps) words (words_at ps ns)) × AreExact (operators_of ps) (words_at ps ns)

head-of : (v w : ℤ) (vs ws : List ℤ) → v ∷ vs ≡ w ∷ ws → v ≡ w
head-of v w vs ws e = cc

tail-of : (v w : ℤ) (vs ws : List ℤ) → v ∷ vs ≡ w ∷ ws → vs ≡ ws
tail-of v w vs ws e = cc

pub added-both : (ps : List (ℕ × Op)) (words ns ms : List ℤ) (slot : ℕ) (p : Op) (v : Value) → AreOnce (slots_of ps) → slot < length ns → slot < length ms → is_free p ≡ true → intent_at slot ps ≡ Some p
    → AreExact (operators_of ps) words → AreAdded ps words ns ms
    → AreAdded ps words (set ns slot (word_after p (get_or ns slot (pos 0)) v)) (set ms slot (word_after p (get_or ms slot (pos 0)) v))
added-both [] words ns ms slot p v once first second free at exact are = absurd cc
added-both (q ∷ qs) [] ns ms slot p v once first second free at exact are = absurd exact
added-both (q ∷ qs) (w ∷ ws) ns ms slot p v once first second free at exact are =
    by (slot == q.0) refl at (λ more. added-both qs ws ns ms slot p v once.1 first second free more exact.1 (tail-of _ _ _ _ are.0, are.1.1))
  where
    y1 : ℤ
    y1 = word_after p (get_or ns slot (pos 0)) v

    y2 : ℤ
    y2 = word_after p (get_or ms slot (pos 0)) v

    by : (c : Bool) → (slot == q.0) ≡ c → (if c then Some q.1 else intent_at slot qs) ≡ Some p → (intent_at slot qs ≡ Some p → AreAdded qs ws (set ns slot y1) (set ms slot y2))
        → AreAdded (q ∷ qs) (w ∷ ws) (set ns slot y1) (set ms slot y2)
    by true e at rest =
        let here : slot ≡ q.0 = eqb-true slot q.0 e in
        let op : q.1 ≡ p = cc in
        let none : is_among slot (slots_of qs) ≡ false = ap (λ i. is_among i (slots_of qs)) here ∙ once.0 in
        let head : get_or ms slot (pos 0) ≡ combined_words p w (get_or ns slot (pos 0)) = subst (λ i. get_or ms i (pos 0) ≡ combined_words p w (get_or ns i (pos 0))) (sym here) (subst (λ op. get_or ms q.0 (pos 0) ≡ combined_words op w (get_or ns q.0 (pos 0))) op (head-of _ _ _ _ are.0)) in
        let put_first : get_or (set ns slot y1) q.0 (pos 0) ≡ y1 = ap (λ i. get_or (set ns slot y1) i (pos 0)) (sym here) ∙ get_or-set_same ns slot y1 (pos 0) first in
        let put_second : get_or (set ms slot y2) q.0 (pos 0) ≡ y2 = ap (λ i. get_or (set ms slot y2) i (pos 0)) (sym here) ∙ get_or-set_same ms slot y2 (pos 0) second in
        let both : y2 ≡ combined_words q.1 w y1 = ap (λ u. word_after p u v) head ∙ after-combined p w (get_or ns slot (pos 0)) v free ∙ ap (λ op. combined_words op w y1) (sym op) in
        let one : get_or (set ms slot y2) q.0 (pos 0) ≡ combined_words q.1 w (get_or (set ns slot y1) q.0 (pos 0)) = put_second ∙ both ∙ ap (combined_words q.1 w) (sym put_first) in
        let more : words_at qs (set ms slot y2) ≡ all_combined (operators_of qs) ws (words_at qs (set ns slot y1)) =
        words-unset qs ms slot y2 none ∙ tail-of _ _ _ _ are.0 ∙ ap (all_combined (operators_of qs) ws) (sym (words-unset qs ns slot y1 none)) in
        let old : IsExact p (get_or ns slot (pos 0)) = subst (λ i. IsExact p (get_or ns i (pos 0))) (sym here) (subst (λ op. IsExact op (get_or ns q.0 (pos 0))) op are.1.0) in (
          λ i. one i ∷ more i,
          (
            subst (IsExact q.1) (sym put_first) (subst (λ op. IsExact op y1) (sym op) (after-exact p (get_or ns slot (pos 0)) v old)),
            subst (AreExact (operators_of qs)) (sym (words-unset qs ns slot y1 none)) are.1.1,
          ),
        )
    by false e at rest =
        let other : q.0 ≢ slot = grind (arith, nat_tests) in
        let behind = rest at in
        let stays : get_or (set ns slot y1) q.0 (pos 0) ≡ get_or ns q.0 (pos 0) = get_or-set_other ns slot q.0 y1 (pos 0) other in
        let one : get_or (set ms slot y2) q.0 (pos 0) ≡ combined_words q.1 w (get_or (set ns slot y1) q.0 (pos 0)) =
        get_or-set_other ms slot q.0 y2 (pos 0) other ∙ head-of _ _ _ _ are.0 ∙ ap (combined_words q.1 w) (sym stays) in
        let more = behind.0 in
        (λ i. one i ∷ more i, (subst (IsExact q.1) (sym stays) are.1.0, behind.1))

-- a slot that has an operator is a reduce variable's, and is there
pub intent-there : (ps : List (ℕ × Op)) (slot : ℕ) (p : Op) (numbers : List ℤ) → intent_at slot ps ≡ Some p → AllByRecursion (λ (q : ℕ × Op). q.0 < length numbers) ps
    → (is_among slot (slots_of ps) ≡ true) × (slot < length numbers)
intent-there [] slot p numbers at there = absurd cc
intent-there (q ∷ qs) slot p numbers at there = by (slot == q.0) refl at (λ more. intent-there qs slot p numbers more there.1) where
  by : (c : Bool) → (slot == q.0) ≡ c → (if c then Some q.1 else intent_at slot qs) ≡ Some p → (intent_at slot qs ≡ Some p → (is_among slot (slots_of qs) ≡ true) × (slot < length numbers))
      → ((c || is_among slot (slots_of qs)) ≡ true) × (slot < length numbers)
  by true e at rest = let here : slot ≡ q.0 = eqb-true slot q.0 e in (refl, subst (λ i. i < length numbers) (sym here) there.0)
  by false e at rest = rest at
