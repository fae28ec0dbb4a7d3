-- So do the words of reduce variables, of one and of several.
use Rattle.std.proofs.Common.{◌≡◌, ◌⊎◌, inl, inr, ℤ, pos, Bool, true, false, List, [], ◌∷◌, FitsSigned, w64, refl, sym, ap, ◌∙◌, subst}
use Rattle.dpl_language.specs.Tree.{Op, AllOf, AnyOf}
use Rattle.dpl_language.specs.Values.{Value, Int, Truth, kept_number}
use Rattle.dpl_language.specs.Arithmetic.{combined, unit_of}
use Rattle.dpl_words.specs.Words.{is_true, is_logical}
use Rattle.dpl_apart.specs.Operands.{IsCommutativeMonoid, IsOperand, value_of_word, combined_words, unit_word, IsExact, all_combined, unit_words, AreExact}
use Rattle.dpl_apart.proofs.Operators.{operators, combined-operand, int-operand, truth-operand}

truth-kept : (b : Bool) → is_true (kept_number (Truth b)) ≡ Truth b
truth-kept true = refl
truth-kept false = refl

-- what an operator gives is the value of the word that it is kept as
pub combined-kept : (op : Op) (u v : Value) → value_of_word op (kept_number (combined op u v)) ≡ combined op u v
combined-kept AllOf u v = truth-kept _
combined-kept AnyOf u v = truth-kept _
combined-kept _ u v = refl

unit-kept : (op : Op) → value_of_word op (unit_word op) ≡ unit_of op
unit-kept op = ap (λ v. value_of_word op (kept_number v)) (sym (operators op).one) ∙ combined-kept op (unit_of op) (unit_of op) ∙ (operators op).one

module _ (op : Op) where
  pub exact-operand : (w : ℤ) → IsExact op w → IsOperand op (value_of_word op w)
  exact-operand w h =
      sym (ap (value_of_word op) (sym h) ∙ combined-kept op (value_of_word op w) (value_of_word op (unit_word op)) ∙ ap (combined op (value_of_word op w)) (unit-kept op))

  pub operand-exact : (v : Value) → IsOperand op v → IsExact op (kept_number v)
  operand-exact v h =
      let same : value_of_word op (kept_number v) ≡ v = ap (λ v. value_of_word op (kept_number v)) (sym h) ∙ combined-kept op v (unit_of op) ∙ h in
      ap (λ u. kept_number (combined op u (value_of_word op (unit_word op)))) same ∙ ap (λ u. kept_number (combined op v u)) (unit-kept op) ∙ ap kept_number h

  -- whatever is put to an exact word, it is exact again
  pub combined-exact : (v w : ℤ) → IsExact op v → IsExact op (combined_words op v w)
  combined-exact v w h = operand-exact (combined op (value_of_word op v) (value_of_word op w)) (combined-operand op (value_of_word op v) (value_of_word op w) (exact-operand v h))

  words-assoc : (a b c : ℤ) → IsExact op a → IsExact op b → IsExact op c → combined_words op (combined_words op a b) c ≡ combined_words op a (combined_words op b c)
  words-assoc a b c ha hb hc =
      ap (λ v. kept_number (combined op v (value_of_word op c))) (combined-kept op (value_of_word op a) (value_of_word op b))
      ∙ ap kept_number ((operators op).assoc (value_of_word op a) (value_of_word op b) (value_of_word op c) (exact-operand a ha) (exact-operand b hb) (exact-operand c hc))
      ∙ sym (ap (λ v. kept_number (combined op (value_of_word op a) v)) (combined-kept op (value_of_word op b) (value_of_word op c)))

  pub reduce_word : IsCommutativeMonoid (IsExact op) (combined_words op) (unit_word op)
  reduce_word = record {
    one = operand-exact (unit_of op) (operators op).one;
    closed = λ a b ha hb. combined-exact a b ha;
    assoc = words-assoc;
    comm = λ a b ha hb. ap kept_number ((operators op).comm (value_of_word op a) (value_of_word op b) (exact-operand a ha) (exact-operand b hb));
    neutral = λ a h. h;
  }

-- ---- which words are exact
-- those of 64 bits, for an operator on ints
pub int-exact : (op : Op) (w : ℤ) → is_logical op ≡ false → FitsSigned w64 w → IsExact op w
int-exact op w ints f = operand-exact op (Int w) (int-operand op w ints f)

-- 0 and 1, for the two others
pub truth-exact : (op : Op) (w : ℤ) → is_logical op ≡ true → (w ≡ pos 0) ⊎ (w ≡ pos 1) → IsExact op w
truth-exact op w truths (inl e) = subst (IsExact op) (sym e) (operand-exact op (Truth false) (truth-operand op false truths))
truth-exact op w truths (inr e) = subst (IsExact op) (sym e) (operand-exact op (Truth true) (truth-operand op true truths))

-- ---- of several reduce variables
units-exact : (ops : List Op) → AreExact ops (unit_words ops)
units-exact [] = tt
units-exact (op ∷ ops) = ((reduce_word op).one, units-exact ops)

all-closed : (ops : List Op) (vs ws : List ℤ) → AreExact ops vs → AreExact ops ws → AreExact ops (all_combined ops vs ws)
all-closed [] [] [] hv hw = tt
all-closed [] [] (w ∷ ws) hv hw = absurd hw
all-closed [] (v ∷ vs) ws hv hw = absurd hv
all-closed (op ∷ ops) [] ws hv hw = absurd hv
all-closed (op ∷ ops) (v ∷ vs) [] hv hw = absurd hw
all-closed (op ∷ ops) (v ∷ vs) (w ∷ ws) hv hw = ((reduce_word op).closed v w hv.0 hw.0, all-closed ops vs ws hv.1 hw.1)

all-assoc : (ops : List Op) (us vs ws : List ℤ) → AreExact ops us → AreExact ops vs → AreExact ops ws → all_combined ops (all_combined ops us vs) ws ≡ all_combined ops us (all_combined ops vs ws)
all-assoc [] [] [] [] hu hv hw = refl
all-assoc [] [] [] (w ∷ ws) hu hv hw = absurd hw
all-assoc [] [] (v ∷ vs) ws hu hv hw = absurd hv
all-assoc [] (u ∷ us) vs ws hu hv hw = absurd hu
all-assoc (op ∷ ops) [] vs ws hu hv hw = absurd hu
all-assoc (op ∷ ops) (u ∷ us) [] ws hu hv hw = absurd hv
all-assoc (op ∷ ops) (u ∷ us) (v ∷ vs) [] hu hv hw = absurd hw
all-assoc (op ∷ ops) (u ∷ us) (v ∷ vs) (w ∷ ws) hu hv hw =
    let here = (reduce_word op).assoc u v w hu.0 hv.0 hw.0 in
    let rest = all-assoc ops us vs ws hu.1 hv.1 hw.1 in
    λ i. here i ∷ rest i

all-comm : (ops : List Op) (vs ws : List ℤ) → AreExact ops vs → AreExact ops ws → all_combined ops vs ws ≡ all_combined ops ws vs
all-comm [] [] [] hv hw = refl
all-comm [] [] (w ∷ ws) hv hw = absurd hw
all-comm [] (v ∷ vs) ws hv hw = absurd hv
all-comm (op ∷ ops) [] ws hv hw = absurd hv
all-comm (op ∷ ops) (v ∷ vs) [] hv hw = absurd hw
all-comm (op ∷ ops) (v ∷ vs) (w ∷ ws) hv hw =
    let here = (reduce_word op).comm v w hv.0 hw.0 in
    let rest = all-comm ops vs ws hv.1 hw.1 in
    λ i. here i ∷ rest i

all-neutral : (ops : List Op) (ws : List ℤ) → AreExact ops ws → all_combined ops ws (unit_words ops) ≡ ws
all-neutral [] [] h = refl
all-neutral [] (w ∷ ws) h = absurd h
all-neutral (op ∷ ops) [] h = absurd h
all-neutral (op ∷ ops) (w ∷ ws) h = let here = (reduce_word op).neutral w h.0 in let rest = all-neutral ops ws h.1 in λ i. here i ∷ rest i

pub reduce_words : (ops : List Op) → IsCommutativeMonoid (AreExact ops) (all_combined ops) (unit_words ops)
reduce_words ops = record { one = units-exact ops; closed = all-closed ops; assoc = all-assoc ops; comm = all-comm ops; neutral = all-neutral ops }
