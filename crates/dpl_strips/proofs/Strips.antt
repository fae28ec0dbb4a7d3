-- Words that are written one after another; and the values of operators by those of both sides.
use Rattle.std.proofs.Common.{◌≡◌, ◌≢◌, Bool, true, false, int_div, int_rem, ◌<◌, ◌≤◌, ◌+◌, ℕ, zero, suc, ℤ, pos, List, [], ◌∷◌, length, get_or, set, take, replicate, Option, Some, None, Result, Ok, Err, option_map, arith, refl, sym, subst, ap, ◌∙◌, ◌⊎◌, ⊎_elim, inl, inr}
use Rattle.std.specs.Ordering.{int_eq}
use Rattle.std.proofs.lemmas.List.{get_or-set_same, get_or-set_other, get_or-take}
use Rattle.std.proofs.lemmas.Bool.{cases_lt}
use Rattle.std.proofs.lemmas.Bool.Decides.{Decides-int_eq}
use Rattle.dpl_syntax.specs.declared.place.Place.{Place}
use Rattle.dpl_language.specs.Arithmetic.{wrap}
use Rattle.dpl_array.specs.Elements.{Row, behind}
use Rattle.dpl_language.specs.Tree.{Kind, ExprTree, Divide, Remainder}
use Rattle.dpl_language.specs.Values.{Value, Fault, Index, Int, index_of}
use Rattle.dpl_language.specs.Outcome.{with_ok}
use Rattle.dpl_language.specs.Expressions.{value_of, items_of, values_of, found}
use Rattle.dpl_language.specs.Environment.{Limits}
use Rattle.dpl_lowered.specs.Shapes.{nowhere, two}
use Rattle.dpl_memory.specs.Memory.{Variable, Held, Memory, element_as, held_at, array_at, in_memory}
use Rattle.dpl_nodes.specs.declared.tree.IndexExpr.{IndexExpr, Line'}
use Rattle.dpl_nodes.specs.Typed.{array_named, in_square, index_items, index_exprs}
use Rattle.dpl_loop.specs.declared.strip.Strip.{Strip}
use Rattle.dpl_strips.specs.declared.apply.Wrapping.{Wrapping}
use Rattle.dpl_strips.specs.declared.apply.Wrapping.TheVariants as wrapping
use Rattle.dpl_strips.specs.Strips.{HoldWhere, HoldsWhere, infix_of, made_by}

-- one word more is written
pub written : (Fits : ℕ → ℤ → Type 0) (ws : List ℤ) (k : ℕ) (w : ℤ) → k < length ws → ((j : ℕ) → j < k → Fits j (get_or ws j (pos 0))) → Fits k w → (j : ℕ) → j < k + 1 → Fits j (get_or (set ws k w) j (pos 0))
written Fits ws k w within before now j below =
    ⊎_elim
    (λ (less : j < k). subst (Fits j) (sym (get_or-set_other ws k j w (pos 0) (λ is. omega (arith, less, is)))) (before j less))
    (λ (same : j ≡ k). subst (λ i. Fits i (get_or (set ws k w) i (pos 0))) (sym same) (subst (Fits k) (sym (get_or-set_same ws k w (pos 0) within)) now))
    (last j k below)
  where
    last : (j k : ℕ) → j < k + 1 → (j < k) ⊎ (j ≡ k)
    last zero zero below = inr refl
    last zero (suc k) below = inl (omega arith)
    last (suc j) zero below = absurd (omega (arith, below))
    last (suc j) (suc k) below = ⊎_elim (λ (l : j < k). inl (omega (arith, l))) (λ (e : j ≡ k). inr (omega (arith, e))) (last j k (omega (arith, below)))

-- and so behind some words
pub written-behind : (Fits : ℕ → ℤ → Type 0) (ws : List ℤ) (size k : ℕ) (w : ℤ) → size + k < length ws → ((j : ℕ) → j < k → Fits j (get_or ws (size + j) (pos 0))) → Fits k w
    → (j : ℕ) → j < k + 1 → Fits j (get_or (set ws (size + k) w) (size + j) (pos 0))
written-behind Fits ws size k w within before now j below =
    ⊎_elim
    (λ (less : j < k). subst (Fits j) (sym (get_or-set_other ws (size + k) (size + j) w (pos 0) (λ is. omega (arith, less, is)))) (before j less))
    (λ (more : k ≤ j).
    let same : j ≡ k = omega (arith, below, more) in
    subst (λ i. Fits i (get_or (set ws (size + k) w) (size + i) (pos 0))) (sym same) (subst (Fits k) (sym (get_or-set_same ws (size + k) w (pos 0) within)) now))
    (cases_lt j k)

-- one word everywhere
pub repeated : (n k : ℕ) (w : ℤ) → k < n → get_or (replicate n w) k (pos 0) ≡ w
repeated zero k w below = absurd (omega (arith, below))
repeated (suc n) zero w below = refl
repeated (suc n) (suc k) w below = repeated n k w (omega (arith, below))

-- what is made of the ints of a strip and of words on their right, where that makes the whole's value of theirs
pub both-hold : (Suits : Row → ℕ → Memory → Type 0) (left_at right_at whole_at : Index → Memory → Result Value Fault) (op : Wrapping)
    → ((t : Index) (u : Memory) (x y : ℤ) → left_at t u ≡ Ok (Int x) → right_at t u ≡ Ok (Int y) → whole_at t u ≡ Ok (Int (made_by op x y)))
    → (left made : Strip) (size : ℕ) (word : ℕ → ℤ) → made.row ≡ left.row → made.size ≤ left.size → ((k : ℕ) → k < made.size → k < 64 → k < size)
    → HoldsWhere Suits left_at left → HoldWhere Suits right_at left.row size word
    → ((k : ℕ) → k < made.size → k < 64 → get_or made.words k (pos 0) ≡ made_by op (get_or left.words k (pos 0)) (word k)) → HoldsWhere Suits whole_at made
both-hold Suits left_at right_at whole_at op whole left made size word beside fewer in_right left_holds right_holds words k below within u suits =
    let there : Suits left.row k u = subst (λ row. Suits row k u) beside suits in
    ap (λ row. whole_at (behind k row) u) beside
    ∙ whole (behind k left.row) u (get_or left.words k (pos 0)) (word k) (left_holds k (omega (arith, below, fewer)) within u there)
    (right_holds k (in_right k below within) within u there)
    ∙ ap (λ n. Ok (Int n)) (sym (words k below within))

-- so many words at the most are taken
pub take-few : (n : ℕ) (ws : List ℤ) → length (take n ws) ≤ n
take-few zero ws = omega arith
take-few (suc n) [] = omega arith
take-few (suc n) (w ∷ ws) = omega (arith, take-few n ws)

-- the first words of a strip are what its ints are
pub first-hold : (Suits : Row → ℕ → Memory → Type 0) (at : Index → Memory → Result Value Fault) (row : Row) (strip : Strip) (n : ℕ) → strip.row ≡ row
    → n ≤ strip.size → HoldsWhere Suits at strip
    → HoldWhere Suits at row (length (take n strip.words)) (λ k. get_or (take n strip.words) k (pos 0))
first-hold Suits at row strip n beside small holds k within below u suits =
    let inside : k < n = omega (arith, within, take-few n strip.words) in
    ap (λ row. at (behind k row) u) (sym beside)
    ∙ holds k (omega (arith, inside, small)) below u (subst (λ row. Suits row k u) (sym beside) suits)
    ∙ ap (λ n. Ok (Int n)) (sym (get_or-take n strip.words k (pos 0) inside))

not_zero : (y : ℤ) → y ≢ pos 0 → int_eq y (pos 0) ≡ false
not_zero y some = by (int_eq y (pos 0)) (Decides-int_eq y (pos 0)).0
  where
    by : (b : Bool) → (b ≡ true → y ≡ pos 0) → b ≡ false
    by true is = absurd (some (is refl))
    by false is = refl

module _ (limits : Limits) (a b : ExprTree Variable) (t : Option Index) (s : Memory) (x y : ℤ) (left : value_of limits in_memory a t s ≡ Ok (Int x)) (right : value_of limits in_memory b t s ≡ Ok (Int y)) where
  pub both-at : (op : Wrapping) → value_of limits in_memory (two a nowhere (infix_of op) b) t s ≡ Ok (Int (made_by op x y))
  both-at wrapping.Sum = rw left (rw right refl)
  both-at wrapping.Difference = rw left (rw right refl)
  both-at wrapping.Product = rw left (rw right refl)

  -- where the divisor isn't 0
  pub quotient-at : (at : Place) → y ≢ pos 0 → value_of limits in_memory (two a at Divide b) t s ≡ Ok (Int (wrap (int_div x y)))
  quotient-at at some = rw left (rw right (rw (not_zero y some) refl))

  pub remainder-at : (at : Place) → y ≢ pos 0 → value_of limits in_memory (two a at Remainder b) t s ≡ Ok (Int (wrap (int_rem x y)))
  remainder-at at some = rw left (rw right (rw (not_zero y some) refl))

-- ---- elements
-- the coordinates of an index are its items
items-values : (limits : Limits) (x : IndexExpr) (u : Memory) → items_of limits in_memory (index_items x) u ≡ values_of limits in_memory (index_exprs x) u
items-values limits (Line' p a) u = refl
items-values limits _ u = refl

-- the word at an index that is found is the element's value
found-word : (kind : Kind) (at : Place) (held : Held) (t : Index) (word : ℤ) (found_at : Result (List Value) Fault) → with_ok found_at (λ vs. Ok (index_of vs)) ≡ Ok t → held_at t held ≡ Some word
    → with_ok (with_ok found_at (λ vs. found at (option_map (element_as kind) (held_at (index_of vs) held)))) (λ w. Ok w) ≡ Ok (element_as kind word)
found-word kind at held t word (Ok vs) index there =
    let same : index_of vs ≡ t = cc in
    ap (λ i. with_ok (found at (option_map (element_as kind) (held_at i held))) (λ w. Ok w)) same
    ∙ ap (λ o. with_ok (found at (option_map (element_as kind) o)) (λ w. Ok w)) there
found-word kind at held t word (Err f) index there = absurd cc

pub element-value : (limits : Limits) (kind : Kind) (slot : ℕ) (x : IndexExpr) (at : Place) (u : Memory) (t : Index) (word : ℤ)
    → with_ok (values_of limits in_memory (index_exprs x) u) (λ vs. Ok (index_of vs)) ≡ Ok t → held_at t (array_at slot u) ≡ Some word
    → value_of limits in_memory (in_square (array_named kind slot at) (index_items x)) None u ≡ Ok (element_as kind word)
element-value limits kind slot x at u t word index there =
    found-word kind at (array_at slot u) t word (items_of limits in_memory (index_items x) u) (ap (λ r. with_ok r (λ vs. Ok (index_of vs))) (items-values limits x u) ∙ index) there
