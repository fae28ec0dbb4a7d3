-- An array that takes over the elements of another one, in the order of its domain, has all of them at the end, and is seen as the same.
use Rattle.std.proofs.Common.{◌≡◌, ◌<◌, ◌≤◌, ◌+◌, ℕ, zero, suc, ℤ, pos, List, [], ◌∷◌, length, take, slice_get, true, false, cond, Some, refl, ap, sym, subst, ◌∙◌, arith, ⊎_elim, ◌⊎◌, inl, inr, get_or}
use Rattle.std.specs.Option.{option_map}
use Rattle.std.proofs.lemmas.Option.{none-some, same_Some, slice_get-get_or, slice_get_within}
use Rattle.dpl_sets.specs.Ranges.{RangeValue}
use Rattle.dpl_sets.specs.TextRanges.{TextRange}
use Rattle.dpl_sets.specs.Indices.{indices}
use Rattle.dpl_map.specs.Maps.{AxisValue}
use Rattle.dpl_array.specs.Elements.{Row, Elements, behind, same_index, value_at, put_in_row, put_some, tabulated}
use Rattle.dpl_array.specs.Arrays.{ArrayValue, IsArray, array_with, filled_array}
use Rattle.dpl_array.specs.Rows.{StandsIn}
use Rattle.dpl_array.proofs.ElementLemmas.{changed, index-cases, same_index-refl, over-filled, over-some, over-with_value, tabulated-same, value_at-with_value}
use Rattle.dpl_memory.specs.Memory.{Held}
use Rattle.dpl_contents.specs.Arrays.{IsArrayOver}
use Rattle.dpl_contents.specs.Dealt.{HasTaken}
use Rattle.dpl_contents.proofs.Words.{seen}

-- PLACES
last-or-before : (j k : ℕ) → j < k + 1 → (j < k) ⊎ (j ≡ k)
last-or-before zero zero below = inr refl
last-or-before zero (suc k) below = inl (omega arith)
last-or-before (suc j) zero below = absurd (omega (arith, below))
last-or-before (suc j) (suc k) below = ⊎_elim (λ (l : j < k). inl (omega (arith, l))) (λ (e : j ≡ k). inr (omega (arith, e))) (last-or-before j k (omega (arith, below)))

-- what stands in the first part of a list
pub taken-some : {X : Type 0} (xs : List X) (n k : ℕ) (x : X) → slice_get (take n xs) k ≡ Some x → (k < n) × (slice_get xs k ≡ Some x)
taken-some xs zero k x some = absurd (none-some x some)
taken-some [] (suc n) k x some = absurd (none-some x some)
taken-some (y ∷ xs) (suc n) zero x some = (omega arith, some)
taken-some (y ∷ xs) (suc n) (suc k) x some = let rest = taken-some xs n k x some in (omega (arith, rest.0), rest.1)

pub take-few : {X : Type 0} (n : ℕ) (xs : List X) → length (take n xs) ≤ n
take-few zero xs = omega arith
take-few (suc n) [] = omega arith
take-few (suc n) (x ∷ xs) = omega (arith, take-few n xs)

-- places one after another that have something are within a list
pub row-within : {X : Type 0} (xs : List X) (place left n : ℕ) (f : ℕ → X) → ((k : ℕ) → k < left → slice_get xs (place + k) ≡ Some (f k)) → n ≤ left → place < length xs → place + n ≤ length xs
row-within xs place left zero f there most below = omega (arith, below)
row-within xs place left (suc k) f there most below = omega (arith, slice_get_within xs (place + k) (f k) (there k (omega (arith, most))))

-- WHAT IS TAKEN OVER
module _ (a : ArrayValue ℤ) (axes : List AxisValue) where
  -- nothing at first
  pub taken-none : (b : ArrayValue ℤ) → b ≡ filled_array a.domain axes (pos 0) → HasTaken a axes 0 b
  taken-none b is = record {
    domain = ap (λ (c : ArrayValue ℤ). c.domain) is;
    map = ap (λ (c : ArrayValue ℤ). c.map) is;
    keys = subst IsArray (sym is) (over-filled (indices a.domain) (pos 0));
    same = λ k t below at. absurd (omega (arith, below));
  }

  -- an element more
  pub taken-one : (place : ℕ) (t : List ℤ) (v : ℤ) (b : ArrayValue ℤ) → HasTaken a axes place b → slice_get (indices a.domain) place ≡ Some t → value_at t a.elements ≡ Some v → HasTaken a axes (place + 1) (array_with t v b)
  taken-one place t v b has here is = record {
    domain = has.domain;
    map = has.map;
    keys = over-with_value (indices b.domain) b.elements t v has.keys;
    same = λ k s below at. value_at-with_value t v b.elements s ∙ each k s below at (index-cases t s);
  }
    where
      each : (k : ℕ) (s : List ℤ) → k < place + 1 → slice_get (indices a.domain) k ≡ Some s → (t ≡ s) ⊎ (same_index t s ≡ false) → changed t v (λ r. value_at r b.elements) s ≡ value_at s a.elements
      each k s below at (inl same) =
          let test : same_index t s ≡ true = ap (same_index t) (sym same) ∙ same_index-refl t in
          let stands : StandsIn (indices b.domain) s = (k, ap (λ (d : List RangeValue). slice_get (indices d) k) has.domain ∙ at) in
          let there = over-some (indices b.domain) b.elements s has.keys stands in
          ap (λ c. cond c (option_map (λ (_ : ℤ). v) (value_at s b.elements)) (value_at s b.elements)) test
          ∙ ap (option_map (λ (_ : ℤ). v)) there.1
          ∙ sym (ap (λ r. value_at r a.elements) (sym same) ∙ is)
      each k s below at (inr other) =
          ap (λ c. cond c (option_map (λ (_ : ℤ). v) (value_at s b.elements)) (value_at s b.elements)) other
          ∙ ⊎_elim
          (λ (before : k < place). has.same k s before at)
          (λ (last : k ≡ place). absurd (apart (same_Some t s (sym here ∙ sym (ap (slice_get (indices a.domain)) last) ∙ at))))
          (last-or-before k place below)
        where
          apart : t ≡ s → ⊥
          apart same = let test : same_index t s ≡ true = ap (same_index t) (sym same) ∙ same_index-refl t in absurd cc

  -- those of a row, side by side
  module _ (place : ℕ) (t : Row) (words : List ℤ) (b : ArrayValue ℤ) (has : HasTaken a axes place b) (each : (k : ℕ) (v : ℤ) → slice_get words k ≡ Some v → value_at (behind k t) a.elements ≡ Some v) where
    pub taken-row : (n : ℕ) → n ≤ length words → ((k : ℕ) → k < n → slice_get (indices a.domain) (place + k) ≡ Some (behind k t)) → HasTaken a axes (place + n) (put_in_row array_with t words n b)
    taken-row zero most there = let same : place ≡ place + 0 = omega arith in subst (λ n. HasTaken a axes n b) same has
    taken-row (suc k) most there =
        let v = get_or words k (pos 0) in
        let word : slice_get words k ≡ Some v = slice_get-get_or words k (pos 0) (omega (arith, most)) in
        let before = taken-row k (omega (arith, most)) (λ j below. there j (omega (arith, below))) in
        let next : place + k + 1 ≡ place + suc k = omega arith in
        subst (λ n. HasTaken a axes n (put_in_row array_with t words (suc k) b)) next
        (subst (λ o. HasTaken a axes (place + k + 1) (put_some array_with (behind k t) o (put_in_row array_with t words k b))) (sym word)
        (taken-one (place + k) (behind k t) v (put_in_row array_with t words k b) before (there k (omega arith)) (each k v word)))

  -- all at last
  pub taken-all : IsArray a → (place : ℕ) → length (indices a.domain) ≤ place → (b : ArrayValue ℤ) → HasTaken a axes place b → b ≡ record a { map = axes }
  taken-all over place all b has = made b.domain a.domain b.map axes b.elements a.elements has.domain has.map elements
    where
      of : List RangeValue → List AxisValue → Elements ℤ → ArrayValue ℤ
      of d m es = record { domain = d; map = m; elements = es }

      elements : b.elements ≡ a.elements
      elements =
          sym has.keys.values
          ∙ ap (λ (d : List RangeValue). tabulated (indices d) (λ t. value_at t b.elements)) has.domain
          ∙ tabulated-same (indices a.domain) (λ t. value_at t b.elements) (λ t. value_at t a.elements) (λ t at. has.same at.0 t (omega (arith, all, slice_get_within (indices a.domain) at.0 t at.1)) at.1)
          ∙ over.values

      made : (d e : List RangeValue) (m n : List AxisValue) (es fs : Elements ℤ) → d ≡ e → m ≡ n → es ≡ fs → of d m es ≡ of e n fs
      made d e m n es fs domain map same = ap (λ (d : List RangeValue). of d m es) domain ∙ ap (λ (m : List AxisValue). of e m es) map ∙ ap (of e n) same

-- AN ARRAY CUT BY ANOTHER MAP
module _ (ranges : List TextRange) (a b : ArrayValue ℤ) (axes : List AxisValue) (is : b ≡ record a { map = axes }) where
  -- is over the same domain
  pub over-dealt : IsArrayOver ranges a → IsArrayOver ranges b
  over-dealt over = subst (IsArrayOver ranges) (sym is) (record { domain = over.domain; keys = over.keys; written = over.written })

  -- and is seen as the same
  pub seen-dealt : (h : Held) → seen ranges a ≡ h → seen ranges b ≡ h
  seen-dealt h was = ap (seen ranges) is ∙ was
