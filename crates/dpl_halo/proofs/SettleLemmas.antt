-- A loan that is settled element by element.
-- An index whose element is still in the loan has the array's own value, and each other one what it has in the end.
use Rattle.std.proofs.Common.{◌≡◌, ℤ, List, [], ◌∷◌, map, true, false, cond, Option, Some, None, is_some, refl, ap, sym, ◌∙◌, ⊎_elim}
use Rattle.std.specs.Option.{option_map}
use Rattle.std.proofs.lemmas.Bool.{cases_Bool}
use Rattle.std.proofs.lemmas.Option.{none-some}
use Rattle.dpl_sets.specs.Indices.{indices}
use Rattle.dpl_array.specs.Elements.{Elements, same_index, value_at, with_value, element_before, tabulated, IsOver}
use Rattle.dpl_array.specs.Arrays.{ArrayValue, IsArray, array_with, or_value}
use Rattle.dpl_array.specs.Rows.{StandsIn}
use Rattle.dpl_array.proofs.ElementLemmas.{over-with_value, same_index-true, tabulated-same, value_at-with_value}
use Rattle.dpl_array.proofs.WalkLemmas.{array-is}
use Rattle.dpl_halo.specs.Gathering.{GatheredValue, IsTaken}
use Rattle.dpl_halo.specs.Loans.{LoanValue, settled}

-- the value at an index, by what is left of the loan there and by what the loan had
abbrev pub in_between : {T : Type 0} → Option T → Option T → T → T
in_between left lent v = cond (is_some left) v (or_value lent v)

pub record IsSettling {T : Type 0} (lent : Elements T) (a : ArrayValue T) (left : Elements T) (b : ArrayValue T) : Type 0 where
  pub domain : b.domain ≡ a.domain
  pub map_is : b.map ≡ a.map
  pub over : IsOver (indices a.domain) b.elements
  pub left_is : (t : List ℤ) (v : T) → value_at t left ≡ Some v → value_at t lent ≡ Some v
  pub values : (t : List ℤ) → value_at t b.elements ≡ option_map (in_between (value_at t left) (value_at t lent)) (value_at t a.elements)

module _ {T : Type 0} where
  untouched : (o p : Option T) → p ≡ option_map (in_between o o) p
  untouched None None = refl
  untouched None (Some v) = refl
  untouched (Some w) None = refl
  untouched (Some w) (Some v) = refl

  pub settle-first : (lent : Elements T) (a : ArrayValue T) → IsArray a → IsSettling lent a lent a
  settle-first lent a array = record {
    domain = refl;
    map_is = refl;
    over = array;
    left_is = λ t v some. some;
    values = λ t. untouched (value_at t lent) (value_at t a.elements);
  }

  written : (v : T) (f : T → T) (o : Option T) → option_map (λ _. v) (option_map f o) ≡ option_map (λ _. v) o
  written v f None = refl
  written v f (Some w) = refl

  pub settle-next : (lent : Elements T) (a : ArrayValue T) (g h : GatheredValue T) (b : ArrayValue T) (t : List ℤ) (v : T) → IsSettling lent a g.elements b → IsTaken t v g h → IsSettling lent a h.elements (array_with t v b)
  settle-next lent a g h b t v settling taken = record {
    domain = settling.domain;
    map_is = settling.map_is;
    over = over-with_value (indices a.domain) b.elements t v settling.over;
    left_is = left_is;
    values = values;
  }
    where
      here : (s : List ℤ) → same_index t s ≡ true → value_at s h.elements ≡ None
      here s same = ap (λ r. value_at r h.elements) (sym (same_index-true t s same)) ∙ taken.gone

      lent_here : (s : List ℤ) → same_index t s ≡ true → value_at s lent ≡ Some v
      lent_here s same = ap (λ r. value_at r lent) (sym (same_index-true t s same)) ∙ settling.left_is t v taken.value

      left_is : (s : List ℤ) (w : T) → value_at s h.elements ≡ Some w → value_at s lent ≡ Some w
      left_is s w some =
          ⊎_elim
          (λ (same : same_index t s ≡ true). absurd (none-some w (sym (here s same) ∙ some)))
          (λ (other : same_index t s ≡ false). settling.left_is s w (sym (taken.others s other) ∙ some))
          (cases_Bool (same_index t s))

      values : (s : List ℤ) → value_at s (with_value t v b.elements) ≡ option_map (in_between (value_at s h.elements) (value_at s lent)) (value_at s a.elements)
      values s =
          value_at-with_value t v b.elements s
          ∙ ⊎_elim
          (λ (same : same_index t s ≡ true).
          ap (λ c. cond c (option_map (λ _. v) (value_at s b.elements)) (value_at s b.elements)) same
          ∙ ap (option_map (λ _. v)) (settling.values s)
          ∙ written v (in_between (value_at s g.elements) (value_at s lent)) (value_at s a.elements)
          ∙ sym (ap (λ o. option_map (in_between o (value_at s lent)) (value_at s a.elements)) (here s same) ∙ ap (λ o. option_map (in_between None o) (value_at s a.elements)) (lent_here s same)))
          (λ (other : same_index t s ≡ false).
          ap (λ c. cond c (option_map (λ _. v) (value_at s b.elements)) (value_at s b.elements)) other
          ∙ settling.values s
          ∙ sym (ap (λ o. option_map (in_between o (value_at s lent)) (value_at s a.elements)) (taken.others s other)))
          (cases_Bool (same_index t s))

  map-tabulated : (ts : List (List ℤ)) (f : List ℤ → Option T) (p : List ℤ → T → T) → map (λ e. (e.0, p e.0 e.1)) (tabulated ts f) ≡ tabulated ts (λ t. option_map (p t) (f t))
  map-tabulated [] f p = refl
  map-tabulated (t ∷ ts) f p = by (f t) (map-tabulated ts f p)
    where
      by : (o : Option T) → map (λ e. (e.0, p e.0 e.1)) (tabulated ts f) ≡ tabulated ts (λ s. option_map (p s) (f s)) → map (λ e. (e.0, p e.0 e.1)) (element_before t o (tabulated ts f)) ≡ element_before t (option_map (p t) o) (tabulated ts (λ s. option_map (p s) (f s)))
      by None rest = rest
      by (Some v) rest = ap (λ es. (t, p t v) ∷ es) rest

  pub settle-last : (loan : LoanValue T) (a : ArrayValue T) (left : Elements T) (b : ArrayValue T) → IsArray a → IsSettling loan.elements a left b → left ≡ [] → b ≡ settled loan a
  settle-last loan a left b array settling none = array-is b a.domain a.map (map (λ e. (e.0, or_value (value_at e.0 loan.elements) e.1)) a.elements) settling.domain settling.map_is elements
    where
      each : (t : List ℤ) → StandsIn (indices a.domain) t → value_at t b.elements ≡ option_map (or_value (value_at t loan.elements)) (value_at t a.elements)
      each t at = settling.values t ∙ ap (λ es. option_map (in_between (value_at t es) (value_at t loan.elements)) (value_at t a.elements)) none

      elements : b.elements ≡ map (λ e. (e.0, or_value (value_at e.0 loan.elements) e.1)) a.elements
      elements =
          sym settling.over.values
          ∙ tabulated-same (indices a.domain) (λ t. value_at t b.elements) (λ t. option_map (or_value (value_at t loan.elements)) (value_at t a.elements)) each
          ∙ sym (map-tabulated (indices a.domain) (λ t. value_at t a.elements) (λ t. or_value (value_at t loan.elements)))
          ∙ ap (map (λ e. (e.0, or_value (value_at e.0 loan.elements) e.1))) array.values
