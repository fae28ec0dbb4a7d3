-- How elements of an array are gathered, one index after another.
-- Functions of the crate speak of it by what a gathering holds at each index.
use Rattle.std.specs.Prelude.{◌≡◌, ◌+◌, ℕ, suc, List, [], ◌∷◌, ◌++◌, ℤ, Bool, true, false, ◌&&◌, cond, Option, None, Some, length}
use Rattle.dpl_sets.specs.Ranges.{RangeValue}
use Rattle.dpl_array.specs.Elements.{Elements, same_index, value_at, element_before}
use Rattle.dpl_array.specs.Arrays.{ArrayValue}
use Rattle.dpl_halo.specs.Halos.{is_foreign}
use Rattle.dpl_halo.specs.Listed.{is_listed}

-- elements over a domain: a finite map from some of its indices to values
pub record GatheredValue (T : Type 0) : Type 0 where
  pub domain : List RangeValue
  pub elements : Elements T

-- what a function from places gives of the indices of a list, in their order
abbrev pub chosen : {T : Type 0} → List (List ℤ) → (ℕ → Option T) → Elements T
chosen [] f = []
chosen (t ∷ ts) f = element_before t (f 0) (chosen ts (λ k. f (suc k)))

-- each index is wanted
abbrev pub every : List ℤ → Bool
every t = true

-- of the indices that were looked at so far those that are wanted hold what the array holds, and no others hold anything
pub record IsGathered {T : Type 0} (a : ArrayValue T) (wants : List ℤ → Bool) (seen : List (List ℤ)) (g : GatheredValue T) : Type 0 where
  pub domain : g.domain ≡ a.domain
  pub values : (t : List ℤ) → value_at t g.elements ≡ cond (is_listed seen t && wants t) (value_at t a.elements) None

-- A call looks at some more indices, and gathers what another locale owns there.
abbrev pub AddsForeign : {T : Type 0} → ArrayValue T → ℕ → List (List ℤ) → GatheredValue T → GatheredValue T → Type 0
AddsForeign a locale more g h = (seen : List (List ℤ)) → IsGathered a (is_foreign a.map locale) seen g → IsGathered a (is_foreign a.map locale) (seen ++ more) h

-- one element is taken out
pub record IsTaken {T : Type 0} (t : List ℤ) (v : T) (g h : GatheredValue T) : Type 0 where
  pub domain : h.domain ≡ g.domain
  pub value : value_at t g.elements ≡ Some v
  pub gone : value_at t h.elements ≡ None
  pub others : (s : List ℤ) → same_index t s ≡ false → value_at s h.elements ≡ value_at s g.elements
  pub fewer : length h.elements + 1 ≡ length g.elements
