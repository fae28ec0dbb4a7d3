-- What stands at a place of a list, and what is left from there on.
use Rattle.std.proofs.Common.{◌≡◌, ℕ, zero, suc, ◌+◌, ◌<◌, arith, List, [], ◌∷◌, drop, length, slice_get, None, refl, ap, ◌∙◌, subst, ◌⊎◌, ⊎_elim, inl, inr}
use Rattle.dpl_sets.specs.TextRanges.{TextRange}
use Rattle.dpl_map.specs.Maps.{AxisValue}
use Rattle.dpl_language.specs.Values.{Index}
use Rattle.dpl_language.specs.Ranges.{indices_in}
use Rattle.dpl_loop.specs.Entries.{MayRefuse}
use Rattle.dpl_loop.specs.Values.{MayRefuseAmong}

module _ {A : Type 0} where
  pub slice_get-drop_first : (xs : List A) (k : ℕ) → slice_get (drop k xs) 0 ≡ slice_get xs k
  slice_get-drop_first [] zero = refl
  slice_get-drop_first [] (suc k) = refl
  slice_get-drop_first (x ∷ xs) zero = refl
  slice_get-drop_first (x ∷ xs) (suc k) = slice_get-drop_first xs k

  drop-drop_next : (xs : List A) (k : ℕ) → drop 1 (drop k xs) ≡ drop (suc k) xs
  drop-drop_next [] zero = refl
  drop-drop_next [] (suc k) = refl
  drop-drop_next (x ∷ xs) zero = refl
  drop-drop_next (x ∷ xs) (suc k) = drop-drop_next xs k

  pub drop-drop_one : (xs : List A) (k : ℕ) → drop 1 (drop k xs) ≡ drop (k + 1) xs
  drop-drop_one xs k = let one : suc k ≡ k + 1 = omega arith in drop-drop_next xs k ∙ ap (λ n. drop n xs) one

  pub within-there : (xs : List A) (k : ℕ) → k < length xs → slice_get xs k ≡ None → ⊥
  within-there [] k within none = absurd (omega (arith, within))
  within-there (x ∷ xs) zero within none = absurd cc
  within-there (x ∷ xs) (suc k) within none = within-there xs k (omega (arith, within)) none

-- the entries of the indices of a list, which is that of a domain
pub among : (may : ℕ → ℕ → Type 0) (map : List AxisValue) (ts : List Index) (over : List TextRange) (more : Type 0) → ts ≡ indices_in over → MayRefuseAmong may map ts ⊎ more → MayRefuse may map over ⊎ more
among may map ts over more same refused =
    ⊎_elim
    (λ (own : MayRefuseAmong may map ts). inl (subst (λ ts. MayRefuseAmong may map ts) same own))
    (λ (other : more). inr other)
    refused
