-- Indices that are the same, and those that aren't.
use Rattle.std.proofs.Common.{◌≡◌, Bool, true, false, [], ◌∷◌, refl}
use Rattle.std.specs.Ordering.{int_eq}
use Rattle.std.proofs.lemmas.Bool.{and_parts}
use Rattle.std.proofs.lemmas.Bool.Decides.{Decides-int_eq}
use Rattle.dpl_language.specs.Values.{Index}
use Rattle.dpl_language.specs.Ranges.{same_index}

pub same_index-refl : (t : Index) → same_index t t ≡ true
same_index-refl [] = refl
same_index-refl (i ∷ is) = let e : int_eq i i ≡ true = (Decides-int_eq i i).1 refl in rw e (same_index-refl is)

pub same_index-sound : (s t : Index) → same_index s t ≡ true → s ≡ t
same_index-sound [] [] e = refl
same_index-sound [] (j ∷ js) e = absurd cc
same_index-sound (i ∷ is) [] e = absurd cc
same_index-sound (i ∷ is) (j ∷ js) e =
    let both = and_parts (int_eq i j) (same_index is js) e in
    let heads : i ≡ j = (Decides-int_eq i j).0 both.0 in
    let tails : is ≡ js = same_index-sound is js both.1 in
    λ k. heads k ∷ tails k

pub not-same : (s t : Index) → (s ≡ t → ⊥) → same_index s t ≡ false
not-same s t other = by (same_index s t) refl where
  by : (b : Bool) → same_index s t ≡ b → same_index s t ≡ false
  by true e = absurd (other (same_index-sound s t e))
  by false e = e
