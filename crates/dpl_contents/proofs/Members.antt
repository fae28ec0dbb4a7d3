-- An index stands among the indices of a domain where the language's test says so.
use Rattle.std.proofs.Common.{◌≡◌, true, ◌&&◌, List, [], ◌∷◌, ℤ, Contains, Decides, refl, ap, sym, ◌∙◌}
use Rattle.std.specs.Cmp.{IsEquivalence}
use Rattle.std.specs.Ordering.{int_eq}
use Rattle.std.proofs.lemmas.Cmp.{int_eq_equiv}
use Rattle.std.proofs.lemmas.Map.Views.{list_any-from_Contains, Contains-from_any}
use Rattle.dpl_sets.specs.TextRanges.{TextRange}
use Rattle.dpl_sets.specs.Indices.{indices}
use Rattle.dpl_sets.specs.TextDomains.{values_of}
use Rattle.dpl_language.specs.Ranges.{same_index as is_index, contains_index}
use Rattle.dpl_array.specs.Elements.{same_index}
use Rattle.dpl_array.proofs.ElementLemmas.{same_index-refl, same_index-true}

-- the language's test is that of arrays
pub is_index-same : (s t : List ℤ) → is_index s t ≡ same_index s t
is_index-same [] [] = refl
is_index-same [] (j ∷ js) = refl
is_index-same (i ∷ is) [] = refl
is_index-same (i ∷ is) (j ∷ js) = ap (λ b. int_eq i j && b) (is_index-same is js)

is_index-true : (s t : List ℤ) → is_index s t ≡ true → s ≡ t
is_index-true s t same = same_index-true s t (sym (is_index-same s t) ∙ same)

is_index-turned : (s t : List ℤ) → is_index s t ≡ is_index t s
is_index-turned [] [] = refl
is_index-turned [] (j ∷ js) = refl
is_index-turned (i ∷ is) [] = refl
is_index-turned (i ∷ is) (j ∷ js) = ap (λ b. b && is_index is js) (int_eq_equiv.symm i j) ∙ ap (λ b. int_eq j i && b) (is_index-turned is js)

is_index-equivalence : IsEquivalence is_index
is_index-equivalence = record {
  refl = λ t. is_index-same t t ∙ same_index-refl t;
  symm = is_index-turned;
  congr = λ s t u same. ap (λ v. is_index v u) (is_index-true s t same);
}

pub Decides-contains_index : (rs : List TextRange) (t : List ℤ) → Decides (contains_index rs t) (Contains (indices (values_of rs)) t)
Decides-contains_index rs t = (
  Contains-from_any is_index-true t (indices (values_of rs)),
  list_any-from_Contains is_index-equivalence t (indices (values_of rs)),
)
