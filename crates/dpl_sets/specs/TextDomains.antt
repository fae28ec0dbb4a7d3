-- When two domains of the language are equal.
use Rattle.std.specs.Prelude.{◌≡◌, false, List, [], ◌∷◌, ℤ, map}
use Rattle.dpl_sets.specs.Ranges.{RangeValue}
use Rattle.dpl_sets.specs.TextRanges.{TextRange, SameRange, text_sliced}
use Rattle.dpl_sets.specs.Expansions.{moved}

-- the value of a domain of the language, which is the list of its ranges
abbrev pub values_of : List TextRange → List RangeValue
values_of ranges = map (λ r. r.value) ranges

-- two domains are equal where their ranges are, dimension by dimension
abbrev pub SameDomain : List TextRange → List TextRange → Type 0
SameDomain [] [] = Unit {0}
SameDomain [] (s ∷ ss) = ⊥
SameDomain (r ∷ rs) [] = ⊥
SameDomain (r ∷ rs) (s ∷ ss) = SameRange r s × SameDomain rs ss

-- a domain is strided where one of its ranges is
abbrev pub IsUnstrided : List TextRange → Type 0
IsUnstrided [] = Unit {0}
IsUnstrided (r ∷ rs) = (r.strided ≡ false) × IsUnstrided rs

-- slices and expanded domains are strided where their domains are
abbrev pub text_sliced_by : List TextRange → List (ℤ × ℤ) → List TextRange
text_sliced_by [] [] = []
text_sliced_by [] (b ∷ bs) = []
text_sliced_by (r ∷ rs) [] = []
text_sliced_by (r ∷ rs) (b ∷ bs) = text_sliced b.0 b.1 r ∷ text_sliced_by rs bs

abbrev pub text_moved : ℤ → TextRange → TextRange
text_moved k r = record { value = moved k r.value; strided = r.strided }

abbrev pub text_expanded : ℤ → List TextRange → List TextRange
text_expanded k ranges = map (text_moved k) ranges
