-- Equal domains are told apart by no function of the language.
use Rattle.std.proofs.Common.{◌≡◌, ℕ, zero, suc, List, [], ◌∷◌, length, ap, sym, ◌∙◌, refl, ℤ, slice_get, Contains, ◌↔◌, Option, Some, None, subst, map}
use Rattle.dpl_sets.specs.Ranges.{members_of}
use Rattle.dpl_sets.specs.TextRanges.{TextRange, IsTextRange, SameRange}
use Rattle.dpl_range.specs.Invariant.{IsRange}
use Rattle.dpl_range.proofs.EqualityLemmas.{SameRange-sliced}
use Rattle.dpl_sets.specs.Indices.{tuples, indices}
use Rattle.dpl_sets.specs.DomainSlices.{AreBounds}
use Rattle.dpl_sets.specs.Expansions.{expanded}
use Rattle.dpl_sets.specs.TextDomains.{values_of, SameDomain, IsUnstrided, text_sliced_by}

-- two dimensions, where there are such
abbrev pub SameDim : Option TextRange → Option TextRange → Type 0
SameDim None None = Unit {0}
SameDim None (Some s) = ⊥
SameDim (Some r) None = ⊥
SameDim (Some r) (Some s) = SameRange r s

-- what the language asks of a domain is the same of both
pub record DomainsAlike (D E : List TextRange) : Type 0 where
  pub rank : length D ≡ length E
  pub dim : (d : ℕ) → SameDim (slice_get D d) (slice_get E d)
  pub list : indices (values_of D) ≡ indices (values_of E)
  pub size : length (indices (values_of D)) ≡ length (indices (values_of E))
  pub contains : (t : List ℤ) → Contains (indices (values_of D)) t ↔ Contains (indices (values_of E)) t

rank-same : (D E : List TextRange) → SameDomain D E → length D ≡ length E
rank-same [] [] same = refl
rank-same [] (s ∷ ss) same = absurd same
rank-same (r ∷ rs) [] same = absurd same
rank-same (r ∷ rs) (s ∷ ss) same = ap suc (rank-same rs ss same.1)

dim-same : (D E : List TextRange) (d : ℕ) → SameDomain D E → SameDim (slice_get D d) (slice_get E d)
dim-same [] [] d same = tt
dim-same [] (s ∷ ss) d same = absurd same
dim-same (r ∷ rs) [] d same = absurd same
dim-same (r ∷ rs) (s ∷ ss) zero same = same.0
dim-same (r ∷ rs) (s ∷ ss) (suc d) same = dim-same rs ss d same.1

members-same : (D E : List TextRange) → SameDomain D E → map members_of (values_of D) ≡ map members_of (values_of E)
members-same [] [] same = refl
members-same [] (s ∷ ss) same = absurd same
members-same (r ∷ rs) [] same = absurd same
members-same (r ∷ rs) (s ∷ ss) same =
    ap (λ is. is ∷ map members_of (values_of rs)) same.0.members ∙ ap (λ iss. members_of s.value ∷ iss) (members-same rs ss same.1)

indices-same : (D E : List TextRange) → SameDomain D E → indices (values_of D) ≡ indices (values_of E)
unfolding indices
indices-same D E same = ap tuples (members-same D E same)

pub DomainsAlike-same : (D E : List TextRange) → SameDomain D E → DomainsAlike D E
DomainsAlike-same D E same =
    let is = indices-same D E same in
    record {
      rank = rank-same D E same;
      dim = λ d. dim-same D E d same;
      list = is;
      size = ap length is;
      contains = λ t. ((λ h. subst (λ ts. Contains ts t) is h), (λ h. subst (λ ts. Contains ts t) (sym is) h));
    }

-- each range of a domain is one of the language, within its limits
abbrev pub AreTextRanges : List TextRange → Type 0
AreTextRanges [] = Unit {0}
AreTextRanges (r ∷ rs) = IsTextRange r × IsRange r.value × AreTextRanges rs

abbrev pub AllBounds : List (ℤ × ℤ) → Type 0
AllBounds [] = Unit {0}
AllBounds (b ∷ bs) = AreBounds b × AllBounds bs

-- slices of equal domains are equal
pub SameDomain-sliced : (D E : List TextRange) (bounds : List (ℤ × ℤ)) → AreTextRanges D → AreTextRanges E → AllBounds bounds → SameDomain D E → SameDomain (text_sliced_by D bounds) (text_sliced_by E bounds)
SameDomain-sliced [] [] [] in_D in_E within same = tt
SameDomain-sliced [] [] (b ∷ bs) in_D in_E within same = tt
SameDomain-sliced [] (s ∷ ss) bounds in_D in_E within same = absurd same
SameDomain-sliced (r ∷ rs) [] bounds in_D in_E within same = absurd same
SameDomain-sliced (r ∷ rs) (s ∷ ss) [] in_D in_E within same = tt
SameDomain-sliced (r ∷ rs) (s ∷ ss) (b ∷ bs) in_D in_E within same = (
  SameRange-sliced r s b.0 b.1 in_D.0 in_E.0 in_D.1 in_E.1 within.0.0 within.0.1 same.0,
  SameDomain-sliced rs ss bs in_D.2 in_E.2 within.1 same.1,
)

-- two unstrided domains that are equal have one value, so what they are expanded to is one too
pub values_of-same : (D E : List TextRange) → AreTextRanges D → AreTextRanges E → IsUnstrided D → IsUnstrided E → SameDomain D E → values_of D ≡ values_of E
values_of-same [] [] in_D in_E D_plain E_plain same = refl
values_of-same [] (s ∷ ss) in_D in_E D_plain E_plain same = absurd same
values_of-same (r ∷ rs) [] in_D in_E D_plain E_plain same = absurd same
values_of-same (r ∷ rs) (s ∷ ss) in_D in_E D_plain E_plain same =
    let low : r.value.low ≡ s.value.low = same.0.low D_plain.0 E_plain.0 in
    let high : r.value.high ≡ s.value.high = same.0.high D_plain.0 E_plain.0 in
    let stride : r.value.stride ≡ s.value.stride = in_D.0 D_plain.0 ∙ sym (in_E.0 E_plain.0) in
    ap (λ vs. r.value ∷ vs) (values_of-same rs ss in_D.2 in_E.2 D_plain.1 E_plain.1 same.1)
    ∙ ap (λ (i : ℤ). record { low = i; high = r.value.high; stride = r.value.stride } ∷ values_of ss) low
    ∙ ap (λ (i : ℤ). record { low = s.value.low; high = i; stride = r.value.stride } ∷ values_of ss) high
    ∙ ap (λ (i : ℤ). record { low = s.value.low; high = s.value.high; stride = i } ∷ values_of ss) stride

pub expanded-same : (D E : List TextRange) (k : ℤ) → AreTextRanges D → AreTextRanges E → IsUnstrided D → IsUnstrided E → SameDomain D E → expanded k (values_of D) ≡ expanded k (values_of E)
expanded-same D E k in_D in_E D_plain E_plain same = ap (expanded k) (values_of-same D E in_D in_E D_plain E_plain same)
