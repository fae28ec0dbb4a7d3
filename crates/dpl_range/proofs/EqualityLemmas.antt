-- Equal ranges are told apart by no function of the language: what it answers goes by the members, and the slices of
-- equal ranges are equal.
use Rattle.std.proofs.Common.{◌≡◌, ℕ, ◌-◌, List, length, ap, sym, ◌∙◌, refl, ℤ, ◌≤ℤ◌, slice_get, All, Contains, ◌↔◌, subst, filter, int_le, ◌&&◌}
use Rattle.std.specs.Int.{int_max, int_min}
use Rattle.dpl_sets.specs.Ranges.{RangeValue, members_of, IsBound}
use Rattle.dpl_sets.specs.RangeSlices.{members_within}
use Rattle.dpl_sets.specs.TextRanges.{TextRange, IsTextRange, SameRange, text_sliced}
use Rattle.dpl_range.specs.Invariant.{IsRange}
use Rattle.dpl_range.proofs.SliceLemmas.{members-sliced, sliced-unit}

-- a member that no other is below, and one that no other is above
abbrev pub IsLeast : List ℤ → ℤ → Type 0
IsLeast is i = Contains is i × All (λ j. i ≤ℤ j) is

abbrev pub IsGreatest : List ℤ → ℤ → Type 0
IsGreatest is i = Contains is i × All (λ j. j ≤ℤ i) is

-- what the language asks of a range is the same of both
pub record AnswersAlike (r s : RangeValue) : Type 0 where
  pub size : length (members_of r) ≡ length (members_of s)
  pub nth : (k : ℕ) → slice_get (members_of r) k ≡ slice_get (members_of s) k
  pub contains : (i : ℤ) → Contains (members_of r) i ↔ Contains (members_of s) i
  pub first : slice_get (members_of r) 0 ≡ slice_get (members_of s) 0
  pub last : slice_get (members_of r) (length (members_of r) - 1) ≡ slice_get (members_of s) (length (members_of s) - 1)
  pub low : (i : ℤ) → IsLeast (members_of r) i ↔ IsLeast (members_of s) i
  pub high : (i : ℤ) → IsGreatest (members_of r) i ↔ IsGreatest (members_of s) i
  pub slice : (low high : ℤ) → members_within low high r ≡ members_within low high s

by_members : (P : List ℤ → Type 0) (is js : List ℤ) → is ≡ js → P is ↔ P js
by_members P is js same = ((λ h. subst P same h), (λ h. subst P (sym same) h))

pub AnswersAlike-same : (r s : TextRange) → SameRange r s → AnswersAlike r.value s.value
AnswersAlike-same r s same =
    record {
      size = ap length same.members;
      nth = λ k. ap (λ is. slice_get is k) same.members;
      contains = λ i. by_members (λ is. Contains is i) _ _ same.members;
      first = ap (λ is. slice_get is 0) same.members;
      last = ap (λ is. slice_get is (length is - 1)) same.members;
      low = λ i. by_members (λ is. IsLeast is i) _ _ same.members;
      high = λ i. by_members (λ is. IsGreatest is i) _ _ same.members;
      slice = λ low high. ap (filter (λ i. int_le low i && int_le i high)) same.members;
    }

-- every range is equal to itself, and equality goes both ways
pub SameRange-self : (r : TextRange) → SameRange r r
SameRange-self r = record { members = refl; low = λ _ _. refl; high = λ _ _. refl }

pub SameRange-turned : (r s : TextRange) → SameRange r s → SameRange s r
SameRange-turned r s same =
    record { members = sym same.members; low = λ a b. sym (same.low b a); high = λ a b. sym (same.high b a) }

-- slices of equal ranges are equal
pub SameRange-sliced : (r s : TextRange) (low high : ℤ) → IsTextRange r → IsTextRange s → IsRange r.value → IsRange s.value → IsBound low → IsBound high → SameRange r s → SameRange (text_sliced low high r) (text_sliced low high s)
SameRange-sliced r s low high r_text s_text r_limits s_limits low_bound high_bound same =
    record {
      members =
          members-sliced r.value low high r_limits low_bound high_bound
          ∙ ap (filter (λ i. int_le low i && int_le i high)) same.members
          ∙ sym (members-sliced s.value low high s_limits low_bound high_bound);
      low = λ a b.
          ap (λ (v : RangeValue). v.low) (sym (sliced-unit r.value low high r_limits (r_text a)))
          ∙ ap (λ i. int_max i low) (same.low a b)
          ∙ ap (λ (v : RangeValue). v.low) (sliced-unit s.value low high s_limits (s_text b));
      high = λ a b.
          ap (λ (v : RangeValue). v.high) (sym (sliced-unit r.value low high r_limits (r_text a)))
          ∙ ap (λ i. int_min i high) (same.high a b)
          ∙ ap (λ (v : RangeValue). v.high) (sliced-unit s.value low high s_limits (s_text b));
    }
