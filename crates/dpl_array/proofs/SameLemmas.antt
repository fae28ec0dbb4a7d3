-- When two ranges and two domains are equal in the language.
-- Members are told by their number, the first of them and the stride.
use Rattle.std.proofs.Common.{◌≡◌, ◌<◌, ◌≤◌, ℕ, zero, suc, ℤ, pos, ◌+ℤ◌, List, [], ◌∷◌, length, slice_get, not, true, false, Bool, Option, Some, None, FitsSigned, w64, refl, ap, sym, subst, ◌∙◌, arith, ⊎_elim}
use Rattle.std.specs.Ordering.{int_eq}
use Rattle.std.specs.Option.{option_eq}
use Rattle.std.proofs.lemmas.Int.{ints, to_z-of_z}
use mir.Val.{of_z, to_z}
use Rattle.std.proofs.lemmas.Bool.{cases_lt}
use Rattle.std.proofs.lemmas.Bool.Decides.{Decides-int_eq}
use Rattle.std.proofs.lemmas.Option.{same_Some}
use Rattle.dpl_sets.specs.Ranges.{RangeValue, members_of}
use Rattle.dpl_range.specs.Invariant.{IsRange}
use Rattle.dpl_sets.specs.TextRanges.{SameRange}
use Rattle.dpl_range.proofs.EqualityLemmas.{SameRange-self}
use Rattle.dpl_sets.specs.Indices.{indices}
use Rattle.dpl_sets.specs.TextDomains.{SameDomain, values_of}
use Rattle.dpl_domain.specs.Progression.{progression}
use Rattle.dpl_domain.specs.Ranks.{last_of, point, IsPadded}
use Rattle.dpl_domain.proofs.EqualityLemmas.{DomainsAlike-same}
use Rattle.dpl_domain.proofs.ProgressionLemmas.{progression-members}
use Rattle.dpl_array.specs.Same.{text_of, texts_of}

-- there is a first element, or none at all
first-or-none : (is : List ℤ) → 0 < length is → (i : ℤ) × (slice_get is 0 ≡ Some i)
first-or-none [] some = absurd (omega (arith, some))
first-or-none (i ∷ is) some = (i, refl)

nothing : (is : List ℤ) → length is ≡ 0 → is ≡ []
nothing [] none = refl
nothing (i ∷ is) none = absurd (omega (arith, none))

one-term : (first s t : ℤ) (n : ℕ) → 0 < n → n < 2 → progression first s n ≡ progression first t n
one-term first s t zero some few = absurd (omega (arith, some))
one-term first s t (suc zero) some few = refl
one-term first s t (suc (suc n)) some few = absurd (omega (arith, few))

second-term : (first step : ℤ) (n : ℕ) → 2 ≤ n → slice_get (progression first step n) 1 ≡ Some (first +ℤ step)
second-term first step zero some = absurd (omega (arith, some))
second-term first step (suc zero) some = absurd (omega (arith, some))
second-term first step (suc (suc n)) some = refl

module _ (r s : RangeValue) (r_limits : IsRange r) (s_limits : IsRange s) where
  -- ranges of one size with the same first member and the same stride, or with one member
  pub members-same : length (members_of r) ≡ length (members_of s) → slice_get (members_of r) 0 ≡ slice_get (members_of s) 0 → (2 ≤ length (members_of r) → r.stride ≡ s.stride) → members_of r ≡ members_of s
  members-same sizes firsts strides =
      ⊎_elim
      (λ (some : 0 < length (members_of r)).
      let at = first-or-none (members_of r) some in
      let r-is = progression-members r at.0 r_limits at.1 in
      let s-is = progression-members s at.0 s_limits (sym firsts ∙ at.1) in
      let steps : progression at.0 r.stride (length (members_of r)) ≡ progression at.0 s.stride (length (members_of r)) =
      ⊎_elim
      (λ (few : length (members_of r) < 2). one-term at.0 r.stride s.stride (length (members_of r)) some few)
      (λ (many : 2 ≤ length (members_of r)). ap (λ step. progression at.0 step (length (members_of r))) (strides many))
      (cases_lt (length (members_of r)) 2) in
      sym r-is ∙ steps ∙ ap (progression at.0 s.stride) sizes ∙ s-is)
      (λ (none : length (members_of r) ≤ 0).
      let empty : length (members_of r) ≡ 0 = omega (arith, none) in
      nothing (members_of r) empty ∙ sym (nothing (members_of s) (sym sizes ∙ empty)))
      (cases_lt 0 (length (members_of r)))

  -- and no others
  pub strides-same : members_of r ≡ members_of s → 2 ≤ length (members_of r) → r.stride ≡ s.stride
  strides-same same many =
      let at = first-or-none (members_of r) (omega (arith, many)) in
      let r-is = progression-members r at.0 r_limits at.1 in
      let s-is = progression-members s at.0 s_limits (ap (λ is. slice_get is 0) (sym same) ∙ at.1) in
      let length-same : length (members_of r) ≡ length (members_of s) = ap length same in
      let r-second = sym (second-term at.0 r.stride (length (members_of r)) many) ∙ ap (λ is. slice_get is 1) r-is in
      let s-second = sym (second-term at.0 s.stride (length (members_of s)) (omega (arith, many, length-same))) ∙ ap (λ is. slice_get is 1) s-is in
      let e : at.0 +ℤ r.stride ≡ at.0 +ℤ s.stride = same_Some (at.0 +ℤ r.stride) (at.0 +ℤ s.stride) (r-second ∙ ap (λ is. slice_get is 1) same ∙ sym s-second) in
      omega (arith, ints, e)

-- a stride is 1 or not, and so a range counts as unstrided or not
pub unit-text : (r : RangeValue) → r.stride ≡ pos 1 → (text_of r).strided ≡ false
unit-text r unit = ap not ((Decides-int_eq r.stride (pos 1)).1 unit)

pub text-unit : (r : RangeValue) → (text_of r).strided ≡ false → r.stride ≡ pos 1
text-unit r plain = (Decides-int_eq r.stride (pos 1)).0 (turned (int_eq r.stride (pos 1)) plain)
  where
    turned : (b : Bool) → not b ≡ false → b ≡ true
    turned true e = refl
    turned false e = absurd (let f : true ≡ false = e in cc)

values-texts : (ranges : List RangeValue) → values_of (texts_of ranges) ≡ ranges
values-texts [] = refl
values-texts (r ∷ rs) = ap (λ ss. r ∷ ss) (values-texts rs)

-- equal domains have the same indices
pub same-indices : (d e : List RangeValue) → SameDomain (texts_of d) (texts_of e) → indices d ≡ indices e
same-indices d e same =
    ap indices (sym (values-texts d)) ∙ (DomainsAlike-same (texts_of d) (texts_of e) same).list ∙ ap indices (values-texts e)

same-self : (r s : RangeValue) → r ≡ s → SameRange (text_of r) (text_of s)
same-self r s same = subst (λ q. SameRange (text_of r) (text_of q)) same (SameRange-self (text_of r))

-- two domains of one rank, range by range
pub same-ranges : (n : ℕ) (o m i p q s : RangeValue) → IsPadded point n o m → IsPadded point n p q → SameRange (text_of o) (text_of p) → SameRange (text_of m) (text_of q) → SameRange (text_of i) (text_of s) → SameDomain (texts_of (last_of n o m i)) (texts_of (last_of n p q s))
same-ranges zero o m i p q s one other first second third = absurd (omega (arith, one.from_one))
same-ranges (suc zero) o m i p q s one other first second third = (third, tt)
same-ranges (suc (suc zero)) o m i p q s one other first second third = (second, (third, tt))
same-ranges (suc (suc (suc zero))) o m i p q s one other first second third = (first, (second, (third, tt)))
same-ranges (suc (suc (suc (suc n)))) o m i p q s one other first second third = absurd (omega (arith, one.to_three))

pub ranges-same : (n : ℕ) (o m i p q s : RangeValue) → IsPadded point n o m → IsPadded point n p q → SameDomain (texts_of (last_of n o m i)) (texts_of (last_of n p q s)) → SameRange (text_of o) (text_of p) × SameRange (text_of m) (text_of q) × SameRange (text_of i) (text_of s)
ranges-same zero o m i p q s one other same = absurd (omega (arith, one.from_one))
ranges-same (suc zero) o m i p q s one other same =
    (same-self o p (one.first (omega arith) ∙ sym (other.first (omega arith))), same-self m q (one.second (omega arith) ∙ sym (other.second (omega arith))), same.0)
ranges-same (suc (suc zero)) o m i p q s one other same =
    (same-self o p (one.first (omega arith) ∙ sym (other.first (omega arith))), same.0, same.1.0)
ranges-same (suc (suc (suc zero))) o m i p q s one other same = (same.0, same.1.0, same.1.1.0)
ranges-same (suc (suc (suc (suc n)))) o m i p q s one other same = absurd (omega (arith, one.to_three))

-- equal domains have one rank
pub same-rank : (d e : List RangeValue) → SameDomain (texts_of d) (texts_of e) → length d ≡ length e
same-rank [] [] same = refl
same-rank [] (r ∷ rs) same = absurd same
same-rank (r ∷ rs) [] same = absurd same
same-rank (r ∷ rs) (s ∷ ss) same = ap suc (same-rank rs ss same.1)

-- what two domains of three ranges each are
module _ (d e : List RangeValue) (o m i p q s : RangeValue) (rank : length d ≡ length e) (d-is : d ≡ last_of (length d) o m i) (e-is : e ≡ last_of (length e) p q s) (one : IsPadded point (length d) o m) (other : IsPadded point (length e) p q) where
  other-padded : IsPadded point (length d) p q
  other-padded = subst (λ n. IsPadded point n p q) (sym rank) other

  other-is : last_of (length d) p q s ≡ e
  other-is = ap (λ n. last_of n p q s) rank ∙ sym e-is

  pub domain-same : SameRange (text_of o) (text_of p) → SameRange (text_of m) (text_of q) → SameRange (text_of i) (text_of s) → SameDomain (texts_of d) (texts_of e)
  domain-same first second third =
      let same = same-ranges (length d) o m i p q s one other-padded first second third in
      subst (λ f. SameDomain (texts_of d) (texts_of f)) other-is (subst (λ f. SameDomain (texts_of f) (texts_of (last_of (length d) p q s))) (sym d-is) same)

  pub same-domain : SameDomain (texts_of d) (texts_of e) → SameRange (text_of o) (text_of p) × SameRange (text_of m) (text_of q) × SameRange (text_of i) (text_of s)
  same-domain same =
      ranges-same (length d) o m i p q s one other-padded
      (subst (λ f. SameDomain (texts_of f) (texts_of (last_of (length d) p q s))) d-is (subst (λ f. SameDomain (texts_of d) (texts_of f)) (sym other-is) same))

-- what tests of machine numbers and of options say
pub words-same : (a b : ℤ) → FitsSigned w64 a → FitsSigned w64 b → of_z w64 a ≡ of_z w64 b → a ≡ b
words-same a b fits_a fits_b same = sym (to_z-of_z w64 a fits_a) ∙ ap (to_z w64) same ∙ to_z-of_z w64 b fits_b

pub options-same : (o p : Option ℤ) → false ≡ not (option_eq int_eq o p) → o ≡ p
options-same None None same = refl
options-same None (Some j) same = cc
options-same (Some i) None same = cc
options-same (Some i) (Some j) same = ap Some ((Decides-int_eq i j).0 (turned (int_eq i j) same))
  where
    turned : (b : Bool) → false ≡ not b → b ≡ true
    turned true e = refl
    turned false e = absurd (let f : false ≡ true = e in cc)
