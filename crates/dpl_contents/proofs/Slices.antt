-- The slices of a domain, dimension by dimension.
use Rattle.std.proofs.Common.{◌≡◌, ◌≤◌, ℕ, ◌*◌, List, [], ◌∷◌, length, drop, ℤ, refl, ap, sym, ◌∙◌, arith}
use Rattle.std.proofs.lemmas.Nat.{mul-le}
use Rattle.dpl_sets.specs.Ranges.{RangeValue, members_of}
use Rattle.dpl_range.specs.Invariant.{IsRange}
use Rattle.dpl_sets.specs.TextRanges.{TextRange}
use Rattle.dpl_sets.specs.RangeSlices.{members_within}
use Rattle.dpl_domain.proofs.PlaceLemmas.{length-filter_le}
use Rattle.dpl_language.specs.Ranges.{count_in, all_sliced, range_sliced}
use Rattle.dpl_contents.specs.Flags.{flagged}
use Rattle.dpl_contents.proofs.Sizes.{count_in-is}

all_sliced-none : (rs : List TextRange) → all_sliced rs [] ≡ rs
all_sliced-none [] = refl
all_sliced-none (r ∷ rs) = refl

-- the first range goes by the first cut, the others by the others
pub all_sliced-first : (r : TextRange) (rs cuts : List TextRange) → all_sliced (r ∷ rs) cuts ≡ range_sliced r cuts ∷ all_sliced rs (drop 1 cuts)
all_sliced-first r rs [] = ap (λ more. r ∷ more) (sym (all_sliced-none rs))
all_sliced-first r rs (cut ∷ cuts) = refl

pub all_sliced-line : (z : TextRange) (cuts : List TextRange) → all_sliced (z ∷ []) cuts ≡ range_sliced z cuts ∷ []
all_sliced-line z cuts = all_sliced-first z [] cuts

pub all_sliced-plane : (y z : TextRange) (cuts : List TextRange) → all_sliced (y ∷ z ∷ []) cuts ≡ range_sliced y cuts ∷ range_sliced z (drop 1 cuts) ∷ []
all_sliced-plane y z cuts = all_sliced-first y (z ∷ []) cuts ∙ ap (λ more. range_sliced y cuts ∷ more) (all_sliced-line z (drop 1 cuts))

pub all_sliced-space : (x y z : TextRange) (cuts : List TextRange) → all_sliced (x ∷ y ∷ z ∷ []) cuts ≡ range_sliced x cuts ∷ range_sliced y (drop 1 cuts) ∷ range_sliced z (drop 1 (drop 1 cuts)) ∷ []
all_sliced-space x y z cuts = all_sliced-first x (y ∷ z ∷ []) cuts ∙ ap (λ more. range_sliced x cuts ∷ more) (all_sliced-plane y z (drop 1 cuts))

-- a slice has no more members than its range
pub count_in-slice : (r : TextRange) (from slice : RangeValue) (low high : ℤ) → from ≡ r.value → IsRange r.value → IsRange slice → members_of slice ≡ members_within low high from → count_in (flagged slice r.strided) ≤ count_in r
count_in-slice r from slice low high same whole_limits limits members =
    let kept : length (members_of slice) ≤ length (members_of from) = rw members (length-filter_le _ (members_of from)) in
    let whole : length (members_of from) ≡ length (members_of r.value) = ap (λ v. length (members_of v)) same in
    omega (arith, count_in-is (flagged slice r.strided) limits, count_in-is r whole_limits)

-- so the slices of a domain have no more indices
pub product-le : (a b c x y z : ℕ) → a ≤ x → b ≤ y → c ≤ z → a * (b * (c * 1)) ≤ x * (y * (z * 1))
product-le a b c x y z first second third = mul-le a (b * (c * 1)) x (y * (z * 1)) first (mul-le b (c * 1) y (z * 1) second (mul-le c 1 z 1 third (omega arith)))
