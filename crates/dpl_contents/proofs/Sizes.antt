-- How many members a range and how many indices a domain has, by the language's closed form and by their lists.
use Rattle.std.proofs.Common.{Bool, true, false, ℕ, ◌+◌, ◌-◌, ◌*◌, ◌/◌, ◌^◌, ◌≤◌, List, [], ◌∷◌, length, map, ℤ, pos, ◌-ℤ◌, ◌+ℤ◌, ◌<ℤ◌, unsigned_abs, int_lt}
use Rattle.std.proofs.Common.{◌≡◌, ◌↔◌, refl, ap, sym, subst, ◌∙◌, arith}
use Rattle.std.proofs.Math.Nat.{add-div_right, div-eq_of_lt}
use Rattle.std.proofs.lemmas.Bool.{ltb-false, le-ltb}
use Rattle.std.proofs.lemmas.Int.{ints, by_lt_z}
use Rattle.dpl_sets.specs.Ranges.{RangeValue, members_of}
use Rattle.dpl_range.specs.Invariant.{IsRange}
use Rattle.dpl_sets.specs.TextRanges.{TextRange}
use Rattle.dpl_range.proofs.MemberLemmas.{length-members, members-empty, span_of}
use Rattle.dpl_sets.specs.Indices.{tuples, indices, IsRank, IsSmall}
use Rattle.dpl_sets.specs.TextDomains.{values_of}
use Rattle.dpl_domain.proofs.TupleLemmas.{length-rows}
use Rattle.dpl_language.specs.Ranges.{span, count_in, size_in, too_many, too_large}
use Rattle.dpl_contents.specs.declared.parts.Parts.{Parts}
use Rattle.dpl_contents.specs.declared.parts.Parts.TheVariants.{Line, Plane, Space}
use Rattle.dpl_contents.specs.Parts.{ranges_of}
use Rattle.dpl_contents.specs.Domains.{AreWritten, IsFlagged, text_ranges}

-- the integers from one bound to another, where the second is not below the first
span-is : (low high : ℤ) (n : ℕ) → low +ℤ pos n ≡ high → span low high ≡ n + 1
span-is low high n e =
    let ordered : int_lt high low ≡ false = grind (arith, ints) in
    let far : high -ℤ low ≡ pos n = omega (arith, ints) in
    rw (ordered, far) refl

span-empty : (low high : ℤ) → high <ℤ low → span low high ≡ 0
span-empty low high below = let apart : int_lt high low ≡ true = grind (arith, ints) in rw apart refl

-- how many members a range has, rounded up from its span
pub count_in-is : (r : TextRange) → IsRange r.value → count_in r ≡ length (members_of r.value)
count_in-is r limits =
    let step = unsigned_abs r.value.stride in
    by_lt_z r.value.high r.value.low
    (λ below.
    rw (span-empty r.value.low r.value.high below, members-empty r.value.low r.value.high r.value.stride below)
    (div-eq_of_lt (omega (arith, limits.stride_is_not_zero))))
    (λ ordered. let d = span_of r.value.low r.value.high ordered in
    let whole : d.0 + 1 + (step - 1) ≡ d.0 + step = omega (arith, limits.stride_is_not_zero) in
    ap (λ n. (n + (step - 1)) / step) (span-is r.value.low r.value.high d.0 d.1)
    ∙ ap (λ n. n / step) whole
    ∙ add-div_right d.0 limits.stride_is_not_zero
    ∙ sym (length-members r.value.low r.value.high r.value.stride d.0 step d.1 refl limits.stride_is_not_zero))

-- how many indices a domain has
pub size_in-is : (rs : List TextRange) → AreWritten (values_of rs) → size_in rs ≡ length (indices (values_of rs))
unfolding indices
size_in-is [] written = refl
size_in-is (r ∷ rs) written =
    ap (λ n. n * size_in rs) (count_in-is r written.0)
    ∙ ap (λ n. length (members_of r.value) * n) (size_in-is rs written.2)
    ∙ sym (length-rows (members_of r.value) (tuples (map members_of (values_of rs))))

-- which of them are not too many, for a domain and for an array
pub too_many-small : (rs : List TextRange) → AreWritten (values_of rs) → (too_many rs ≡ false) ↔ IsSmall (values_of rs)
too_many-small rs written = (
  (λ few. omega (arith, size_in-is rs written, ltb-false (2 ^ 40) (size_in rs) few)),
  (λ small. le-ltb (2 ^ 40) (size_in rs) (omega (arith, size_in-is rs written))),
)

pub too_large-small : (rs : List TextRange) → AreWritten (values_of rs) → (too_large rs ≡ false) ↔ (length (indices (values_of rs)) ≤ 2 ^ 24)
too_large-small rs written = (
  (λ few. omega (arith, size_in-is rs written, ltb-false (2 ^ 24) (size_in rs) few)),
  (λ small. le-ltb (2 ^ 24) (size_in rs) (omega (arith, size_in-is rs written))),
)

-- of a range alone
pub size_in-one : (r : TextRange) → size_in (r ∷ []) ≡ count_in r
size_in-one r = omega arith

-- WHAT A DOMAIN KEEPS
pub values_of-text_ranges : (ranges : List RangeValue) (outer middle inner : Bool) → IsFlagged ranges outer middle → values_of (text_ranges ranges outer middle inner) ≡ ranges
values_of-text_ranges [] outer middle inner flags = refl
values_of-text_ranges (z ∷ []) outer middle inner flags = refl
values_of-text_ranges (y ∷ z ∷ []) outer middle inner flags = refl
values_of-text_ranges (x ∷ y ∷ z ∷ []) outer middle inner flags = refl
values_of-text_ranges (x ∷ y ∷ z ∷ w ∷ more) outer middle inner flags = absurd (omega (arith, flags.padded.to_three))

pub size_in-text_ranges : (ranges : List RangeValue) (outer middle inner : Bool) (rs : List TextRange) → IsFlagged ranges outer middle → text_ranges ranges outer middle inner ≡ rs → size_in rs ≡ length (indices ranges)
size_in-text_ranges ranges outer middle inner rs flags are =
    let values = values_of-text_ranges ranges outer middle inner flags in
    ap size_in (sym are)
    ∙ size_in-is (text_ranges ranges outer middle inner) (subst AreWritten (sym values) flags.written)
    ∙ ap (λ vs. length (indices vs)) values

pub values_of-seen : (ranges : List RangeValue) (outer middle inner : Bool) (rs : List TextRange) → IsFlagged ranges outer middle → text_ranges ranges outer middle inner ≡ rs → ranges ≡ values_of rs
values_of-seen ranges outer middle inner rs flags are = sym (values_of-text_ranges ranges outer middle inner flags) ∙ ap values_of are

-- THE TEST OF A DOMAIN: whether one is made says whether its indices are few enough
rank-is : (parts : Parts) → IsRank (values_of (ranges_of parts))
rank-is (Line z) = (omega arith, omega arith)
rank-is (Plane y z) = (omega arith, omega arith)
rank-is (Space x y z) = (omega arith, omega arith)

pub domain-decides : (parts : Parts) (some made : Bool) (vs : List RangeValue) → some ≡ made → vs ≡ values_of (ranges_of parts) → AreWritten (values_of (ranges_of parts)) → (made ≡ true) ↔ (IsRank vs × IsSmall vs)
    → (some ≡ true) ↔ (too_many (ranges_of parts) ≡ false)
domain-decides parts some made vs same are written ok =
    let few = too_many-small (ranges_of parts) written in (
      (λ yes. few.1 (subst IsSmall are (ok.0 (sym same ∙ yes)).1)),
      (λ fits. same ∙ ok.1 (subst IsRank (sym are) (rank-is parts), subst IsSmall (sym are) (few.0 fits))),
    )
