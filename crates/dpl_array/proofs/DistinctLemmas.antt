-- Lists in which no element stands at two places: the indices of a domain, and the row of a part's domains.
-- Where a row is that of one domain, it is the part itself.
use Rattle.std.proofs.Common.{◌≡◌, ◌<◌, ◌≤◌, ◌+◌, ◌==◌, ℕ, zero, suc, ℤ, List, [], ◌∷◌, length, filter, slice_get, Bool, true, false, cond, Some, IfSome, All, refl, ap, sym, subst, ◌∙◌, arith, append-nil, eq-eqb}
use Rattle.std.specs.List.{zip}
use Rattle.std.proofs.lemmas.Option.{same_Some, slice_get_within, get_or_from_slice_get}
use Rattle.dpl_sets.specs.Ranges.{RangeValue}
use Rattle.dpl_range.specs.Invariant.{IsRange}
use Rattle.dpl_sets.specs.Indices.{indices}
use Rattle.dpl_domain.specs.Ranks.{last_of}
use Rattle.dpl_domain.proofs.DistinctLemmas.{indices-distinct, AreRanges}
use Rattle.dpl_map.specs.Cuts.{AreCut}
use Rattle.dpl_map.specs.Maps.{AxisValue, owner}
use Rattle.dpl_map.specs.Orders.{StandsInOne}
use Rattle.dpl_map.specs.Parts.{part}
use Rattle.dpl_array.specs.Elements.{value_at, same_index, tabulated}
use Rattle.dpl_array.specs.Rows.{row_of, start_of, IsDistinct, StandsIn}
use Rattle.dpl_array.proofs.ElementLemmas.{not-same, same_index-refl, tabulated-same}
use Rattle.dpl_array.proofs.RowLemmas.{filter-stands, row-parts}

-- THE INDICES OF A DOMAIN
ranges-last_of : (rank : ℕ) (o m i : RangeValue) → IsRange o → IsRange m → IsRange i → AreRanges (last_of rank o m i)
ranges-last_of zero o m i first second last = tt
ranges-last_of (suc zero) o m i first second last = (last, tt)
ranges-last_of (suc (suc zero)) o m i first second last = (second, (last, tt))
ranges-last_of (suc (suc (suc n))) o m i first second last = (first, (second, (last, tt)))

pub distinct-indices : (rank : ℕ) (o m i : RangeValue) → IsRange o → IsRange m → IsRange i → IsDistinct (indices (last_of rank o m i))
distinct-indices rank o m i first second last = indices-distinct (last_of rank o m i) (ranges-last_of rank o m i first second last)

module _ {X : Type 0} where
  pub distinct-tail : (x : X) (xs : List X) → IsDistinct (x ∷ xs) → IsDistinct xs
  distinct-tail x xs distinct j k y here there = let e : suc j ≡ suc k = distinct (suc j) (suc k) y here there in omega (arith, e)

  pub distinct-head : (x : X) (xs : List X) → IsDistinct (x ∷ xs) → StandsIn xs x → ⊥
  distinct-head x xs distinct at = let e : 0 ≡ suc at.0 = distinct 0 (suc at.0) x refl at.1 in absurd cc

  -- of what a filter keeps the places rise with those in the list
  distinct-filter : (p : X → Bool) (xs : List X) → IsDistinct xs → IsDistinct (filter p xs)
  distinct-filter p [] distinct = distinct
  distinct-filter p (x ∷ xs) distinct = by (p x) (distinct-filter p xs (distinct-tail x xs distinct))
    where
      once : (j : ℕ) → slice_get (filter p xs) j ≡ Some x → ⊥
      once j found = distinct-head x xs distinct (filter-stands p xs j x found)

      kept : IsDistinct (filter p xs) → IsDistinct (x ∷ filter p xs)
      kept rest zero zero y here there = refl
      kept rest zero (suc k) y here there = absurd (once k (there ∙ sym here))
      kept rest (suc j) zero y here there = absurd (once j (here ∙ sym there))
      kept rest (suc j) (suc k) y here there = ap suc (rest j k y here there)

      by : (b : Bool) → IsDistinct (filter p xs) → IsDistinct (cond b (x ∷ filter p xs) (filter p xs))
      by false rest = rest
      by true rest = kept rest

-- THE ROW OF A PART
pub distinct-part : (ranges : List RangeValue) (axes : List AxisValue) (locale : ℕ) → IsDistinct (indices ranges) → IsDistinct (part ranges axes locale)
unfolding part
distinct-part ranges axes locale distinct = distinct-filter (λ t. owner axes t == locale) (indices ranges) distinct

-- each index of a part stands in one of its domains, and there at one place
pub distinct-row : (ts : List (List ℤ)) (ds : List (List RangeValue)) → IsDistinct ts → AreCut indices ts ds → All (StandsInOne ds) ts → ((t : List ℤ) → StandsIn (row_of ds) t → StandsIn ts t) → IsDistinct (row_of ds)
distinct-row ts ds distinct cut apart same j k t here there =
    let a = row-parts ds j t here in
    let b = row-parts ds k t there in
    let at = same t (j, here) in
    let one : StandsInOne ds t = subst (StandsInOne ds) (get_or_from_slice_get ts at.0 t t at.1) (apart at.0 t (slice_get_within ts at.0 t at.1)) in
    let numbers : a.0 ≡ b.0 = one.2 a.0 (a.1, a.2) ∙ sym (one.2 b.0 (b.1, b.2)) in
    let domains : a.2.0 ≡ b.2.0 = same_Some a.2.0 b.2.0 (sym a.2.1 ∙ ap (slice_get ds) numbers ∙ b.2.1) in
    let lists : indices a.2.0 ≡ filter (λ x. cut.number x == a.0) ts = subst (λ o. IfSome o (λ d. indices d ≡ filter (λ x. cut.number x == a.0) ts)) a.2.1 (cut.listed a.0) in
    let once : IsDistinct (indices a.2.0) = subst IsDistinct (sym lists) (distinct-filter (λ x. cut.number x == a.0) ts distinct) in
    let places : a.1 ≡ b.1 = once a.1 b.1 t a.2.2 (ap (λ d. slice_get (indices d) b.1) domains ∙ b.2.2) in
    a.3 ∙ ap (λ n. start_of ds n + a.1) numbers ∙ ap (λ n. start_of ds b.0 + n) places ∙ sym b.3

filter-all : {X : Type 0} (p : X → Bool) (xs : List X) → ((k : ℕ) (x : X) → slice_get xs k ≡ Some x → p x ≡ true) → filter p xs ≡ xs
filter-all p [] each = refl
filter-all p (x ∷ xs) each = rw (each 0 x refl) (ap (λ ys. x ∷ ys) (filter-all p xs (λ k y found. each (suc k) y found)))

-- where there is one domain at most, the row is the part
pub row-one : (ts : List (List ℤ)) (ds : List (List RangeValue)) → AreCut indices ts ds → length ds ≤ 1 → row_of ds ≡ ts
row-one [] [] cut few = refl
row-one (t ∷ ts) [] cut few = let below = cut.numbered 0 t (omega arith) in absurd (omega (arith, below))
row-one ts (d ∷ []) cut few =
    append-nil (indices d) ∙ cut.listed 0
    ∙ filter-all (λ x. cut.number x == 0) ts (λ k x found. let below : cut.number x < 1 = subst (λ y. cut.number y < 1) (get_or_from_slice_get ts k x x found) (cut.numbered k x (slice_get_within ts k x found)) in eq-eqb (cut.number x) 0 (omega (arith, below)))
row-one ts (d ∷ e ∷ ds) cut few = absurd (omega (arith, few))

-- KEYS AND VALUES SIDE BY SIDE
module _ {T : Type 0} where
  -- where no key stands twice, each key has its own value
  pub tabulated-zip : (ks : List (List ℤ)) (vs : List T) → length vs ≡ length ks → IsDistinct ks → tabulated ks (λ t. value_at t (zip ks vs)) ≡ zip ks vs
  tabulated-zip [] vs long distinct = refl
  tabulated-zip (k ∷ ks) [] long distinct = absurd (omega (arith, long))
  tabulated-zip (k ∷ ks) (v ∷ vs) long distinct =
      rw (same_index-refl k)
      (ap (λ es. (k, v) ∷ es)
      (tabulated-same ks (λ t. value_at t ((k, v) ∷ zip ks vs)) (λ t. value_at t (zip ks vs)) later
      ∙ tabulated-zip ks vs (omega (arith, long)) (distinct-tail k ks distinct)))
    where
      later : (t : List ℤ) → StandsIn ks t → value_at t ((k, v) ∷ zip ks vs) ≡ value_at t (zip ks vs)
      later t at =
          let other : same_index t k ≡ false = not-same t k (λ same. distinct-head k ks distinct (subst (StandsIn ks) same at)) in
          rw other
