-- Turns whose coordinate in one dimension lies between two numbers, and turns between two corners.
-- A tuple of a product takes each coordinate from its own list.
use Rattle.std.proofs.Common.{◌≡◌, ◌↔◌, ◌<◌, ◌≤◌, ◌&&◌, ℕ, zero, suc, ℤ, pos, negsuc, ◌≤ℤ◌, ◌+ℤ◌, List, [], ◌∷◌, map, filter, length, slice_index_or, Bool, true, int_le, All, FitsSigned, ap, sym, subst, arith}
use Rattle.std.specs.Int.{w64}
use Rattle.std.proofs.lemmas.Int.{ints, int_wrap_fits}
use Rattle.std.proofs.lemmas.Option.{slice_get_within, get_or_from_slice_get}
use Rattle.dpl_sets.specs.Ranges.{RangeValue, members_of, IsBound}
use Rattle.dpl_range.specs.Invariant.{IsRange}
use Rattle.dpl_sets.specs.RangeSlices.{members_within}
use Rattle.dpl_range.proofs.Ends.{Contains-slice_get}
use Rattle.dpl_sets.specs.Indices.{tuples, indices, IsSmall}
use Rattle.dpl_sets.specs.declared.subscript.Subscript.{Subscript}
use Rattle.dpl_domain.specs.Ranks.{last_of, point, IsPadded}
use Rattle.dpl_domain.proofs.PlaceLemmas.{fewer-indices, length-filter_le}
use Rattle.dpl_map.specs.Boxes.{AreBetween}
use Rattle.dpl_map.proofs.AxisLemmas.{between-test, test-between}
use Rattle.dpl_map.proofs.BoxLemmas.{IsBound-member}
use Rattle.dpl_array.proofs.Behind.{fits-between}
use Rattle.dpl_array.specs.Rows.{StandsIn}
use Rattle.dpl_array.proofs.RowLemmas.{filter-stands}
use Rattle.dpl_array.proofs.UnionLemmas.{filter-test, stands-filter}
use Rattle.dpl_halo.specs.Turns.{IsNarrowed, AreCorners, KeepsSubscript, KeepsShift}
use Rattle.dpl_halo.proofs.ListedLemmas.{stands-flat, flat-stands, stands-map, map-stands}

-- THE TUPLES OF A PRODUCT
tuples-parts : (is : List ℤ) (rest : List (List ℤ)) (t : List ℤ) → StandsIn (tuples (is ∷ rest)) t → (i : ℤ) × (s : List ℤ) × StandsIn is i × StandsIn (tuples rest) s × (i ∷ s ≡ t)
tuples-parts is rest t at =
    let row = flat-stands (λ i. map (λ s. i ∷ s) (tuples rest)) is t at in
    let tuple = map-stands (λ s. row.0 ∷ s) (tuples rest) t row.2 in
    (row.0, tuple.0, row.1, tuple.1, tuple.2)

parts-tuples : (is : List ℤ) (rest : List (List ℤ)) (i : ℤ) (s : List ℤ) → StandsIn is i → StandsIn (tuples rest) s → StandsIn (tuples (is ∷ rest)) (i ∷ s)
parts-tuples is rest i s first others = stands-flat (λ i. map (λ s. i ∷ s) (tuples rest)) is i (i ∷ s) first (stands-map (λ s. i ∷ s) (tuples rest) s others)

-- of several lists one is filtered
abbrev pub kept_in : ℕ → (ℤ → Bool) → List (List ℤ) → List (List ℤ)
kept_in d p [] = []
kept_in zero p (is ∷ rest) = filter p is ∷ rest
kept_in (suc d) p (is ∷ rest) = is ∷ kept_in d p rest

-- then the tuples are those whose coordinate passes
tuples-kept : (d : ℕ) (p : ℤ → Bool) (iss : List (List ℤ)) (t : List ℤ) → d < length iss → StandsIn (tuples (kept_in d p iss)) t ↔ (StandsIn (tuples iss) t × (p (slice_index_or t d (pos 0)) ≡ true))
tuples-kept d p [] t within = absurd (omega (arith, within))
tuples-kept zero p (is ∷ rest) t within = (
  (λ at.
      let tuple = tuples-parts (filter p is) rest t at in
      let passes = filter-test p is tuple.2.0 tuple.0 tuple.2.1 in
      let first = filter-stands p is tuple.2.0 tuple.0 tuple.2.1 in (
        subst (StandsIn (tuples (is ∷ rest))) tuple.4 (parts-tuples is rest tuple.0 tuple.1 first tuple.3),
        subst (λ u. p (slice_index_or u 0 (pos 0)) ≡ true) tuple.4 passes,
      )),
  (λ both.
      let tuple = tuples-parts is rest t both.0 in
      let passes : p tuple.0 ≡ true = subst (λ u. p (slice_index_or u 0 (pos 0)) ≡ true) (sym tuple.4) both.1 in
      subst (StandsIn (tuples (filter p is ∷ rest))) tuple.4 (parts-tuples (filter p is) rest tuple.0 tuple.1 (stands-filter p is tuple.0 passes tuple.2) tuple.3)),
)
tuples-kept (suc d) p (is ∷ rest) t within = (
  (λ at.
      let tuple = tuples-parts is (kept_in d p rest) t at in
      let others = (tuples-kept d p rest tuple.1 (omega (arith, within))).0 tuple.3 in (
        subst (StandsIn (tuples (is ∷ rest))) tuple.4 (parts-tuples is rest tuple.0 tuple.1 tuple.2 others.0),
        subst (λ u. p (slice_index_or u (suc d) (pos 0)) ≡ true) tuple.4 others.1,
      )),
  (λ both.
      let tuple = tuples-parts is rest t both.0 in
      let passes : p (slice_index_or tuple.1 d (pos 0)) ≡ true = subst (λ u. p (slice_index_or u (suc d) (pos 0)) ≡ true) (sym tuple.4) both.1 in
      let others = (tuples-kept d p rest tuple.1 (omega (arith, within))).1 (tuple.3, passes) in
      subst (StandsIn (tuples (is ∷ kept_in d p rest))) tuple.4 (parts-tuples is (kept_in d p rest) tuple.0 tuple.1 tuple.2 others)),
)

-- ONE DIMENSION OF A DOMAIN
module _ (d : ℕ) (low high : ℤ) (whole some : List RangeValue) where
  within_test : ℤ → Bool
  within_test i = int_le low i && int_le i high

  pub narrowed-is : d < length (map members_of whole) → map members_of some ≡ kept_in d (λ i. int_le low i && int_le i high) (map members_of whole) → IsNarrowed d low high whole some
  unfolding indices
  narrowed-is below is t = (
    (λ at.
        let both = (tuples-kept d (λ i. int_le low i && int_le i high) (map members_of whole) t below).0 (subst (λ iss. StandsIn (tuples iss) t) is at) in
        let bounds = test-between low high (slice_index_or t d (pos 0)) both.1 in
        (both.0, bounds.0, bounds.1)),
    (λ all. subst (λ iss. StandsIn (tuples iss) t) (sym is) ((tuples-kept d (λ i. int_le low i && int_le i high) (map members_of whole) t below).1 (all.0, between-test low high (slice_index_or t d (pos 0)) (all.1, all.2)))),
  )

-- the coordinates of an index are within the limits of ranges
bounded-zero : IsBound (pos 0)
bounded-zero = (omega (arith, ints), omega (arith, ints))

bounded-member : (r : RangeValue) (i : ℤ) → IsRange r → StandsIn (members_of r) i → IsBound i
bounded-member r i limits at = IsBound-member r i limits (Contains-slice_get (members_of r) at.0 i at.1)

bounded-nil : (t : List ℤ) (d : ℕ) → StandsIn (tuples []) t → IsBound (slice_index_or t d (pos 0))
bounded-nil [] d at = bounded-zero
bounded-nil (i ∷ t) d (zero, found) = absurd cc
bounded-nil (i ∷ t) d (suc k, found) = absurd cc

bounded-more : (r : RangeValue) (rest : List (List ℤ)) (limits : IsRange r) → ((s : List ℤ) (d : ℕ) → StandsIn (tuples rest) s → IsBound (slice_index_or s d (pos 0))) → (t : List ℤ) (d : ℕ) → StandsIn (tuples (members_of r ∷ rest)) t → IsBound (slice_index_or t d (pos 0))
bounded-more r rest limits others t d at =
    let tuple = tuples-parts (members_of r) rest t at in
    subst (λ u. IsBound (slice_index_or u d (pos 0))) tuple.4 (by d tuple.0 tuple.1 tuple.2 tuple.3)
  where
    by : (d : ℕ) (i : ℤ) (s : List ℤ) → StandsIn (members_of r) i → StandsIn (tuples rest) s → IsBound (slice_index_or (i ∷ s) d (pos 0))
    by zero i s first later = bounded-member r i limits first
    by (suc d) i s first later = others s d later

module _ (o m i : RangeValue) (first : IsRange o) (second : IsRange m) (third : IsRange i) where
  pub bounded : (rank : ℕ) (t : List ℤ) (d : ℕ) → StandsIn (indices (last_of rank o m i)) t → IsBound (slice_index_or t d (pos 0))
  unfolding indices
  bounded zero t d at = bounded-nil t d at
  bounded (suc zero) t d at = bounded-more i [] third bounded-nil t d at
  bounded (suc (suc zero)) t d at = bounded-more m (members_of i ∷ []) second (bounded-more i [] third bounded-nil) t d at
  bounded (suc (suc (suc n))) t d at = bounded-more o (members_of m ∷ members_of i ∷ []) first (bounded-more m (members_of i ∷ []) second (bounded-more i [] third bounded-nil)) t d at

-- one of three ranges is sliced
module _ (d rank : ℕ) (o m i : RangeValue) (low high : ℤ) (padded : IsPadded point rank o m) (small : IsSmall (last_of rank o m i)) where
  pub inner-narrowed : (s : RangeValue) → suc d ≡ rank → members_of s ≡ members_within low high i → IsNarrowed d low high (last_of rank o m i) (last_of rank o m s)
  inner-narrowed s last is = by rank d last padded.from_one padded.to_three
    where
      by : (rank d : ℕ) → suc d ≡ rank → 1 ≤ rank → rank ≤ 3 → IsNarrowed d low high (last_of rank o m i) (last_of rank o m s)
      by zero d last from to = absurd (omega (arith, from))
      by (suc zero) zero last from to = narrowed-is 0 low high (i ∷ []) (s ∷ []) (omega arith) (ap (λ is. is ∷ []) is)
      by (suc zero) (suc d) last from to = absurd (omega (arith, last))
      by (suc (suc zero)) zero last from to = absurd (omega (arith, last))
      by (suc (suc zero)) (suc zero) last from to = narrowed-is 1 low high (m ∷ i ∷ []) (m ∷ s ∷ []) (omega arith) (ap (λ is. members_of m ∷ is ∷ []) is)
      by (suc (suc zero)) (suc (suc d)) last from to = absurd (omega (arith, last))
      by (suc (suc (suc zero))) zero last from to = absurd (omega (arith, last))
      by (suc (suc (suc zero))) (suc zero) last from to = absurd (omega (arith, last))
      by (suc (suc (suc zero))) (suc (suc zero)) last from to = narrowed-is 2 low high (o ∷ m ∷ i ∷ []) (o ∷ m ∷ s ∷ []) (omega arith) (ap (λ is. members_of o ∷ members_of m ∷ is ∷ []) is)
      by (suc (suc (suc zero))) (suc (suc (suc d))) last from to = absurd (omega (arith, last))
      by (suc (suc (suc (suc n)))) d last from to = absurd (omega (arith, to))

  pub middle-narrowed : (s : RangeValue) → suc (suc d) ≡ rank → members_of s ≡ members_within low high m → IsNarrowed d low high (last_of rank o m i) (last_of rank o s i)
  middle-narrowed s last is = by rank d last padded.to_three
    where
      by : (rank d : ℕ) → suc (suc d) ≡ rank → rank ≤ 3 → IsNarrowed d low high (last_of rank o m i) (last_of rank o s i)
      by zero d last to = absurd (omega (arith, last))
      by (suc zero) d last to = absurd (omega (arith, last))
      by (suc (suc zero)) zero last to = narrowed-is 0 low high (m ∷ i ∷ []) (s ∷ i ∷ []) (omega arith) (ap (λ is. is ∷ members_of i ∷ []) is)
      by (suc (suc zero)) (suc d) last to = absurd (omega (arith, last))
      by (suc (suc (suc zero))) zero last to = absurd (omega (arith, last))
      by (suc (suc (suc zero))) (suc zero) last to = narrowed-is 1 low high (o ∷ m ∷ i ∷ []) (o ∷ s ∷ i ∷ []) (omega arith) (ap (λ is. members_of o ∷ is ∷ members_of i ∷ []) is)
      by (suc (suc (suc zero))) (suc (suc d)) last to = absurd (omega (arith, last))
      by (suc (suc (suc (suc n)))) d last to = absurd (omega (arith, to))

  pub outer-narrowed : (s : RangeValue) → suc (suc (suc d)) ≡ rank → members_of s ≡ members_within low high o → IsNarrowed d low high (last_of rank o m i) (last_of rank s m i)
  outer-narrowed s last is = by rank d last padded.to_three
    where
      by : (rank d : ℕ) → suc (suc (suc d)) ≡ rank → rank ≤ 3 → IsNarrowed d low high (last_of rank o m i) (last_of rank s m i)
      by zero d last to = absurd (omega (arith, last))
      by (suc zero) d last to = absurd (omega (arith, last))
      by (suc (suc zero)) d last to = absurd (omega (arith, last))
      by (suc (suc (suc zero))) zero last to = narrowed-is 0 low high (o ∷ m ∷ i ∷ []) (s ∷ m ∷ i ∷ []) (omega arith) (ap (λ is. is ∷ members_of m ∷ members_of i ∷ []) is)
      by (suc (suc (suc zero))) (suc d) last to = absurd (omega (arith, last))
      by (suc (suc (suc (suc n)))) d last to = absurd (omega (arith, to))

  fewer : (r s : RangeValue) → members_of s ≡ members_within low high r → length (members_of s) ≤ length (members_of r)
  fewer r s is = let kept = length-filter_le (λ i. int_le low i && int_le i high) (members_of r) in omega (arith, kept, ap length is)

  pub inner-small : (s : RangeValue) → members_of s ≡ members_within low high i → IsSmall (last_of rank o m s)
  inner-small s is = fewer-indices rank o m i o m s padded padded (omega arith) (omega arith) (fewer i s is) small

  pub middle-small : (s : RangeValue) → 2 ≤ rank → members_of s ≡ members_within low high m → IsSmall (last_of rank o s i)
  middle-small s two is =
      fewer-indices rank o m i o s i padded (record { from_one = padded.from_one; to_three = padded.to_three; first = padded.first; second = λ below. absurd (omega (arith, below, two)) })
      (omega arith) (fewer m s is) (omega arith) small

  pub outer-small : (s : RangeValue) → 3 ≤ rank → members_of s ≡ members_within low high o → IsSmall (last_of rank s m i)
  outer-small s three is =
      fewer-indices rank o m i s m i padded (record { from_one = padded.from_one; to_three = padded.to_three; first = λ below. absurd (omega (arith, below, three)); second = padded.second })
      (fewer o s is) (omega arith) (omega arith) small

-- CORNERS
all-stands : (P : ℤ → Type 0) (is : List ℤ) (i : ℤ) → All P is → StandsIn is i → P i
all-stands P is i each at = subst P (get_or_from_slice_get is at.0 i i at.1) (each at.0 i (slice_get_within is at.0 i at.1))

between-nil : (t : List ℤ) → StandsIn (tuples []) t → AreBetween [] t []
between-nil [] at = tt
between-nil (i ∷ t) (zero, found) = absurd cc
between-nil (i ∷ t) (suc k, found) = absurd cc

between-more : (x u : ℤ) (lows highs : List ℤ) (is : List ℤ) (rest : List (List ℤ)) → All (λ j. x ≤ℤ j) is → All (λ j. j ≤ℤ u) is → ((s : List ℤ) → StandsIn (tuples rest) s → AreBetween lows s highs) → (t : List ℤ) → StandsIn (tuples (is ∷ rest)) t → AreBetween (x ∷ lows) t (u ∷ highs)
between-more x u lows highs is rest least greatest others t at =
    let tuple = tuples-parts is rest t at in
    subst (λ s. AreBetween (x ∷ lows) s (u ∷ highs)) tuple.4 (all-stands (λ j. x ≤ℤ j) is tuple.0 least tuple.2, all-stands (λ j. j ≤ℤ u) is tuple.0 greatest tuple.2, others tuple.1 tuple.3)

module _ (o m i : RangeValue) (x y z u v w : ℤ) (o_least : All (λ j. x ≤ℤ j) (members_of o)) (o_greatest : All (λ j. j ≤ℤ u) (members_of o)) (m_least : All (λ j. y ≤ℤ j) (members_of m)) (m_greatest : All (λ j. j ≤ℤ v) (members_of m)) (i_least : All (λ j. z ≤ℤ j) (members_of i)) (i_greatest : All (λ j. j ≤ℤ w) (members_of i)) where
  pub corners-are : (rank : ℕ) → AreCorners (last_of rank o m i) (last_of rank x y z) (last_of rank u v w)
  unfolding indices
  corners-are zero t at = between-nil t at
  corners-are (suc zero) t at = between-more z w [] [] (members_of i) [] i_least i_greatest between-nil t at
  corners-are (suc (suc zero)) t at = between-more y v (z ∷ []) (w ∷ []) (members_of m) (members_of i ∷ []) m_least m_greatest (between-more z w [] [] (members_of i) [] i_least i_greatest between-nil) t at
  corners-are (suc (suc (suc n))) t at =
      between-more x u (y ∷ z ∷ []) (v ∷ w ∷ []) (members_of o) (members_of m ∷ members_of i ∷ []) o_least o_greatest
      (between-more y v (z ∷ []) (w ∷ []) (members_of m) (members_of i ∷ []) m_least m_greatest (between-more z w [] [] (members_of i) [] i_least i_greatest between-nil)) t at

-- READS BETWEEN TWO TURNS
between-at : (lows t highs : List ℤ) (d : ℕ) → AreBetween lows t highs → (slice_index_or lows d (pos 0) ≤ℤ slice_index_or t d (pos 0)) × (slice_index_or t d (pos 0) ≤ℤ slice_index_or highs d (pos 0))
between-at [] [] [] d between = (omega (arith, ints), omega (arith, ints))
between-at [] [] (h ∷ highs) d between = absurd between
between-at [] (i ∷ t) highs d between = absurd between
between-at (l ∷ lows) [] highs d between = absurd between
between-at (l ∷ lows) (i ∷ t) [] d between = absurd between
between-at (l ∷ lows) (i ∷ t) (h ∷ highs) zero between = (between.0, between.1)
between-at (l ∷ lows) (i ∷ t) (h ∷ highs) (suc d) between = between-at lows t highs d between.2

-- a bound of a range is a machine number
pub bound-fits : (i : ℤ) → IsBound i → FitsSigned w64 i
bound-fits (pos n) bound = record { sfits = omega (arith, ints, bound.1) }
bound-fits (negsuc n) bound = record { sfits = omega (arith, ints, bound.0) }

pub subscript-keeps : (subscript : Subscript) (low high : List ℤ) → FitsSigned w64 (slice_index_or low subscript.coordinate (pos 0) +ℤ subscript.offset) → FitsSigned w64 (slice_index_or high subscript.coordinate (pos 0) +ℤ subscript.offset) → KeepsSubscript subscript low high
subscript-keeps subscript low high low_fits high_fits t between =
    let at = between-at low t high subscript.coordinate between in
    let fits : FitsSigned w64 (slice_index_or t subscript.coordinate (pos 0) +ℤ subscript.offset) =
    fits-between (slice_index_or low subscript.coordinate (pos 0) +ℤ subscript.offset) (slice_index_or t subscript.coordinate (pos 0) +ℤ subscript.offset) (slice_index_or high subscript.coordinate (pos 0) +ℤ subscript.offset) (omega (arith, ints, at.0)) (omega (arith, ints, at.1)) low_fits high_fits in
    let first = int_wrap_fits w64 (slice_index_or low subscript.coordinate (pos 0) +ℤ subscript.offset) low_fits in
    let second = int_wrap_fits w64 (slice_index_or t subscript.coordinate (pos 0) +ℤ subscript.offset) fits in
    let third = int_wrap_fits w64 (slice_index_or high subscript.coordinate (pos 0) +ℤ subscript.offset) high_fits in
    (rw (first, second) (omega (arith, ints, at.0)), rw (second, third) (omega (arith, ints, at.1)))

module _ (o m i : Subscript) (low high : List ℤ) (first : KeepsSubscript o low high) (second : KeepsSubscript m low high) (third : KeepsSubscript i low high) where
  pub shift-keeps : (rank : ℕ) → KeepsShift (last_of rank o m i) low high
  shift-keeps zero t between = tt
  shift-keeps (suc zero) t between = let c = third t between in (c.0, c.1, tt)
  shift-keeps (suc (suc zero)) t between = let b = second t between in let c = third t between in (b.0, b.1, (c.0, c.1, tt))
  shift-keeps (suc (suc (suc n))) t between = let a = first t between in let b = second t between in let c = third t between in (a.0, a.1, (b.0, b.1, (c.0, c.1, tt)))
