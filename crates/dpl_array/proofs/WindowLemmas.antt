-- What a piece has at the integers of a line or of a plane.
-- A place in a domain of stride 1 is told by how far the coordinates lie behind the low ones.
use Rattle.std.proofs.Common.{◌≡◌, ◌<◌, ◌≤◌, ◌+◌, ◌*◌, ℕ, zero, suc, ℤ, pos, ◌+ℤ◌, List, [], ◌∷◌, length, slice_get, Some, refl, ap, sym, ◌∙◌, arith, append-nil, unsigned_abs}
use Rattle.std.proofs.lemmas.Option.{slice_get_within}
use Rattle.std.proofs.Math.Nat.{add-mul, suc-mul, mul-le-mul_right}
use Rattle.dpl_range.specs.Invariant.{IsRange}
use Rattle.dpl_sets.specs.Ranges.{RangeValue, members_of}
use Rattle.dpl_range.specs.Walk.{walked}
use Rattle.dpl_range.proofs.MemberLemmas.{nth-walked}
use Rattle.dpl_sets.specs.Indices.{indices}
use Rattle.dpl_domain.specs.Ranks.{last_of, point, IsPadded}
use Rattle.dpl_domain.proofs.TupleLemmas.{point-members, slice_get-indices, tuple_at-some}
use Rattle.dpl_map.specs.Maps.{AxisValue}
use Rattle.dpl_map.specs.Parts.{part}
use Rattle.dpl_array.specs.Elements.{value_at, tabulated}
use Rattle.dpl_array.specs.PieceFields.{kept_at, IsKept}
use Rattle.dpl_array.specs.Rows.{row_of}
use Rattle.dpl_array.specs.Windows.{IsLineOf, IsPlaneOf, IsSpanOf, StandsOnLine, StandsOnPlane}
use Rattle.dpl_array.proofs.PieceLemmas.{piece-there, place-within, places-alone}

-- the member at a place of a range of stride 1
pub unit-member : (r : RangeValue) → IsRange r → r.stride ≡ pos 1 → (low : ℤ) → low ≡ r.low → (k : ℕ) → k < length (members_of r) → slice_get (members_of r) k ≡ Some (low +ℤ pos k)
unit-member r limits unit low is k below =
    let once : k * 1 ≡ k = omega arith in
    nth-walked r k limits below
    ∙ ap (λ s. Some (walked r.low r.high s (k * unsigned_abs s))) unit
    ∙ ap (λ n. Some (r.low +ℤ pos n)) once
    ∙ ap (λ z. Some (z +ℤ pos k)) (sym is)

-- the index at a place of a domain, told by the members of its ranges
index-at : (rank : ℕ) (o m i : RangeValue) (p q r : ℕ) (x y z : ℤ) → IsPadded point rank o m → slice_get (members_of o) p ≡ Some x → slice_get (members_of m) q ≡ Some y → slice_get (members_of i) r ≡ Some z → slice_get (indices (last_of rank o m i)) ((p * length (members_of m) + q) * length (members_of i) + r) ≡ Some (last_of rank x y z)
index-at rank o m i p q r x y z padded outer middle inner =
    slice_get-indices rank o m i p q r padded (slice_get_within (members_of m) q y middle) (slice_get_within (members_of i) r z inner)
    ∙ tuple_at-some rank (slice_get (members_of o) p) (slice_get (members_of m) q) (slice_get (members_of i) r) x y z outer middle inner

at-point : (r : RangeValue) → r ≡ point → slice_get (members_of r) 0 ≡ Some (pos 0)
at-point r is = ap (λ is. slice_get is 0) (point-members r is)

-- of one dimension
pub index-on_line : (o m i : RangeValue) (r : ℕ) (z : ℤ) → IsPadded point 1 o m → slice_get (members_of i) r ≡ Some z → slice_get (indices (last_of 1 o m i)) r ≡ Some (z ∷ [])
index-on_line o m i r z padded inner =
    let row : 0 * length (members_of m) + 0 ≡ 0 = omega arith in
    let place : (0 * length (members_of m) + 0) * length (members_of i) + r ≡ r = ap (λ n. n * length (members_of i) + r) row ∙ omega arith in
    ap (slice_get (indices (last_of 1 o m i))) (sym place)
    ∙ index-at 1 o m i 0 0 r (pos 0) (pos 0) z padded (at-point o (padded.first (omega arith))) (at-point m (padded.second (omega arith))) inner

-- and of two
pub index-on_plane : (o m i : RangeValue) (q r : ℕ) (y z : ℤ) → IsPadded point 2 o m → slice_get (members_of m) q ≡ Some y → slice_get (members_of i) r ≡ Some z → slice_get (indices (last_of 2 o m i)) (q * length (members_of i) + r) ≡ Some (y ∷ z ∷ [])
index-on_plane o m i q r y z padded middle inner =
    let row : 0 * length (members_of m) + q ≡ q = omega arith in
    ap (λ n. slice_get (indices (last_of 2 o m i)) (n * length (members_of i) + r)) (sym row)
    ∙ index-at 2 o m i 0 q r (pos 0) y z padded (at-point o (padded.first (omega arith))) middle inner

-- a place in a plane lies below its size
pub plane-below : (q r rows columns size : ℕ) → q < rows → r < columns → rows * columns ≤ size → q * columns + r < size
plane-below q r rows columns size row column large =
    let le : (q + 1) * columns ≤ rows * columns = mul-le-mul_right columns (omega arith) in
    omega (arith, le, add-mul q 1 columns)

-- A PART THAT IS ONE DOMAIN
module _ (parts : List (List RangeValue)) (d : List RangeValue) (alone : parts ≡ d ∷ []) (o m i : RangeValue) where
  row-alone : row_of parts ≡ indices d
  row-alone = ap row_of alone ∙ append-nil (indices d)

  -- the integers of its line are its indices
  pub stands-on_line : d ≡ last_of 1 o m i → IsPadded point 1 o m → (low : ℤ) (size : ℕ) → IsSpanOf (members_of i) low size → StandsOnLine (row_of parts) low size
  stands-on_line is padded low size span k below =
      ap (λ ts. slice_get ts k) row-alone ∙ ap (λ e. slice_get (indices e) k) is ∙ index-on_line o m i k (low +ℤ pos k) padded (span.each k below)

  -- and those of its plane
  pub stands-on_plane : d ≡ last_of 2 o m i → IsPadded point 2 o m → (top : ℤ) (rows : ℕ) (left : ℤ) (columns : ℕ) → IsSpanOf (members_of m) top rows → IsSpanOf (members_of i) left columns → StandsOnPlane (row_of parts) top rows left columns
  stands-on_plane is padded top rows left columns down across q r row column =
      let wide : columns ≡ length (members_of i) = across.all (omega arith) in
      ap (λ ts. slice_get ts (q * columns + r)) row-alone
      ∙ ap (λ e. slice_get (indices e) (q * columns + r)) is
      ∙ ap (λ n. slice_get (indices (last_of 2 o m i)) (q * n + r)) wide
      ∙ index-on_plane o m i q r (top +ℤ pos q) (left +ℤ pos r) padded (down.each q row) (across.each r column)

-- a plane has no more integers than the row has indices
pub plane-long : (row : List (List ℤ)) (top : ℤ) (rows : ℕ) (left : ℤ) (columns : ℕ) → StandsOnPlane row top rows left columns → rows * columns ≤ length row
plane-long row top zero left columns on = omega arith
plane-long row top (suc q) left zero on = omega arith
plane-long row top (suc q) left (suc r) on =
    let last = slice_get_within row (q * suc r + r) ((top +ℤ pos q) ∷ (left +ℤ pos r) ∷ []) (on q r (omega arith) (omega arith)) in
    omega (arith, last, suc-mul q (suc r))

module _ {T : Type 0} (domain : List RangeValue) (axes : List AxisValue) (locale : ℕ) (parts : List (List RangeValue)) (starts : List ℕ) (values : List T) (kept : IsKept domain axes locale parts starts (length values)) where
  -- what stands at a place of the row has the value there
  pub value-found : (k : ℕ) (t : List ℤ) → slice_get (row_of parts) k ≡ Some t → value_at t (tabulated (part domain axes locale) (kept_at parts values)) ≡ slice_get values k
  value-found k t found = piece-there domain axes locale parts starts values kept parts refl t k (places-alone parts t k kept.distinct found)

  pub within-found : (k : ℕ) (t : List ℤ) → slice_get (row_of parts) k ≡ Some t → k < length values
  within-found k t found = place-within domain axes locale parts starts values kept parts refl t k (places-alone parts t k kept.distinct found)

  -- the elements of a piece as a line
  pub kept-line : (low : ℤ) (size : ℕ) → StandsOnLine (row_of parts) low size → IsLineOf (tabulated (part domain axes locale) (kept_at parts values)) values low size
  kept-line low size on k below = value-found k ((low +ℤ pos k) ∷ []) (on k below)

  pub long-line : (low : ℤ) (size : ℕ) → StandsOnLine (row_of parts) low size → size ≤ length values
  long-line low zero on = omega arith
  long-line low (suc n) on = let last = within-found n ((low +ℤ pos n) ∷ []) (on n (omega arith)) in omega (arith, last)

  -- and as a plane
  pub kept-plane : (top : ℤ) (rows : ℕ) (left : ℤ) (columns : ℕ) → StandsOnPlane (row_of parts) top rows left columns → IsPlaneOf (tabulated (part domain axes locale) (kept_at parts values)) values top rows left columns
  kept-plane top rows left columns on q r row column = value-found (q * columns + r) ((top +ℤ pos q) ∷ (left +ℤ pos r) ∷ []) (on q r row column)

  pub long-plane : (top : ℤ) (rows : ℕ) (left : ℤ) (columns : ℕ) → StandsOnPlane (row_of parts) top rows left columns → rows * columns ≤ length values
  long-plane top rows left columns on = let most = plane-long (row_of parts) top rows left columns on in omega (arith, most, kept.long)
