-- Values side by side: at the indices of a row.
-- The places of a part that lie behind one another have them.
use Rattle.std.proofs.Common.{◌≡◌, ◌<◌, ◌≤◌, ◌+◌, ◌-◌, ℕ, zero, suc, ℤ, List, [], ◌∷◌, length, slice_get, slice_range, take, drop, Some, refl, ap, sym, ◌∙◌, arith}
use Rattle.std.proofs.lemmas.Option.{none-some}
use Rattle.dpl_sets.specs.Ranges.{RangeValue}
use Rattle.dpl_map.specs.Maps.{AxisValue}
use Rattle.dpl_map.specs.Parts.{part}
use Rattle.dpl_array.specs.Elements.{Row, behind, tabulated, IsRunOf}
use Rattle.dpl_array.specs.PieceFields.{kept_at, IsKept}
use Rattle.dpl_array.specs.Rows.{row_of, side_by_side}
use Rattle.dpl_array.proofs.WindowLemmas.{value-found}

module _ {T : Type 0} where
  taken-some : (xs : List T) (n k : ℕ) (v : T) → slice_get (take n xs) k ≡ Some v → (k < n) × (slice_get xs k ≡ Some v)
  taken-some xs zero k v some = absurd (none-some v some)
  taken-some [] (suc n) k v some = absurd (none-some v some)
  taken-some (x ∷ xs) (suc n) zero v some = (omega arith, some)
  taken-some (x ∷ xs) (suc n) (suc k) v some = let rest = taken-some xs n k v some in (omega (arith, rest.0), rest.1)

  dropped : (xs : List T) (n k : ℕ) → slice_get (drop n xs) k ≡ slice_get xs (n + k)
  dropped [] zero k = refl
  dropped [] (suc n) k = refl
  dropped (x ∷ xs) zero k = let same : k ≡ 0 + k = omega arith in ap (slice_get (x ∷ xs)) same
  dropped (x ∷ xs) (suc n) k = let same : suc (n + k) ≡ suc n + k = omega arith in dropped xs n k ∙ ap (slice_get (x ∷ xs)) same

  -- what stands in a part of a list
  pub part-some : (xs : List T) (place end k : ℕ) (v : T) → slice_get (slice_range xs place end) k ≡ Some v → (k < end - place) × (slice_get xs (place + k) ≡ Some v)
  part-some xs place end k v some =
      let cut = taken-some (drop place xs) (end - place) k v some in
      (cut.0, sym (dropped xs place k) ∙ cut.1)

-- the first indices of a row, so many, stand each at its place
abbrev pub StandAt : List (List ℤ) → (ℕ → ℕ) → ℕ → Row → Type 0
StandAt row place size t = (k : ℕ) → k < size → slice_get row (place k) ≡ Some (behind k t)

module _ {T : Type 0} (domain : List RangeValue) (axes : List AxisValue) (locale : ℕ) (parts : List (List RangeValue)) (starts : List ℕ) (values : List T) (kept : IsKept domain axes locale parts starts (length values)) (place size : ℕ) (t : Row) (runs : StandAt (row_of parts) (side_by_side place) size t) where
  -- the values there are those of the row's indices
  pub run-values : (end : ℕ) → end ≤ place + size → IsRunOf (tabulated (part domain axes locale) (kept_at parts values)) t (slice_range values place end)
  run-values end most k v some =
      let at = part-some values place end k v some in
      value-found domain axes locale parts starts values kept (place + k) (behind k t) (runs k (omega (arith, at.0, most))) ∙ at.1
