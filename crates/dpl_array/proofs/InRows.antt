-- The indices of a domain's row: each lies a stride of the last dimension behind the one before it.
use Rattle.std.proofs.Common.{◌≡◌, ◌+◌, ◌-◌, ◌*◌, ◌/◌, ◌%◌, ◌<◌, ℕ, zero, suc, ℤ, pos, negsuc, ◌+ℤ◌, ◌-ℤ◌, ◌*ℤ◌, length, slice_get, unsigned_abs, Some, refl, sym, ap, ◌∙◌, inl, arith}
use Rattle.std.proofs.lemmas.Int.{ints}
use Rattle.std.proofs.lemmas.Nat.{div-add-mod', mod_below}
use Rattle.std.proofs.lemmas.Option.{none-some, same_Some}
use Rattle.std.proofs.Math.IntN.{pos-*ℤ-pos, negsuc-*ℤ-pos}
use Rattle.std.proofs.Math.Nat.{add-mul, mul_comm}
use Rattle.dpl_range.specs.Invariant.{IsRange}
use Rattle.dpl_range.specs.Walk.{walked}
use Rattle.dpl_range.proofs.MemberLemmas.{nth-walked}
use Rattle.dpl_sets.specs.Ranges.{RangeValue, members_of}
use Rattle.dpl_sets.specs.Indices.{indices}
use Rattle.dpl_domain.specs.Ranks.{last_of, point, IsPadded}
use Rattle.dpl_domain.proofs.TupleLemmas.{slice_get-indices, slice_get-indices_at, indices-empty, tuple_at-parts, tuple_at-some}
use Rattle.dpl_array.specs.Elements.{Row, along, behind}
use Rattle.dpl_array.proofs.Behind.{last-along}

-- so many strides further on
further : (low high s : ℤ) (r k : ℕ) → walked low high s ((r + k) * unsigned_abs s) ≡ walked low high s (r * unsigned_abs s) +ℤ s *ℤ pos k
further low high (pos n) r k =
    let more : pos n *ℤ pos k ≡ pos (k * n) = pos-*ℤ-pos n k ∙ ap pos (mul_comm n k) in
    omega (arith, ints, more, add-mul r k n)
further low high (negsuc n) r k =
    let more : negsuc n *ℤ pos k ≡ pos 0 -ℤ pos (k * suc n) = negsuc-*ℤ-pos n k ∙ omega (arith, ints, mul_comm (suc n) k) in
    omega (arith, ints, more, add-mul r k (suc n))

-- so far behind a member of a range stands the one that lies so many strides further on
pub later-member : (i : RangeValue) → IsRange i → (r k : ℕ) (c : ℤ) → r + k < length (members_of i) → slice_get (members_of i) r ≡ Some c → slice_get (members_of i) (r + k) ≡ Some (c +ℤ i.stride *ℤ pos k)
later-member i limits r k c within at =
    let here : walked i.low i.high i.stride (r * unsigned_abs i.stride) ≡ c = same_Some _ c (sym (nth-walked i r limits (omega (arith, within))) ∙ at) in
    nth-walked i (r + k) limits within
    ∙ ap Some (further i.low i.high i.stride r k ∙ ap (λ z. z +ℤ i.stride *ℤ pos k) here)

module _ (rank : ℕ) (o m i : RangeValue) (padded : IsPadded point rank o m) (limits : IsRange i) (place k : ℕ) (row : Row) (own : row.step ≡ i.stride) (some : 0 < length (members_of i)) (at : slice_get (indices (last_of rank o m i)) place ≡ Some row.first) (below : k < length (members_of i) - place % length (members_of i)) where
  -- of a domain whose rows have indices and which has rows
  behind-there : 0 < length (members_of m) → slice_get (indices (last_of rank o m i)) (place + k) ≡ Some (behind k row)
  behind-there lines =
      let line = place / length (members_of i) in
      let p = line / length (members_of m) in
      let q = line % length (members_of m) in
      let r = place % length (members_of i) in
      let split : p * length (members_of m) + q ≡ line = div-add-mod' line (length (members_of m)) in
      let whole : line * length (members_of i) + r ≡ place = div-add-mod' place (length (members_of i)) in
      let parts = tuple_at-parts rank (slice_get (members_of o) p) (slice_get (members_of m) q) (slice_get (members_of i) r) row.first (sym (slice_get-indices_at rank o m i place padded lines some) ∙ at) in
      let within : r + k < length (members_of i) = omega (arith, below) in
      let there : place + k ≡ (p * length (members_of m) + q) * length (members_of i) + (r + k) = omega (arith, whole) ∙ ap (λ z. z * length (members_of i) + (r + k)) (sym split) in
      let next : ℤ = parts.2 +ℤ i.stride *ℤ pos k in
      ap (slice_get (indices (last_of rank o m i))) there
      ∙ slice_get-indices rank o m i p q (r + k) padded (mod_below line (length (members_of m)) lines) within
      ∙ tuple_at-some rank (slice_get (members_of o) p) (slice_get (members_of m) q) (slice_get (members_of i) (r + k)) parts.0 parts.1 next parts.3 parts.4 (later-member i limits r k parts.2 within parts.5)
      ∙ ap Some (last-along (i.stride *ℤ pos k) rank parts.0 parts.1 next parts.2 refl ∙ ap (along (i.stride *ℤ pos k)) parts.6 ∙ ap (λ s. along (s *ℤ pos k) row.first) (sym own))

  pub row-behind : slice_get (indices (last_of rank o m i)) (place + k) ≡ Some (behind k row)
  row-behind = by (length (members_of m)) refl
    where
      by : (n : ℕ) → length (members_of m) ≡ n → slice_get (indices (last_of rank o m i)) (place + k) ≡ Some (behind k row)
      by zero none = absurd (none-some row.first (sym (indices-empty rank o m i place padded (inl none)) ∙ at))
      by (suc n) lines = behind-there (omega (arith, lines))
