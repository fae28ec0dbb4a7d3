-- The rounds in which a coordinate has members, from one such round to the next.
use Rattle.std.proofs.Common.{◌≡◌, ◌<◌, ◌≤◌, ◌+◌, ◌-◌, ◌*◌, ◌/◌, ◌%◌, ◌==◌, ◌&&◌, ℕ, true, ℤ, pos, ◌+ℤ◌, ◌-ℤ◌, ◌≤ℤ◌, int_le, List, [], filter, All, sym, subst, arith, ⊎_elim, eqb-true}
use Rattle.std.proofs.lemmas.Int.{ints}
use Rattle.std.proofs.lemmas.Bool.{cases_lt}
use Rattle.std.proofs.lemmas.List.Elements.{All-nil, All-weaker}
use Rattle.std.proofs.Math.Nat.{mul_comm, mul-le-mul, add-mul, div-add-mod, div-mul-le_self, le-div_iff_mul-le, div-lt_iff_lt-mul}
use Rattle.dpl_sets.specs.Ranges.{RangeValue, members_of}
use Rattle.dpl_range.proofs.MemberLemmas.{members-within}
use Rattle.dpl_map.specs.Blocks.{past, block_number, IsDeal}
use Rattle.dpl_range.proofs.SliceLemmas.{passes, passed}
use Rattle.dpl_map.proofs.DealLemmas.{members-past, count_of-le}
use Rattle.dpl_map.proofs.ListLemmas.{All-both, All-filter_passed, All-passed}

-- the first round of a coordinate whose block is of some number or a later one
found-le : (n p b q : ℕ) → p < n → b ≤ q * n + p → (b + (n - 1 - p)) / n ≤ q
found-le n p b q among before =
    let below = (div-lt_iff_lt-mul {k = n} {x = b + (n - 1 - p)} {y = q + 1} (omega (arith, among))).1 (omega (arith, before, among, add-mul q 1 n)) in
    omega (arith, below)

pub le-found : (n p b q : ℕ) → p < n → q * n + p ≤ b → q ≤ (b + (n - 1 - p)) / n
le-found n p b q among before =
    (le-div_iff_mul-le {k = n} {x = q} {y = b + (n - 1 - p)} (omega (arith, among))).1 (omega (arith, before, among))

module _ (r : RangeValue) (origin : ℤ) (size extent coordinate : ℕ) (deal : IsDeal r origin size extent coordinate) where
  -- a later member is in no earlier block
  number-le : (i j : ℤ) → i ≤ℤ j → block_number origin size i ≤ block_number origin size j
  number-le i j before =
      (le-div_iff_mul-le {k = size} {x = block_number origin size i} {y = past origin j} deal.some).1
      (omega (arith, div-mul-le_self (past origin i) size, count_of-le (i -ℤ origin) (j -ℤ origin) (omega (arith, ints, before))))

  module _ (round : ℕ) (left : List ℤ) (left-is : left ≡ filter (λ i. int_le (origin +ℤ pos ((round * extent + coordinate) * size)) i && int_le i r.high) (members_of r)) where
    -- the members that are left lie in the round's block or behind it
    pub left-members : All (λ i. (round * extent + coordinate ≤ block_number origin size i) × (r.low ≤ℤ i) × (i ≤ℤ r.high)) left
    left-members =
        subst (All (λ i. (round * extent + coordinate ≤ block_number origin size i) × (r.low ≤ℤ i) × (i ≤ℤ r.high))) (sym left-is)
        (All-filter_passed (λ i. (round * extent + coordinate ≤ block_number origin size i) × (r.low ≤ℤ i) × (i ≤ℤ r.high))
        (λ i. int_le (origin +ℤ pos ((round * extent + coordinate) * size)) i && int_le i r.high) (members_of r)
        (All-both (λ i. (i ≡ origin +ℤ pos (past origin i)) × (i ≤ℤ r.high)) (λ i. (r.low ≤ℤ i) × (i ≤ℤ r.high))
        (λ i. (int_le (origin +ℤ pos ((round * extent + coordinate) * size)) i && int_le i r.high) ≡ true → (round * extent + coordinate ≤ block_number origin size i) × (r.low ≤ℤ i) × (i ≤ℤ r.high))
        (λ i at within held.
        let h = passed (origin +ℤ pos ((round * extent + coordinate) * size)) r.high i held in
        let number = (le-div_iff_mul-le {k = size} {x = round * extent + coordinate} {y = past origin i} deal.some).1 (omega (arith, ints, h.0, at.0)) in
        (number, within.0, within.1))
        (members_of r) (members-past r origin size extent coordinate deal) (members-within r deal.limits)))

    -- what holds of them holds of the coordinate's members from the round on
    left-owned : (P : ℤ → Type 0) → All P left → All (λ i. (block_number origin size i / extent * extent + coordinate ≡ block_number origin size i) × (round ≤ block_number origin size i / extent → P i)) (filter (λ i. block_number origin size i % extent == coordinate) (members_of r))
    left-owned P holds =
        All-filter_passed (λ i. (block_number origin size i / extent * extent + coordinate ≡ block_number origin size i) × (round ≤ block_number origin size i / extent → P i))
        (λ i. block_number origin size i % extent == coordinate) (members_of r)
        (All-both (λ i. (i ≡ origin +ℤ pos (past origin i)) × (i ≤ℤ r.high)) (λ i. (int_le (origin +ℤ pos ((round * extent + coordinate) * size)) i && int_le i r.high) ≡ true → P i)
        (λ i. (block_number origin size i % extent == coordinate) ≡ true → (block_number origin size i / extent * extent + coordinate ≡ block_number origin size i) × (round ≤ block_number origin size i / extent → P i))
        (λ i at held own.
        let number = block_number origin size i in
        let split : number / extent * extent + coordinate ≡ number = omega (arith, div-add-mod number extent, mul_comm extent (number / extent), eqb-true (number % extent) coordinate own) in (
          split,
          (λ later.
              let before = mul-le-mul {n₁ = round} {m₁ = extent} {n₂ = number / extent} {m₂ = extent} later (omega arith) in
              let way = (le-div_iff_mul-le {k = size} {x = round * extent + coordinate} {y = past origin i} deal.some).0 (omega (arith, before, split)) in
              held (passes (origin +ℤ pos ((round * extent + coordinate) * size)) r.high i (omega (arith, ints, way, at.0)) at.1)),
        ))
        (members_of r) (members-past r origin size extent coordinate deal)
        (All-passed P (λ i. int_le (origin +ℤ pos ((round * extent + coordinate) * size)) i && int_le i r.high) (members_of r) (subst (All P) left-is holds)))

    -- where none is left, the coordinate's members lie before the round
    pub left-none : left ≡ [] → All (λ i. block_number origin size i / extent < round) (filter (λ i. block_number origin size i % extent == coordinate) (members_of r))
    left-none none =
        All-weaker (λ i. (block_number origin size i / extent * extent + coordinate ≡ block_number origin size i) × (round ≤ block_number origin size i / extent → ⊥)) (λ i. block_number origin size i / extent < round)
        (λ i h. ⊎_elim (λ before. before) (λ later. absurd (h.1 later)) (cases_lt (block_number origin size i / extent) round))
        (filter (λ i. block_number origin size i % extent == coordinate) (members_of r))
        (left-owned (λ i. ⊥) (subst (All (λ i. ⊥)) (sym none) (All-nil (λ i. ⊥))))

    module _ (least : ℤ) (is_least : All (λ i. least ≤ℤ i) left) where
      -- no member of the coordinate lies between the round and the first one from the least member's block on
      pub left-passed : All (λ i. block_number origin size i / extent < (block_number origin size least + (extent - 1 - coordinate)) / extent → block_number origin size i / extent < round) (filter (λ i. block_number origin size i % extent == coordinate) (members_of r))
      left-passed =
          All-weaker (λ i. (block_number origin size i / extent * extent + coordinate ≡ block_number origin size i) × (round ≤ block_number origin size i / extent → least ≤ℤ i))
          (λ i. block_number origin size i / extent < (block_number origin size least + (extent - 1 - coordinate)) / extent → block_number origin size i / extent < round)
          (λ i h before.
          let q = block_number origin size i / extent in
          ⊎_elim (λ earlier. earlier)
          (λ later.
          let number = number-le least i (h.1 later) in
          let found = found-le extent coordinate (block_number origin size least) q deal.among (omega (arith, number, h.0)) in
          absurd (omega (arith, found, before)))
          (cases_lt q round))
          (filter (λ i. block_number origin size i % extent == coordinate) (members_of r))
          (left-owned (λ i. least ≤ℤ i) is_least)

      -- and where that one's block begins past the high bound, none lies from the round on
      pub left-past : block_number origin size r.high < (block_number origin size least + (extent - 1 - coordinate)) / extent * extent + coordinate → All (λ i. block_number origin size i / extent < round) (filter (λ i. block_number origin size i % extent == coordinate) (members_of r))
      left-past beyond =
          All-both
          (λ i. block_number origin size i / extent < (block_number origin size least + (extent - 1 - coordinate)) / extent → block_number origin size i / extent < round)
          (λ i. (block_number origin size i / extent * extent + coordinate ≡ block_number origin size i) × (i ≤ℤ r.high))
          (λ i. block_number origin size i / extent < round)
          (λ i passed at.
          let q = block_number origin size i / extent in
          let found = (block_number origin size least + (extent - 1 - coordinate)) / extent in
          ⊎_elim passed
          (λ later.
          let number = number-le i r.high at.1 in
          let rounds = mul-le-mul {n₁ = found} {m₁ = extent} {n₂ = q} {m₂ = extent} later (omega arith) in
          absurd (omega (arith, number, rounds, at.0, beyond)))
          (cases_lt q found))
          (filter (λ i. block_number origin size i % extent == coordinate) (members_of r))
          left-passed
          (All-filter_passed (λ i. (block_number origin size i / extent * extent + coordinate ≡ block_number origin size i) × (i ≤ℤ r.high)) (λ i. block_number origin size i % extent == coordinate) (members_of r)
          (All-weaker (λ i. (i ≡ origin +ℤ pos (past origin i)) × (i ≤ℤ r.high)) (λ i. (block_number origin size i % extent == coordinate) ≡ true → (block_number origin size i / extent * extent + coordinate ≡ block_number origin size i) × (i ≤ℤ r.high))
          (λ i at own. (omega (arith, div-add-mod (block_number origin size i) extent, mul_comm extent (block_number origin size i / extent), eqb-true (block_number origin size i % extent) coordinate own), at.1))
          (members_of r) (members-past r origin size extent coordinate deal)))
