-- The members of a range by the blocks that a coordinate gets.
use Rattle.std.proofs.Common.{◌≡◌, ◌⊎◌, ◌<◌, ◌≤◌, ◌+◌, ◌-◌, ◌*◌, ◌/◌, ◌%◌, ◌^◌, ◌==◌, ◌&&◌, ℕ, true, ℤ, pos, negsuc, ◌+ℤ◌, ◌-ℤ◌, ◌≤ℤ◌, ◌<ℤ◌, Contains, int_le, List, [], ◌∷◌, ◌++◌, filter, length, All, AllPairs, get_or, inl, inr, unsigned_abs, refl, ap, sym, ◌∙◌, arith, ⊎_elim}
use Rattle.std.specs.Cmp.{both_ways}
use Rattle.std.specs.Int.{int_div_euclid, int_rem_euclid}
use Rattle.std.proofs.lemmas.Option.{get_or_from_slice_get}
use Rattle.std.proofs.lemmas.List.Kept.{AllPairs-filter}
use Rattle.std.proofs.lemmas.Int.{ints}
use Rattle.std.proofs.lemmas.Bool.{eq-eqb, eqb-true, and_from, and_parts}
use Rattle.std.proofs.lemmas.Nat.{mod_below, mul-add-lt}
use Rattle.std.proofs.lemmas.List.Elements.{All-weaker, All-filter, All-contains}
use Rattle.std.proofs.Math.Nat.{mul_comm, mul-le-mul, add-mul, div-add-mod, div-mul-le_self, le-div_iff_mul-le}
use Rattle.dpl_range.specs.Congruence.{is_congruent}
use Rattle.dpl_sets.specs.Members.{count_of}
use Rattle.dpl_sets.specs.Ranges.{RangeValue, members_of}
use Rattle.dpl_range.specs.Walk.{walked}
use Rattle.dpl_range.proofs.MemberLemmas.{count_of-natural, members-within, nth-walked}
use Rattle.dpl_range.proofs.SliceLemmas.{passes, passed}
use Rattle.dpl_map.specs.Places.{block_cyclic_place}
use Rattle.dpl_map.specs.Cuts.{AreSorted, behind}
use Rattle.dpl_map.specs.Orders.{AreSortedBy}
use Rattle.dpl_map.proofs.CutLemmas.{AreSorted-same}
use Rattle.dpl_map.specs.Counts.{IsWithinValues}
use Rattle.dpl_map.specs.Blocks.{past, block_number, block_offset, BeginsRound, IsDeal}
use Rattle.dpl_map.proofs.BlockLemmas.{block_cyclic_place-past, congruent-past, left-of_round, in-block, block-of_round, block-shift, same-block, offset-same, rounds-less}
use Rattle.dpl_map.proofs.ValueLemmas.{IsWithinValues-through, IsWithinValues-less, IsWithinValues-length, IsWithinValues-apart}
use Rattle.dpl_map.proofs.ListLemmas.{Contains-filter_parts, All-each, All-filter_passed, filter-filter, filter-same}

-- one piece more at the most
pub length-behind : {X P : Type 0} (xs : List X) (p : P) (pieces : List P) → length (behind xs p pieces) ≤ length pieces + 1
length-behind [] p pieces = omega arith
length-behind (x ∷ xs) p pieces = go pieces
  where
    go : (ps : List _) → length (ps ++ p ∷ []) ≤ length ps + 1
    go [] = omega arith
    go (q ∷ ps) = let e = go ps in omega (arith, e)

-- the size of a whole number that is not negative
pub size-natural : (z : ℤ) → pos 0 ≤ℤ z → unsigned_abs z ≡ count_of z
size-natural (pos n) some = refl
size-natural (negsuc n) some = absurd (omega (arith, ints, some))

-- a greater whole number counts no less
pub count_of-le : (y z : ℤ) → y ≤ℤ z → count_of y ≤ count_of z
count_of-le (pos m) (pos n) before = omega (arith, ints, before)
count_of-le (pos m) (negsuc n) before = absurd (omega (arith, ints, before))
count_of-le (negsuc m) (pos n) before = omega arith
count_of-le (negsuc m) (negsuc n) before = omega arith

-- walks of which one goes some way past the other's end
walked-apart : (low high stride : ℤ) (a b way : ℕ) → a + way ≤ b → ((walked low high stride a +ℤ pos way) ≤ℤ walked low high stride b) ⊎ ((walked low high stride b +ℤ pos way) ≤ℤ walked low high stride a)
walked-apart low high (pos s) a b way farther = inl (omega (arith, ints, farther))
walked-apart low high (negsuc s) a b way farther = inr (omega (arith, ints, farther))

module _ (r : RangeValue) (origin : ℤ) (size extent coordinate : ℕ) (deal : IsDeal r origin size extent coordinate) where
  -- the members lie past the origin
  pub members-past : All (λ i. (i ≡ origin +ℤ pos (past origin i)) × (i ≤ℤ r.high)) (members_of r)
  members-past =
      All-weaker (λ i. (r.low ≤ℤ i) × (i ≤ℤ r.high)) (λ i. (i ≡ origin +ℤ pos (past origin i)) × (i ≤ℤ r.high))
      (λ i w. (at i w.0, w.1)) (members_of r) (members-within r deal.limits)
    where
      at : (i : ℤ) → r.low ≤ℤ i → i ≡ origin +ℤ pos (past origin i)
      at i low = omega (arith, ints, count_of-natural (i -ℤ origin) (omega (arith, ints, low, deal.begins)))

  -- and not far past it
  pub way-near : (i : ℤ) → r.low ≤ℤ i → i ≤ℤ r.high → (pos 0 ≤ℤ (i -ℤ origin)) × ((i -ℤ origin) ≤ℤ pos (2 ^ 70))
  way-near i low high =
      let limits = deal.limits in
      let from = limits.low_is_bound in
      let to = limits.high_is_bound in
      let round : extent * size ≤ 64 * 2 ^ 63 = mul-le-mul {n₁ = extent} {m₁ = size} {n₂ = 64} {m₂ = 2 ^ 63} deal.few (omega (arith, deal.machine)) in
      (omega (arith, ints, low, deal.begins), omega (arith, ints, low, high, from.0, to.1, deal.soon, round))

  -- those that the rule deals to the coordinate are in its blocks
  pub coordinate-members : (start : ℤ) → BeginsRound start (extent * size) origin → filter (λ i. block_cyclic_place start (pos size) extent i == coordinate) (members_of r) ≡ filter (λ i. block_number origin size i % extent == coordinate) (members_of r)
  coordinate-members start begins =
      filter-same (λ i. block_cyclic_place start (pos size) extent i == coordinate) (λ i. block_number origin size i % extent == coordinate) (members_of r)
      (All-weaker (λ i. (i ≡ origin +ℤ pos (past origin i)) × (i ≤ℤ r.high)) (λ i. (block_cyclic_place start (pos size) extent i == coordinate) ≡ (block_number origin size i % extent == coordinate))
      (λ i w. ap (λ x. x == coordinate) (block_cyclic_place-past start origin i size extent (past origin i) deal.some (omega (arith, deal.among)) begins w.0))
      (members_of r) members-past)

  -- those between the ends of a block are in it
  pub between-members : (number : ℕ) → filter (λ i. int_le (origin +ℤ pos (number * size)) i && int_le i (origin +ℤ pos (number * size) +ℤ pos (size - 1))) (members_of r) ≡ filter (λ i. block_number origin size i == number) (members_of r)
  between-members number =
      filter-same (λ i. int_le (origin +ℤ pos (number * size)) i && int_le i (origin +ℤ pos (number * size) +ℤ pos (size - 1))) (λ i. block_number origin size i == number) (members_of r)
      (All-weaker (λ i. (i ≡ origin +ℤ pos (past origin i)) × (i ≤ℤ r.high)) (λ i. (int_le (origin +ℤ pos (number * size)) i && int_le i (origin +ℤ pos (number * size) +ℤ pos (size - 1))) ≡ (block_number origin size i == number))
      (λ i w.
      let e = in-block size (past origin i) number deal.some in
      let low = origin +ℤ pos (number * size) in
      let high = origin +ℤ pos (number * size) +ℤ pos (size - 1) in
      both_ways (int_le low i && int_le i high) (block_number origin size i == number)
      (λ held. let h = passed low high i held in eq-eqb (block_number origin size i) number (e.1 (omega (arith, ints, h.0, w.0), omega (arith, ints, h.1, w.0))))
      (λ held. let h = e.0 (eqb-true (block_number origin size i) number held) in passes low high i (omega (arith, ints, h.0, w.0)) (omega (arith, ints, h.1, w.0))))
      (members_of r) members-past)

  -- a coordinate's block in a round
  pub block-members : (j : ℕ) → filter (λ i. block_number origin size i == j * extent + coordinate) (members_of r) ≡ filter (λ i. block_number origin size i / extent == j) (filter (λ i. block_number origin size i % extent == coordinate) (members_of r))
  block-members j =
      filter-same (λ i. block_number origin size i == j * extent + coordinate) (λ i. (block_number origin size i % extent == coordinate) && (block_number origin size i / extent == j)) (members_of r)
      (All-each (λ i. (block_number origin size i == j * extent + coordinate) ≡ ((block_number origin size i % extent == coordinate) && (block_number origin size i / extent == j)))
      (λ i.
      let e = block-of_round extent coordinate j (block_number origin size i) deal.among in
      let number = block_number origin size i in
      both_ways (number == j * extent + coordinate) ((number % extent == coordinate) && (number / extent == j))
      (λ held.
      let h = e.1 (eqb-true number (j * extent + coordinate) held) in
      and_from (number % extent == coordinate) (number / extent == j) (eq-eqb (number % extent) coordinate h.0) (eq-eqb (number / extent) j h.1))
      (λ held.
      let h = and_parts (number % extent == coordinate) (number / extent == j) held in
      eq-eqb number (j * extent + coordinate) (e.0 (eqb-true (number % extent) coordinate h.0, eqb-true (number / extent) j h.1))))
      (members_of r))
      ∙ sym (filter-filter (λ i. block_number origin size i / extent == j) (λ i. block_number origin size i % extent == coordinate) (members_of r))

  -- and all of them are in the rounds up to the high bound
  pub blocks-end : (rounds : ℕ) → ((j : ℕ) → j * extent + coordinate ≤ block_number origin size r.high → j < rounds) → All (λ i. block_number origin size i / extent < rounds) (filter (λ i. block_number origin size i % extent == coordinate) (members_of r))
  blocks-end rounds enough =
      All-filter_passed (λ i. block_number origin size i / extent < rounds) (λ i. block_number origin size i % extent == coordinate) (members_of r)
      (All-weaker (λ i. (i ≡ origin +ℤ pos (past origin i)) × (i ≤ℤ r.high)) (λ i. (block_number origin size i % extent == coordinate) ≡ true → block_number origin size i / extent < rounds)
      (λ i w held.
      let number = block_number origin size i in
      let split : number / extent * extent + coordinate ≡ number =
      omega (arith, div-add-mod number extent, mul_comm extent (number / extent), eqb-true (number % extent) coordinate held) in
      let before : number ≤ block_number origin size r.high =
      (le-div_iff_mul-le {k = size} {x = number} {y = past origin r.high} deal.some).1
      (omega (arith, div-mul-le_self (past origin i) size, count_of-le (i -ℤ origin) (r.high -ℤ origin) (omega (arith, ints, w.1)))) in
      enough (number / extent) (omega (arith, split, before)))
      (members_of r) members-past)

  -- those of one offset are a class of congruence
  pub offset-members : (start : ℤ) (offset : ℕ) → BeginsRound start (extent * size) origin → offset < size → filter (is_congruent (extent * size) (start +ℤ pos (coordinate * size + offset))) (members_of r) ≡ filter (λ i. block_offset origin size i == offset) (filter (λ i. block_number origin size i % extent == coordinate) (members_of r))
  offset-members start offset begins within =
      filter-same (is_congruent (extent * size) (start +ℤ pos (coordinate * size + offset))) (λ i. (block_number origin size i % extent == coordinate) && (block_offset origin size i == offset)) (members_of r)
      (All-weaker (λ i. (i ≡ origin +ℤ pos (past origin i)) × (i ≤ℤ r.high)) (λ i. is_congruent (extent * size) (start +ℤ pos (coordinate * size + offset)) i ≡ ((block_number origin size i % extent == coordinate) && (block_offset origin size i == offset)))
      (λ i w.
      let m = past origin i in
      let short : coordinate * size + offset < extent * size = omega (arith, mul_comm size extent, mul-add-lt coordinate size offset extent deal.among within) in
      let e = congruent-past start origin i (extent * size) (coordinate * size + offset) m short begins w.0 in
      let f = left-of_round size extent m coordinate offset deal.some (omega (arith, deal.among)) within in
      let number = block_number origin size i in
      both_ways (is_congruent (extent * size) (start +ℤ pos (coordinate * size + offset)) i) ((number % extent == coordinate) && (block_offset origin size i == offset))
      (λ held.
      let h = f.0 (e.0 held) in
      and_from (number % extent == coordinate) (block_offset origin size i == offset) (eq-eqb (number % extent) coordinate h.0) (eq-eqb (block_offset origin size i) offset h.1))
      (λ held.
      let h = and_parts (number % extent == coordinate) (block_offset origin size i == offset) held in
      e.1 (f.1 (eqb-true (number % extent) coordinate h.0, eqb-true (block_offset origin size i) offset h.1))))
      (members_of r) members-past)
      ∙ sym (filter-filter (λ i. block_offset origin size i == offset) (λ i. block_number origin size i % extent == coordinate) (members_of r))

  -- and all of them have an offset below the size
  pub offsets-end : All (λ i. block_offset origin size i < size) (filter (λ i. block_number origin size i % extent == coordinate) (members_of r))
  offsets-end =
      All-each (λ i. block_offset origin size i < size) (λ i. mod_below (past origin i) size deal.some) (filter (λ i. block_number origin size i % extent == coordinate) (members_of r))

  -- the blocks of the coordinate's members, counted from the start, are as many as counted from the beginning of a round
  numbers-blocks : (start : ℤ) (n : ℕ) → BeginsRound start (extent * size) origin → IsWithinValues (block_number origin size) (filter (λ i. block_number origin size i % extent == coordinate) (members_of r)) n → IsWithinValues (λ i. int_div_euclid (i -ℤ start) (pos size)) (filter (λ i. block_number origin size i % extent == coordinate) (members_of r)) n
  numbers-blocks start n begins within =
      let shift = block-shift start origin size extent deal.some begins in
      IsWithinValues-through (λ i. int_div_euclid (i -ℤ start) (pos size)) (block_number origin size) (λ z. count_of (z +ℤ shift.0)) (filter (λ i. block_number origin size i % extent == coordinate) (members_of r)) n
      (All-filter (λ i. block_number origin size i % extent == coordinate) (λ i. count_of (int_div_euclid (i -ℤ start) (pos size) +ℤ shift.0) ≡ block_number origin size i) (members_of r)
      (All-weaker (λ i. (i ≡ origin +ℤ pos (past origin i)) × (i ≤ℤ r.high)) (λ i. count_of (int_div_euclid (i -ℤ start) (pos size) +ℤ shift.0) ≡ block_number origin size i)
      (λ i w. ap count_of (shift.1 i (past origin i) w.0)) (members_of r) members-past))
      within

  -- and no fewer than the rounds that have some
  pub rounds-blocks : (start : ℤ) (n : ℕ) → BeginsRound start (extent * size) origin → IsWithinValues (λ i. block_number origin size i / extent) (filter (λ i. block_number origin size i % extent == coordinate) (members_of r)) n → IsWithinValues (λ i. int_div_euclid (i -ℤ start) (pos size)) (filter (λ i. block_number origin size i % extent == coordinate) (members_of r)) n
  rounds-blocks start n begins within =
      let dealt = filter (λ i. block_number origin size i % extent == coordinate) (members_of r) in
      numbers-blocks start n begins
      (IsWithinValues-through (block_number origin size) (λ i. block_number origin size i / extent) (λ number. number / extent) dealt n
      (All-each (λ i. block_number origin size i / extent ≡ block_number origin size i / extent) (λ i. refl) dealt) within)

  -- a member that the coordinate gets, by its way from the origin and its block
  in-dealt : (i : ℤ) → Contains (filter (λ i. block_number origin size i % extent == coordinate) (members_of r)) i → (i ≡ origin +ℤ pos (past origin i)) × (block_number origin size i % extent ≡ coordinate)
  in-dealt i member =
      let dealt = filter (λ i. block_number origin size i % extent == coordinate) (members_of r) in
      let way = All-contains (λ i. (i ≡ origin +ℤ pos (past origin i)) × (i ≤ℤ r.high)) dealt i (All-filter (λ i. block_number origin size i % extent == coordinate) (λ i. (i ≡ origin +ℤ pos (past origin i)) × (i ≤ℤ r.high)) (members_of r) members-past) member in
      let passes = (Contains-filter_parts (λ i. block_number origin size i % extent == coordinate) (members_of r) i member).1 in
      (way.0, eqb-true (block_number origin size i % extent) coordinate passes)

  -- what is cut by rising rounds is cut by rising blocks, counted from the start
  pub rounds-sorted : (start : ℤ) (ranges : List RangeValue) → BeginsRound start (extent * size) origin → AreSorted members_of (λ i j. block_number origin size i / extent < block_number origin size j / extent) (filter (λ i. block_number origin size i % extent == coordinate) (members_of r)) ranges → AreSortedBy (λ i. int_div_euclid (i -ℤ start) (pos size)) (filter (λ i. block_number origin size i % extent == coordinate) (members_of r)) ranges
  rounds-sorted start ranges begins are =
      let shift = block-shift start origin size extent deal.some begins in
      AreSorted-same members_of _ (λ i j. int_div_euclid (i -ℤ start) (pos size) <ℤ int_div_euclid (j -ℤ start) (pos size)) _ ranges
      (λ i j i-in j-in.
      let i-at = in-dealt i i-in in
      let j-at = in-dealt j j-in in
      let first = shift.1 i (past origin i) i-at.0 in
      let second = shift.1 j (past origin j) j-at.0 in
      let less = rounds-less extent (block_number origin size i) (block_number origin size j) coordinate (omega (arith, deal.among)) i-at.1 j-at.1 in
      ((λ sooner. let before = less.0 sooner in omega (arith, ints, before, first, second)), (λ sooner. less.1 (omega (arith, ints, sooner, first, second)))))
      are

  -- and what is cut by rising offsets is so, counted from the start
  pub offsets-sorted : (start : ℤ) (ranges : List RangeValue) → BeginsRound start (extent * size) origin → AreSorted members_of (λ i j. block_offset origin size i < block_offset origin size j) (filter (λ i. block_number origin size i % extent == coordinate) (members_of r)) ranges → AreSortedBy (λ i. int_rem_euclid (i -ℤ start) (pos size)) (filter (λ i. block_number origin size i % extent == coordinate) (members_of r)) ranges
  offsets-sorted start ranges begins are =
      AreSorted-same members_of _ (λ i j. int_rem_euclid (i -ℤ start) (pos size) <ℤ int_rem_euclid (j -ℤ start) (pos size)) _ ranges
      (λ i j i-in j-in.
      let first = offset-same start origin i size extent (past origin i) deal.some begins (in-dealt i i-in).0 in
      let second = offset-same start origin j size extent (past origin j) deal.some begins (in-dealt j j-in).0 in
      ((λ less. omega (arith, ints, less, first, second)), (λ less. omega (arith, ints, less, first, second))))
      are

  -- where a stride passes over more than a block, no two members are in one
  members-apart : size < unsigned_abs r.stride → AllPairs (λ i j. block_number origin size i ≡ block_number origin size j → ⊥) (members_of r)
  members-apart sparse j k d before within =
      λ same.
      let i_at = get_or_from_slice_get (members_of r) j _ d (nth-walked r j deal.limits (omega (arith, before, within))) in
      let j_at = get_or_from_slice_get (members_of r) k _ d (nth-walked r k deal.limits within) in
      let i_past = members-past j d (omega (arith, before, within)) in
      let j_past = members-past k d within in
      let way : j * unsigned_abs r.stride + unsigned_abs r.stride ≤ k * unsigned_abs r.stride =
      omega (arith, mul-le-mul {n₁ = j + 1} {m₁ = unsigned_abs r.stride} {n₂ = k} {m₂ = unsigned_abs r.stride} (omega (arith, before)) (omega arith), add-mul j 1 (unsigned_abs r.stride)) in
      let near = same-block size (past origin (get_or (members_of r) j d)) (past origin (get_or (members_of r) k d)) deal.some same in
      let nigh = same-block size (past origin (get_or (members_of r) k d)) (past origin (get_or (members_of r) j d)) deal.some (sym same) in
      ⊎_elim
      (λ ahead. omega (arith, ints, ahead, i_at, j_at, i_past.0, j_past.0, near, nigh, sparse))
      (λ behind. omega (arith, ints, behind, i_at, j_at, i_past.0, j_past.0, near, nigh, sparse))
      (walked-apart r.low r.high r.stride (j * unsigned_abs r.stride) (k * unsigned_abs r.stride) (unsigned_abs r.stride) way)

  -- so its blocks that have members are no fewer than its members, and than the offsets at which they lie
  pub offsets-blocks : (start : ℤ) (n : ℕ) → size < unsigned_abs r.stride → BeginsRound start (extent * size) origin → IsWithinValues (block_offset origin size) (filter (λ i. block_number origin size i % extent == coordinate) (members_of r)) n → IsWithinValues (λ i. int_div_euclid (i -ℤ start) (pos size)) (filter (λ i. block_number origin size i % extent == coordinate) (members_of r)) n
  offsets-blocks start n sparse begins within =
      let dealt = filter (λ i. block_number origin size i % extent == coordinate) (members_of r) in
      numbers-blocks start n begins
      (IsWithinValues-less (block_number origin size) dealt n (length dealt) (IsWithinValues-length (block_offset origin size) dealt n within)
      (IsWithinValues-apart (block_number origin size) dealt (AllPairs-filter (λ i j. block_number origin size i ≡ block_number origin size j → ⊥) (λ i. block_number origin size i % extent == coordinate) (members_of r) (members-apart sparse))))
