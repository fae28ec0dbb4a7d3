-- Each `period`-th member of a range, from one of them on, are the members of a range of its own.
use Rattle.std.proofs.Common.{◌≡◌, ℕ, zero, suc, ◌+◌, ◌-◌, ◌*◌, ◌%◌, true, filter, ◌<◌, ◌≤◌, ap, sym, ◌∙◌, arith, ℤ, pos, negsuc, ◌+ℤ◌, ◌^◌, ◌≤ℤ◌, ◌↔◌, unsigned_abs, refl, List, length, drop, slice_get, Some, None, ⊎_elim, [], ◌∷◌}
use Rattle.std.proofs.lemmas.Int.{ints}
use Rattle.std.proofs.lemmas.Bool.{cases_lt}
use Rattle.std.proofs.lemmas.Option.{slice_get_past, slice_get_within, slice_get-get_or, same_Some}
use Rattle.std.proofs.Math.Nat.{add-mul, mul_assoc, mul_comm, suc-mul, mul-le-mul}
use Rattle.std.specs.Int.{int_rem_euclid}
use Rattle.dpl_range.specs.Congruence.{is_congruent}
use Rattle.dpl_range.proofs.Congruence.{congruent-walked, step-remainder, periodic}
use Rattle.dpl_sets.specs.Members.{every, spaced}
use Rattle.dpl_sets.specs.Ranges.{RangeValue, members_of, IsBound}
use Rattle.dpl_range.specs.Invariant.{IsRange}
use Rattle.dpl_range.specs.Walk.{walked, nearer, begun, ahead, SameWay}
use Rattle.dpl_range.proofs.Lists.{slice_get-spaced, same_places, spaced-drop, filter-spaced, filter-none}
use Rattle.dpl_range.proofs.MemberLemmas.{span_of, slice_get-members, members-past, walk-within, nth-walked, members-empty}
use Rattle.dpl_range.proofs.SliceLemmas.{walked-begun}

slice_get-drop : (n : ℕ) (is : List ℤ) (k : ℕ) → slice_get (drop n is) k ≡ slice_get is (n + k)
slice_get-drop zero is k = ap (slice_get is) (omega arith)
slice_get-drop (suc n) [] k = refl
slice_get-drop (suc n) (i ∷ is) k = slice_get-drop n is k ∙ let e : suc (n + k) ≡ suc n + k = omega arith in ap (slice_get (i ∷ is)) e

-- the k-th of each `period`-th element from a place on
pub slice_get-every : (skipped period : ℕ) (is : List ℤ) (k : ℕ) → 0 < period → slice_get (every period (drop skipped is)) k ≡ slice_get is (skipped + k * period)
slice_get-every skipped zero is k positive = absurd (omega arith)
slice_get-every skipped (suc gap) is k positive =
    ap (λ g. slice_get (spaced g 0 (drop skipped is)) k) (omega arith)
    ∙ slice_get-spaced gap 0 (drop skipped is) k
    ∙ ap (slice_get (drop skipped is)) (omega arith)
    ∙ slice_get-drop skipped is (k * suc gap)

-- a range with one member
slice_get-only : (i : ℤ) (k : ℕ) → slice_get (members_of (record { low = i; high = i; stride = pos 1 })) (suc k) ≡ None
slice_get-only i k = members-past i i (pos 1) 0 1 (suc k) (omega (arith, ints)) refl (omega arith) (omega arith)

-- how far apart the bounds are of what was begun later
begun-span : (low high stride : ℤ) (offset span : ℕ) → low +ℤ pos span ≡ high → offset ≤ span → nearer stride (walked low high stride offset) (nearer stride high low) +ℤ pos (span - offset) ≡ nearer stride (nearer stride high low) (walked low high stride offset)
begun-span low high (pos s) offset span e within = omega (arith, ints)
begun-span low high (negsuc s) offset span e within = omega (arith, ints)

-- where a walk is lies within the bounds
pub IsBound-walked : (low high stride : ℤ) (offset : ℕ) → IsBound low → IsBound high → (low +ℤ pos offset) ≤ℤ high → IsBound (walked low high stride offset)
IsBound-walked low high (pos s) offset low_bound high_bound within = (omega (arith, ints), omega (arith, ints))
IsBound-walked low high (negsuc s) offset low_bound high_bound within = (omega (arith, ints), omega (arith, ints))

module _ (r : RangeValue) (skipped period : ℕ) (limits : IsRange r) (begins : skipped < length (members_of r)) (positive : 0 < period) where
  -- where only the first of them is left
  pub only-members : (i : ℤ) → i ≡ walked r.low r.high r.stride (skipped * unsigned_abs r.stride) → length (members_of r) ≤ skipped + period → members_of (record { low = i; high = i; stride = pos 1 }) ≡ every period (drop skipped (members_of r))
  only-members i is last = same_places _ _ at
    where
      at : (k : ℕ) → slice_get (members_of (record { low = i; high = i; stride = pos 1 })) k ≡ slice_get (every period (drop skipped (members_of r))) k
      at zero =
          slice_get-members i i (pos 1) 0 1 0 (omega (arith, ints)) refl (omega arith) (omega arith)
          ∙ ap Some (omega (arith, ints))
          ∙ ap Some is
          ∙ sym (nth-walked r skipped limits begins)
          ∙ ap (slice_get (members_of r)) (omega arith)
          ∙ sym (slice_get-every skipped period (members_of r) 0 positive)
      at (suc k) =
          slice_get-only i k
          ∙ sym (slice_get_past (members_of r) (skipped + suc k * period) (omega (arith, suc-mul k period)))
          ∙ sym (slice_get-every skipped period (members_of r) (suc k) positive)

  -- where more are left, the new stride is no longer than the bounds are apart
  pub begun-short : skipped + period < length (members_of r) → unsigned_abs r.stride * period ≤ 2 ^ 61
  begun-short more =
      let e = add-mul skipped period (unsigned_abs r.stride) in
      let f = mul_comm period (unsigned_abs r.stride) in
      omega (arith, ints, walk-within r (skipped + period) limits more, limits.low_is_bound, limits.high_is_bound)

  module _ (stride : ℤ) (same : SameWay r.stride stride) (size : unsigned_abs stride ≡ unsigned_abs r.stride * period) where
    near : (r.low +ℤ pos (skipped * unsigned_abs r.stride)) ≤ℤ r.high
    near = walk-within r skipped limits begins

    span : (d : ℕ) × (r.low +ℤ pos d ≡ r.high)
    span = span_of r.low r.high (omega (arith, ints, walk-within r skipped limits begins))

    begins-within : skipped * unsigned_abs r.stride ≤ span.0
    begins-within = omega (arith, ints, near, span.1)

    along : (k : ℕ) → (skipped + k * period) * unsigned_abs r.stride ≡ skipped * unsigned_abs r.stride + k * (unsigned_abs r.stride * period)
    along k =
        add-mul skipped (k * period) (unsigned_abs r.stride)
        ∙ ap (λ z. skipped * unsigned_abs r.stride + z) (mul_assoc k period (unsigned_abs r.stride) ∙ ap (λ z. k * z) (mul_comm period (unsigned_abs r.stride)))

    step-positive : 0 < unsigned_abs r.stride * period
    step-positive = mul-le-mul {n₁ = 1} {m₁ = 1} limits.stride_is_not_zero positive

    begun-at : (k : ℕ) → slice_get (members_of (begun r (skipped * unsigned_abs r.stride) (nearer r.stride r.high r.low) stride)) k ≡ slice_get (members_of r) (skipped + k * period)
    begun-at k =
        let s = begun r (skipped * unsigned_abs r.stride) (nearer r.stride r.high r.low) stride in
        let apart = begun-span r.low r.high r.stride (skipped * unsigned_abs r.stride) span.0 span.1 begins-within in
        let e = along k in
        ⊎_elim
        (λ past.
        members-past s.low s.high stride (span.0 - skipped * unsigned_abs r.stride) (unsigned_abs r.stride * period) k apart size step-positive (omega (arith, along k, begins-within))
        ∙ sym (members-past r.low r.high r.stride span.0 (unsigned_abs r.stride) (skipped + k * period) span.1 refl limits.stride_is_not_zero past))
        (λ within.
        slice_get-members s.low s.high stride (span.0 - skipped * unsigned_abs r.stride) (unsigned_abs r.stride * period) k apart size step-positive (omega (arith, along k, begins-within))
        ∙ ap Some (walked-begun r.low r.high r.stride stride (walked r.low r.high r.stride (skipped * unsigned_abs r.stride)) (nearer r.stride r.high r.low) (skipped * unsigned_abs r.stride) (k * (unsigned_abs r.stride * period)) same refl)
        ∙ ap (λ o. Some (walked r.low r.high r.stride o)) (sym e)
        ∙ sym (slice_get-members r.low r.high r.stride span.0 (unsigned_abs r.stride) (skipped + k * period) span.1 refl limits.stride_is_not_zero within))
        (cases_lt span.0 ((skipped + k * period) * unsigned_abs r.stride))

    pub begun-members : members_of (begun r (skipped * unsigned_abs r.stride) (nearer r.stride r.high r.low) stride) ≡ every period (drop skipped (members_of r))
    begun-members = same_places _ _ (λ k. begun-at k ∙ sym (slice_get-every skipped period (members_of r) k positive))

    -- and then two members are left
    pub begun-two : skipped + period < length (members_of r) → 2 ≤ length (members_of (begun r (skipped * unsigned_abs r.stride) (nearer r.stride r.high r.low) stride))
    begun-two more =
        let there = slice_get-get_or (members_of r) (skipped + 1 * period) (pos 0) (omega arith) in
        slice_get_within (members_of (begun r (skipped * unsigned_abs r.stride) (nearer r.stride r.high r.low) stride)) 1 _ (begun-at 1 ∙ there)

-- the members that are congruent to c, by the gap from c to the first integer of the walk
module _ (r : RangeValue) (c : ℤ) (n gap size : ℕ) (limits : IsRange r) (positive : 0 < n) (size-is : unsigned_abs r.stride ≡ size) (gap-is : int_rem_euclid (ahead r.low r.high r.stride c) (pos n) ≡ pos gap) where
  member-congruent : (k : ℕ) (i : ℤ) → slice_get (members_of r) k ≡ Some i → (is_congruent n c i ≡ true) ↔ ((gap + k * (size % n)) % n ≡ 0)
  member-congruent k i found =
      let at : i ≡ walked r.low r.high r.stride (k * size) =
      same_Some i _ (sym found ∙ nth-walked r k limits (slice_get_within (members_of r) k i found))
      ∙ ap (λ m. walked r.low r.high r.stride (k * m)) size-is in
      let d = congruent-walked r.low r.high r.stride c n gap (k * size) positive gap-is in
      let e = step-remainder n gap k size in
      ((λ h. e ∙ d.0 (ap (is_congruent n c) (sym at) ∙ h)), (λ h. ap (is_congruent n c) at ∙ d.1 (sym e ∙ h)))

  pub class-members : (first period : ℕ) → (gap + first * (size % n)) % n ≡ 0 → ((j : ℕ) → j < first → (gap + j * (size % n)) % n ≡ 0 → ⊥) → 0 < period → period * (size % n) % n ≡ 0 → ((j : ℕ) → 0 < j → j < period → j * (size % n) % n ≡ 0 → ⊥) → every period (drop first (members_of r)) ≡ filter (is_congruent n c) (members_of r)
  class-members first zero meets least some returns soonest = absurd (omega arith)
  class-members first (suc p) meets least some returns soonest =
      ap (λ g. spaced g 0 (drop first (members_of r))) (omega arith)
      ∙ sym (spaced-drop p first (members_of r))
      ∙ sym (filter-spaced (is_congruent n c) p first (members_of r) (λ k i found.
      let a = member-congruent k i found in
      let b = periodic n gap (size % n) first (suc p) meets least some returns soonest k in
      ((λ h. b.0 (a.0 h)), (λ h. a.1 (b.1 h)))))

  pub class-none : ((k : ℕ) → k < length (members_of r) → (gap + k * (size % n)) % n ≡ 0 → ⊥) → members_of (record { low = pos 1; high = pos 0; stride = pos 1 }) ≡ filter (is_congruent n c) (members_of r)
  class-none never =
      members-empty (pos 1) (pos 0) (pos 1) (omega (arith, ints))
      ∙ sym (filter-none (is_congruent n c) (members_of r) (λ k i found passes.
      never k (slice_get_within (members_of r) k i found) ((member-congruent k i found).0 passes)))
