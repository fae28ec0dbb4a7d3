-- The place of an index: the places of its coordinates, row by row, and no other.
use Rattle.std.proofs.Common.{◌≡◌, ℕ, zero, suc, ◌+◌, ◌*◌, ◌/◌, ◌%◌, ◌^◌, ◌<◌, ◌≤◌, List, length, refl, ap, sym, ◌∙◌, arith, Option, Some, None, ℤ, pos, slice_get, ◌↔◌, inl, inr, ⊎_elim, true, false, Fits, w64, Bool, filter, [], ◌∷◌, cond, subst}
use Rattle.std.proofs.lemmas.Bool.{cases_lt}
use Rattle.std.proofs.lemmas.Option.{none-some, same_Some, slice_get_within}
use Rattle.std.proofs.Math.Nat.{add-mul, mul-le-mul_right, mul-le-mul_left, mul-le-mul}
use Rattle.dpl_sets.specs.Ranges.{RangeValue, members_of}
use Rattle.dpl_sets.specs.Indices.{indices, IsSmall}
use Rattle.dpl_domain.specs.Ranks.{last_of, point, IsPadded}
use Rattle.dpl_domain.proofs.TupleLemmas.{cons_at, point-members, slice_get-line, tuple_at-some, tuple_at-parts, last_of-parts, length-last_of, slice_get-indices, slice_get-indices_at, indices-empty, place-indices, length-indices, IsPadded-coordinates}

-- the three numbers of a tuple at a place of a domain are members at the parts of that place
pub record StandsAt (o m i : RangeValue) (k : ℕ) (x y z : ℤ) : Type 0 where
  pub lines : 0 < length (members_of m)
  pub line : 0 < length (members_of i)
  pub outer : slice_get (members_of o) (k / length (members_of i) / length (members_of m)) ≡ Some x
  pub middle : slice_get (members_of m) (k / length (members_of i) % length (members_of m)) ≡ Some y
  pub inner : slice_get (members_of i) (k % length (members_of i)) ≡ Some z

-- the place of an index is below the number of indices
pub place-below : (a m n p q r : ℕ) → p < a → q < m → r < n → (p * m + q) * n + r < a * m * n
place-below a m n p q r p_below q_below r_below =
    let planes : (p + 1) * m ≤ a * m = mul-le-mul_right m (omega arith) in
    let lines : (p * m + q + 1) * n ≤ a * m * n = mul-le-mul_right n (omega (arith, add-mul p 1 m)) in
    omega (arith, add-mul (p * m + q) 1 n)

-- and so is each step on the way to it
pub place-steps : (a m n p q r : ℕ) → p < a → q < m → r < n → a * m * n ≤ 2 ^ 40 → Fits w64 (p * m) × Fits w64 (p * m + q) × Fits w64 ((p * m + q) * n) × Fits w64 ((p * m + q) * n + r)
place-steps a m n p q r p_below q_below r_below small =
    let whole = place-below a m n p q r p_below q_below r_below in
    let line : (p * m + q) * 1 ≤ (p * m + q) * n = mul-le-mul_left (p * m + q) (omega arith) in
    (record { fits = omega (arith, whole, line) }, record { fits = omega (arith, whole, line) }, record { fits = omega (arith, whole, line) }, record { fits = omega (arith, whole, line) })

-- the same of a plane
pub plane-steps : (rank : ℕ) (o m i : RangeValue) (q r : ℕ) → rank ≡ 2 → IsPadded point rank o m → q < length (members_of m) → r < length (members_of i) → IsSmall (last_of rank o m i) → Fits w64 (q * length (members_of i)) × Fits w64 (q * length (members_of i) + r)
plane-steps rank o m i q r two padded q_below r_below small =
    let one : length (members_of o) ≡ 1 = ap length (point-members o (padded.first (omega arith))) in
    let many : length (indices (last_of rank o m i)) ≡ 1 * length (members_of m) * length (members_of i) =
    length-indices rank o m i padded ∙ ap (λ n. n * length (members_of m) * length (members_of i)) one in
    let below : (0 * length (members_of m) + q) * length (members_of i) + r < 1 * length (members_of m) * length (members_of i) = place-below 1 (length (members_of m)) (length (members_of i)) 0 q r (omega arith) q_below r_below in
    let row : 0 * length (members_of m) + q ≡ q = omega arith in
    let same : (0 * length (members_of m) + q) * length (members_of i) ≡ q * length (members_of i) = ap (λ n. n * length (members_of i)) row in
    (record { fits = omega (arith, below, same, small, many) }, record { fits = omega (arith, below, same, small, many) })

-- a coordinate that an index does not have is the only member of a range that its domain does not have
pub place-unused : (o : RangeValue) (x : ℤ) → o ≡ point → x ≡ pos 0 → (k : ℕ) → (Some 0 ≡ Some k) ↔ (slice_get (members_of o) k ≡ Some x)
place-unused o x range number k =
    rw (point-members o range, number) (go k)
  where
    go : (k : ℕ) → (Some 0 ≡ Some k) ↔ (slice_get (pos 0 ∷ []) k ≡ Some (pos 0))
    go zero = ((λ _. refl), (λ _. refl))
    go (suc k) = ((λ here. absurd (let e : 0 ≡ suc k = same_Some 0 (suc k) here in omega (arith, e))), (λ found. absurd (none-some (pos 0) found)))

module _ (rank : ℕ) (o m i : RangeValue) (padded : IsPadded point rank o m) where
  parts : (k : ℕ) (t : List ℤ) → slice_get (indices (last_of rank o m i)) k ≡ Some t → (x : ℤ) × (y : ℤ) × (z : ℤ) × StandsAt o m i k x y z × (last_of rank x y z ≡ t)
  parts k t found =
      ⊎_elim
      (λ lines. ⊎_elim
      (λ line.
      let h = tuple_at-parts rank _ _ _ t (sym (slice_get-indices_at rank o m i k padded lines line) ∙ found) in
      (h.0, h.1, h.2, record { lines = lines; line = line; outer = h.3; middle = h.4; inner = h.5 }, h.6))
      (λ no_line. absurd (none-some t (sym (indices-empty rank o m i k padded (inr (omega arith))) ∙ found)))
      (cases_lt 0 (length (members_of i))))
      (λ no_lines. absurd (none-some t (sym (indices-empty rank o m i k padded (inl (omega arith))) ∙ found)))
      (cases_lt 0 (length (members_of m)))

  -- every index has the domain's rank
  pub length-index : (k : ℕ) (t : List ℤ) → slice_get (indices (last_of rank o m i)) k ≡ Some t → length t ≡ rank
  length-index k t found =
      let h = parts k t found in
      ap length (sym h.4) ∙ length-last_of rank h.0 h.1 h.2 padded.to_three

  module _ (t : List ℤ) (x y z : ℤ) (is : t ≡ last_of rank x y z) (t_padded : IsPadded (pos 0) rank x y) where
    stands : (k : ℕ) → slice_get (indices (last_of rank o m i)) k ≡ Some t → StandsAt o m i k x y z
    stands k found =
        let h = parts k t found in
        let s = h.3 in
        let same = last_of-parts rank h.0 h.1 h.2 x y z (IsPadded-coordinates rank o m _ _ h.0 h.1 padded s.outer s.middle) t_padded (h.4 ∙ is) in
        record { lines = s.lines; line = s.line; outer = s.outer ∙ ap Some same.0; middle = s.middle ∙ ap Some same.1; inner = s.inner ∙ ap Some same.2 }

    -- a number that has no place leaves the index without one
    pub no-outer : ((k : ℕ) → (None ≡ Some k) ↔ (slice_get (members_of o) k ≡ Some x)) → (k : ℕ) → (None ≡ Some k) ↔ (slice_get (indices (last_of rank o m i)) k ≡ Some t)
    no-outer none k = ((λ here. absurd (none-some k here)), (λ found. absurd (none-some _ ((none _).1 (stands k found).outer))))

    pub no-middle : ((k : ℕ) → (None ≡ Some k) ↔ (slice_get (members_of m) k ≡ Some y)) → (k : ℕ) → (None ≡ Some k) ↔ (slice_get (indices (last_of rank o m i)) k ≡ Some t)
    no-middle none k = ((λ here. absurd (none-some k here)), (λ found. absurd (none-some _ ((none _).1 (stands k found).middle))))

    pub no-inner : ((k : ℕ) → (None ≡ Some k) ↔ (slice_get (members_of i) k ≡ Some z)) → (k : ℕ) → (None ≡ Some k) ↔ (slice_get (indices (last_of rank o m i)) k ≡ Some t)
    no-inner none k = ((λ here. absurd (none-some k here)), (λ found. absurd (none-some _ ((none _).1 (stands k found).inner))))

    module _ (p q r : ℕ) (outer : (k : ℕ) → (Some p ≡ Some k) ↔ (slice_get (members_of o) k ≡ Some x)) (middle : (k : ℕ) → (Some q ≡ Some k) ↔ (slice_get (members_of m) k ≡ Some y)) (inner : (k : ℕ) → (Some r ≡ Some k) ↔ (slice_get (members_of i) k ≡ Some z)) where
      pub place-some : (k : ℕ) → (Some ((p * length (members_of m) + q) * length (members_of i) + r) ≡ Some k) ↔ (slice_get (indices (last_of rank o m i)) k ≡ Some t)
      place-some k =
          let x_at = (outer p).0 refl in
          let y_at = (middle q).0 refl in
          let z_at = (inner r).0 refl in
          let q_within = slice_get_within (members_of m) q y y_at in
          let r_within = slice_get_within (members_of i) r z z_at in (
            (λ here.
                ap (slice_get (indices (last_of rank o m i))) (sym (same_Some ((p * length (members_of m) + q) * length (members_of i) + r) k here))
                ∙ slice_get-indices rank o m i p q r padded q_within r_within
                ∙ tuple_at-some rank _ _ _ x y z x_at y_at z_at
                ∙ ap Some (sym is)),
            (λ found. let s = stands k found in
                ap Some (sym (place-indices rank o m i k p q r padded q_within r_within s.lines
                (sym (same_Some p _ ((outer _).1 s.outer)))
                (sym (same_Some q _ ((middle _).1 s.middle)))
                (sym (same_Some r _ ((inner _).1 s.inner)))))),
          )

      -- in a domain of rank 2 the first of the three places is 0
      pub place-two : p ≡ 0 → (k : ℕ) → (Some (q * length (members_of i) + r) ≡ Some k) ↔ (slice_get (indices (last_of rank o m i)) k ≡ Some t)
      place-two none k =
          let row : p * length (members_of m) + q ≡ q = ap (λ n. n * length (members_of m) + q) none ∙ omega arith in
          subst (λ n. (Some (n * length (members_of i) + r) ≡ Some k) ↔ (slice_get (indices (last_of rank o m i)) k ≡ Some t)) row (place-some k)

-- an index of one coordinate stands where the coordinate does
cons_at-one : (o : Option ℤ) (z : ℤ) → (o ≡ Some z) ↔ (cons_at o (Some []) ≡ Some (z ∷ []))
cons_at-one None z = ((λ e. absurd (none-some z e)), (λ e. absurd (none-some (z ∷ []) e)))
cons_at-one (Some a) z = ((λ e. let same : a ≡ z = same_Some a z e in cc), (λ e. cc))

pub place-one : (rank : ℕ) (o m i : RangeValue) (x y z : ℤ) (place : Option ℕ) → rank ≡ 1 → ((k : ℕ) → (place ≡ Some k) ↔ (slice_get (members_of i) k ≡ Some z)) → (k : ℕ) → (place ≡ Some k) ↔ (slice_get (indices (last_of rank o m i)) k ≡ Some (last_of rank x y z))
unfolding indices
place-one zero o m i x y z place one inverse k = absurd (omega arith)
place-one (suc zero) o m i x y z place one inverse k =
    let at = slice_get-line (members_of i) k in (
      (λ here. at ∙ (cons_at-one (slice_get (members_of i) k) z).0 ((inverse k).0 here)),
      (λ found. (inverse k).1 ((cons_at-one (slice_get (members_of i) k) z).1 (sym at ∙ found))),
    )
place-one (suc (suc n)) o m i x y z place one inverse k = absurd (omega arith)

-- an index of another rank has no place
pub place-other : (rank : ℕ) (o m i : RangeValue) → IsPadded point rank o m → (t : List ℤ) → (length t ≡ rank → ⊥) → (k : ℕ) → (None ≡ Some k) ↔ (slice_get (indices (last_of rank o m i)) k ≡ Some t)
place-other rank o m i padded t other k =
    ((λ here. absurd (none-some k here)), (λ found. absurd (other (length-index rank o m i padded k t found))))

-- a filter keeps no more than there was
pub length-filter_le : {X : Type 0} (p : X → Bool) (xs : List X) → length (filter p xs) ≤ length xs
length-filter_le p [] = omega arith
length-filter_le p (x ∷ xs) = go (p x) (length-filter_le p xs)
  where
    go : (b : Bool) → length (filter p xs) ≤ length xs → length (cond b (x ∷ filter p xs) (filter p xs)) ≤ suc (length xs)
    go true rest = omega arith
    go false rest = omega arith

-- where each of three dimensions has no more members, the domain has no more indices
pub fewer-indices : (rank : ℕ) (o m i o' m' i' : RangeValue) → IsPadded point rank o m → IsPadded point rank o' m' → length (members_of o') ≤ length (members_of o) → length (members_of m') ≤ length (members_of m) → length (members_of i') ≤ length (members_of i) → length (indices (last_of rank o m i)) ≤ 2 ^ 40 → length (indices (last_of rank o' m' i')) ≤ 2 ^ 40
fewer-indices rank o m i o' m' i' padded padded' outer middle inner small =
    let planes = mul-le-mul outer middle in
    let all = mul-le-mul planes inner in
    omega (arith, all, length-indices rank o m i padded, length-indices rank o' m' i' padded')

-- the same for ranges of which some are slices, by the rank
pub fewer-one : (rank : ℕ) (o m i i' : RangeValue) → rank ≡ 1 → IsPadded point rank o m → IsSmall (last_of rank o m i) → length (members_of i') ≤ length (members_of i) → IsSmall (last_of 1 o m i')
fewer-one rank o m i i' same padded small inner =
    let p = subst (λ n. IsPadded point n o m) same padded in
    fewer-indices 1 o m i o m i' p p (omega arith) (omega arith) inner (subst (λ n. IsSmall (last_of n o m i)) same small)

pub fewer-two : (rank : ℕ) (o m i m' i' : RangeValue) → rank ≡ 2 → IsPadded point rank o m → IsSmall (last_of rank o m i) → length (members_of m') ≤ length (members_of m) → length (members_of i') ≤ length (members_of i) → IsSmall (last_of 2 o m' i')
fewer-two rank o m i m' i' same padded small middle inner =
    let p = subst (λ n. IsPadded point n o m) same padded in
    fewer-indices 2 o m i o m' i' p
    (record { from_one = omega arith; to_three = omega arith; first = p.first; second = λ below. absurd (omega arith) })
    (omega arith) middle inner (subst (λ n. IsSmall (last_of n o m i)) same small)

pub fewer-three : (rank : ℕ) (o m i o' m' i' : RangeValue) → rank ≡ 3 → IsPadded point rank o m → IsSmall (last_of rank o m i) → length (members_of o') ≤ length (members_of o) → length (members_of m') ≤ length (members_of m) → length (members_of i') ≤ length (members_of i) → IsSmall (last_of 3 o' m' i')
fewer-three rank o m i o' m' i' same padded small outer middle inner =
    let p = subst (λ n. IsPadded point n o m) same padded in
    fewer-indices 3 o m i o' m' i' p
    (record { from_one = omega arith; to_three = omega arith; first = λ below. absurd (omega arith); second = λ below. absurd (omega arith) })
    outer middle inner (subst (λ n. IsSmall (last_of n o m i)) same small)
