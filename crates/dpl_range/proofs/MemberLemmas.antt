-- The closed form of a range's members: how many there are, and which one stands at a place.
-- `span` is how far the high bound lies above the low one, and `n` the size of the stride.
use Rattle.std.proofs.Common.{◌≡◌, ℕ, zero, suc, ◌+◌, ◌-◌, ◌*◌, ◌/◌, ◌<◌, ◌≤◌, List, [], length, reverse, get_or, refl, ap, sym, ◌∙◌, arith, Some, None, ℤ, pos, negsuc, ◌+ℤ◌, ◌-ℤ◌, ◌<ℤ◌, ◌≤ℤ◌, slice_get, ⊎_elim, ◌↔◌, ◌⊎◌, ◌%◌, ◌^◌, Fits, w64, All, unsigned_abs}
use Rattle.std.proofs.lemmas.Option.{slice_get-get_or, slice_get_past, none-some, same_Some}
use Rattle.std.proofs.lemmas.Int.{ints, by_lt_z}
use Rattle.std.proofs.lemmas.List.{length-reverse}
use Rattle.std.proofs.Math.Nat.{le-div_iff_mul-le, div-lt_iff_lt-mul, div-add-mod, mul-div_cancel, mul-mod_left, div-le_self}
use Rattle.std.proofs.lemmas.Bool.{cases_lt}
use Rattle.dpl_sets.specs.Members.{members, between, rising, spaced, count_of}
use Rattle.dpl_sets.specs.Ranges.{RangeValue, members_of}
use Rattle.dpl_range.specs.Invariant.{IsRange}
use Rattle.dpl_range.specs.Walk.{walked}
use Rattle.dpl_range.proofs.Lists.{slice_get-spaced, slice_get-reverse, length-by_places}

pub length-rising : (first : ℤ) (n : ℕ) → length (rising first n) ≡ n
length-rising first zero = refl
length-rising first (suc n) = ap suc (length-rising (first +ℤ pos 1) n)

pub slice_get-rising : (first : ℤ) (n k : ℕ) → k < n → slice_get (rising first n) k ≡ Some (first +ℤ pos k)
slice_get-rising first zero k within = absurd (omega arith)
slice_get-rising first (suc n) zero within = ap Some (omega (arith, ints))
slice_get-rising first (suc n) (suc k) within =
    slice_get-rising (first +ℤ pos 1) n k (omega arith) ∙ ap Some (omega (arith, ints))

-- a count that is known to be the natural number n
count_of-is : (z : ℤ) (n : ℕ) → z ≡ pos n → count_of z ≡ n
count_of-is (pos m) n e = cc
count_of-is (negsuc m) n e = cc

count_of-negative : (z : ℤ) → z ≤ℤ pos 0 → count_of z ≡ 0
count_of-negative (pos zero) h = refl
count_of-negative (pos (suc m)) h = absurd (omega (arith, ints))
count_of-negative (negsuc m) h = refl

pub between-is : (low high : ℤ) (span : ℕ) → low +ℤ pos span ≡ high → between low high ≡ rising low (suc span)
between-is low high span e = ap (rising low) (count_of-is (high +ℤ pos 1 -ℤ low) (suc span) (omega (arith, ints)))

pub between-empty : (low high : ℤ) → high <ℤ low → between low high ≡ []
between-empty low high h = ap (rising low) (count_of-negative (high +ℤ pos 1 -ℤ low) (omega (arith, ints)))

-- the integers of a range in the order of its walk, of which the stride keeps some
walk : ℤ → ℤ → ℤ → List ℤ
walk low high (pos _) = between low high
walk low high (negsuc _) = reverse (between low high)

members-walk : (low high stride : ℤ) (n : ℕ) → unsigned_abs stride ≡ suc n → members low high stride ≡ spaced n 0 (walk low high stride)
unfolding members walk
members-walk low high (pos s) n e = ap (λ gap. spaced gap 0 (between low high)) (omega arith)
members-walk low high (negsuc s) n e = ap (λ gap. spaced gap 0 (reverse (between low high))) (omega arith)

length-walk : (low high stride : ℤ) (span : ℕ) → low +ℤ pos span ≡ high → length (walk low high stride) ≡ suc span
unfolding walk
length-walk low high (pos s) span e = rw (between-is low high span e) (length-rising low (suc span))
length-walk low high (negsuc s) span e =
    length-reverse (between low high) ∙ ap length (between-is low high span e) ∙ length-rising low (suc span)

slice_get-walk : (low high stride : ℤ) (span offset : ℕ) → low +ℤ pos span ≡ high → offset ≤ span → slice_get (walk low high stride) offset ≡ Some (walked low high stride offset)
unfolding walk
slice_get-walk low high (pos s) span offset e within =
    rw (between-is low high span e) (slice_get-rising low (suc span) offset (omega arith))
slice_get-walk low high (negsuc s) span offset e within =
    let long : length (between low high) ≡ suc span = ap length (between-is low high span e) ∙ length-rising low (suc span) in
    slice_get-reverse (between low high) offset (omega arith)
    ∙ ap (slice_get (between low high)) (omega arith)
    ∙ ap (λ is. slice_get is (span - offset)) (between-is low high span e)
    ∙ slice_get-rising low (suc span) (span - offset) (omega arith)
    ∙ ap Some (omega (arith, ints))

-- no integer is left past the end of the walk
walk-past : (low high stride : ℤ) (span offset : ℕ) → low +ℤ pos span ≡ high → span < offset → slice_get (walk low high stride) offset ≡ None
walk-past low high stride span offset e past =
    slice_get_past (walk low high stride) offset (omega (arith, length-walk low high stride span e))

-- the member at a place
pub slice_get-members : (low high stride : ℤ) (span n k : ℕ) → low +ℤ pos span ≡ high → unsigned_abs stride ≡ n → 0 < n → k * n ≤ span → slice_get (members low high stride) k ≡ Some (walked low high stride (k * n))
slice_get-members low high stride span zero k e size positive within = absurd (omega arith)
slice_get-members low high stride span (suc n) k e size positive within =
    ap (λ is. slice_get is k) (members-walk low high stride n size)
    ∙ slice_get-spaced n 0 (walk low high stride) k
    ∙ ap (slice_get (walk low high stride)) (omega arith)
    ∙ slice_get-walk low high stride span (k * suc n) e within

-- no member stands at a place past the last
pub members-past : (low high stride : ℤ) (span n k : ℕ) → low +ℤ pos span ≡ high → unsigned_abs stride ≡ n → 0 < n → span < k * n → slice_get (members low high stride) k ≡ None
members-past low high stride span zero k e size positive past = absurd (omega arith)
members-past low high stride span (suc n) k e size positive past =
    ap (λ is. slice_get is k) (members-walk low high stride n size)
    ∙ slice_get-spaced n 0 (walk low high stride) k
    ∙ ap (slice_get (walk low high stride)) (omega arith)
    ∙ walk-past low high stride span (k * suc n) e past

-- how many members there are
pub length-members : (low high stride : ℤ) (span n : ℕ) → low +ℤ pos span ≡ high → unsigned_abs stride ≡ n → 0 < n → length (members low high stride) ≡ span / n + 1
length-members low high stride span n e size positive =
    length-by_places (members low high stride) (span / n + 1)
    (λ k below none. none-some (walked low high stride (k * n)) (sym none ∙ slice_get-members low high stride span n k e size positive ((le-div_iff_mul-le positive).0 (omega arith))))
    (members-past low high stride span n (span / n + 1) e size positive ((div-lt_iff_lt-mul positive).0 (omega arith)))

-- where a member stands
pub member-walked : (low high stride : ℤ) (span n k : ℕ) (i : ℤ) → low +ℤ pos span ≡ high → unsigned_abs stride ≡ n → 0 < n → slice_get (members low high stride) k ≡ Some i → (k * n ≤ span) × (i ≡ walked low high stride (k * n))
member-walked low high stride span n k i e size positive found =
    ⊎_elim
    (λ past. absurd (none-some i (sym (members-past low high stride span n k e size positive past) ∙ found)))
    (λ within. (within, same_Some i (walked low high stride (k * n)) (sym found ∙ slice_get-members low high stride span n k e size positive within)))
    (cases_lt span (k * n))

-- a range with its high bound below its low one has no members
pub members-empty : (low high stride : ℤ) → high <ℤ low → members low high stride ≡ []
unfolding members
members-empty low high (pos s) below = rw (between-empty low high below)
members-empty low high (negsuc s) below = rw (between-empty low high below)

-- a whole number from 0 on counts itself
pub count_of-natural : (z : ℤ) → pos 0 ≤ℤ z → pos (count_of z) ≡ z
count_of-natural (pos n) h = refl
count_of-natural (negsuc n) h = absurd (omega (arith, ints))

-- the distance from a low bound to a high one
pub span_of : (low high : ℤ) → low ≤ℤ high → (span : ℕ) × (low +ℤ pos span ≡ high)
span_of low high ordered =
    let e : pos (count_of (high -ℤ low)) ≡ high -ℤ low = count_of-natural (high -ℤ low) (omega (arith, ints)) in
    (count_of (high -ℤ low), omega (arith, ints))

-- a walk is at an integer once
walked-injective : (low high stride : ℤ) (a b : ℕ) → walked low high stride a ≡ walked low high stride b → a ≡ b
walked-injective low high (pos s) a b e = omega (arith, ints)
walked-injective low high (negsuc s) a b e = omega (arith, ints)

-- a member is no less than the low bound and no more than the high one
pub member-within : (low high stride : ℤ) (k : ℕ) (i : ℤ) → 0 < unsigned_abs stride → slice_get (members low high stride) k ≡ Some i → (low ≤ℤ i) × (i ≤ℤ high)
member-within low high stride k i positive found =
    by_lt_z high low
    (λ below. absurd (none-some i (ap (λ is. slice_get is k) (sym (members-empty low high stride below)) ∙ found)))
    (λ ordered. let d = span_of low high ordered in
    walked-within low high stride d.0 (k * unsigned_abs stride) i d.1 (member-walked low high stride d.0 (unsigned_abs stride) k i d.1 refl positive found))
  where
    walked-within : (low high stride : ℤ) (span offset : ℕ) (i : ℤ) → low +ℤ pos span ≡ high → (offset ≤ span) × (i ≡ walked low high stride offset) → (low ≤ℤ i) × (i ≤ℤ high)
    walked-within low high (pos s) span offset i e h = (omega (arith, ints), omega (arith, ints))
    walked-within low high (negsuc s) span offset i e h = (omega (arith, ints), omega (arith, ints))

-- a place below the number of members lies within the walk
pub walk-within : (r : RangeValue) (k : ℕ) → IsRange r → k < length (members_of r) → (r.low +ℤ pos (k * unsigned_abs r.stride)) ≤ℤ r.high
walk-within r k limits within =
    by_lt_z r.high r.low
    (λ below. absurd (omega (arith, ap length (members-empty r.low r.high r.stride below))))
    (λ ordered. let d = span_of r.low r.high ordered in
    let near : k * unsigned_abs r.stride ≤ d.0 =
    (le-div_iff_mul-le limits.stride_is_not_zero).0 (omega (arith, length-members r.low r.high r.stride d.0 (unsigned_abs r.stride) d.1 refl limits.stride_is_not_zero)) in
    omega (arith, ints))

-- and so its offset is short
pub walk-short : (r : RangeValue) (n k : ℕ) → IsRange r → unsigned_abs r.stride ≡ n → k < length (members_of r) → Fits w64 (k * n)
walk-short r n k limits size within =
    let e : k * unsigned_abs r.stride ≡ k * n = ap (λ m. k * m) size in
    record { fits = omega (arith, ints, walk-within r k limits within, limits.low_is_bound, limits.high_is_bound) }

-- the member at a place is where the walk is then
pub nth-walked : (r : RangeValue) (k : ℕ) → IsRange r → k < length (members_of r) → slice_get (members_of r) k ≡ Some (walked r.low r.high r.stride (k * unsigned_abs r.stride))
nth-walked r k limits within =
    let near : (r.low +ℤ pos (k * unsigned_abs r.stride)) ≤ℤ r.high = walk-within r k limits within in
    let d = span_of r.low r.high (omega (arith, ints)) in
    slice_get-members r.low r.high r.stride d.0 (unsigned_abs r.stride) k d.1 refl limits.stride_is_not_zero (omega (arith, ints))

-- where a walk is at i, i's place is the number of strides up to there, if they are whole
pub place-walked : (r : RangeValue) (offset k : ℕ) (i : ℤ) → IsRange r → (r.low +ℤ pos offset) ≤ℤ r.high → i ≡ walked r.low r.high r.stride offset → (slice_get (members_of r) k ≡ Some i) ↔ (offset ≡ k * unsigned_abs r.stride)
place-walked r offset k i limits within at =
    let d = span_of r.low r.high (omega (arith, ints)) in (
      (λ found. walked-injective r.low r.high r.stride offset (k * unsigned_abs r.stride) (sym at ∙ (member-walked r.low r.high r.stride d.0 (unsigned_abs r.stride) k i d.1 refl limits.stride_is_not_zero found).1)),
      (λ whole. slice_get-members r.low r.high r.stride d.0 (unsigned_abs r.stride) k d.1 refl limits.stride_is_not_zero (omega (arith, ints)) ∙ ap Some (ap (walked r.low r.high r.stride) (sym whole) ∙ sym at)),
    )

-- which is the quotient, where the stride divides the offset
pub place-whole : (r : RangeValue) (n offset : ℕ) (i : ℤ) → IsRange r → unsigned_abs r.stride ≡ n → (r.low +ℤ pos offset) ≤ℤ r.high → i ≡ walked r.low r.high r.stride offset → offset % n ≡ 0 → (k : ℕ) → (Some (offset / n) ≡ Some k) ↔ (slice_get (members_of r) k ≡ Some i)
place-whole r n offset i limits size within at whole k =
    let positive : 0 < n = rw size at limits.stride_is_not_zero in
    let exact : offset ≡ offset / n * n = omega (arith, div-add-mod offset n) in (
      (λ here. (place-walked r offset k i limits within at).1 (exact ∙ ap (λ m. m * n) (same_Some (offset / n) k here) ∙ ap (λ m. k * m) (sym size))),
      (λ found. ap Some (ap (λ m. m / n) ((place-walked r offset k i limits within at).0 found ∙ ap (λ m. k * m) size) ∙ mul-div_cancel k positive)),
    )

-- in a range of stride 1 an integer's place is how far it lies above the low bound
pub place-unit : (r : RangeValue) (n : ℕ) (i : ℤ) → IsRange r → r.stride ≡ pos 1 → i ≤ℤ r.high → r.low +ℤ pos n ≡ i → (k : ℕ) → (Some n ≡ Some k) ↔ (slice_get (members_of r) k ≡ Some i)
place-unit r n i limits unit below at =
    let within : (r.low +ℤ pos n) ≤ℤ r.high = omega (arith, ints) in
    let walk : i ≡ walked r.low r.high r.stride n = sym at ∙ ap (λ s. walked r.low r.high s n) (sym unit) in
    let whole : n / 1 ≡ n = omega arith in
    rw whole at (place-whole r 1 n i limits (ap unsigned_abs unit) within walk (omega arith))

-- and there is no such place where it does not
pub place-broken : (r : RangeValue) (n offset : ℕ) (i : ℤ) → IsRange r → unsigned_abs r.stride ≡ n → (r.low +ℤ pos offset) ≤ℤ r.high → i ≡ walked r.low r.high r.stride offset → (offset % n ≡ 0 → ⊥) → (k : ℕ) → (None ≡ Some k) ↔ (slice_get (members_of r) k ≡ Some i)
place-broken r n offset i limits size within at broken k = (
  (λ here. absurd (none-some k here)),
  (λ found. absurd (broken (ap (λ m. m % n) ((place-walked r offset k i limits within at).0 found ∙ ap (λ m. k * m) size) ∙ mul-mod_left k n))),
)

-- an integer outside the bounds has no place
pub place-outside : (r : RangeValue) (i : ℤ) → IsRange r → (i <ℤ r.low) ⊎ (r.high <ℤ i) → (k : ℕ) → (None ≡ Some k) ↔ (slice_get (members_of r) k ≡ Some i)
place-outside r i limits outside k = (
  (λ here. absurd (none-some k here)),
  (λ found. let h = member-within r.low r.high r.stride k i limits.stride_is_not_zero found in
      ⊎_elim (λ below. absurd (omega (arith, ints))) (λ above. absurd (omega (arith, ints))) outside),
)

-- no integer is a member twice
pub members-distinct : (r : RangeValue) (j k : ℕ) (i : ℤ) → IsRange r → slice_get (members_of r) j ≡ Some i → slice_get (members_of r) k ≡ Some i → j ≡ k
members-distinct r j k i limits here there =
    let within = member-within r.low r.high r.stride j i limits.stride_is_not_zero here in
    let d = span_of r.low r.high (omega (arith, ints)) in
    let a = (member-walked r.low r.high r.stride d.0 (unsigned_abs r.stride) j i d.1 refl limits.stride_is_not_zero here).1 in
    let b = (member-walked r.low r.high r.stride d.0 (unsigned_abs r.stride) k i d.1 refl limits.stride_is_not_zero there).1 in
    mul_cancel j k (unsigned_abs r.stride) limits.stride_is_not_zero (walked-injective r.low r.high r.stride (j * unsigned_abs r.stride) (k * unsigned_abs r.stride) (sym a ∙ b))
  where
    mul_cancel : (j k n : ℕ) → 0 < n → j * n ≡ k * n → j ≡ k
    mul_cancel j k n positive e = sym (mul-div_cancel j positive) ∙ ap (λ m. m / n) e ∙ mul-div_cancel k positive

-- every member lies between the bounds
pub members-within : (r : RangeValue) → IsRange r → All (λ i. (r.low ≤ℤ i) × (i ≤ℤ r.high)) (members_of r)
members-within r limits = λ k d within.
    member-within r.low r.high r.stride k (get_or (members_of r) k d) limits.stride_is_not_zero (slice_get-get_or (members_of r) k d within)

-- and there are no more than from -2^60 to 2^60
pub length-members_limit : (r : RangeValue) → IsRange r → length (members_of r) ≤ 2 ^ 61 + 1
length-members_limit r limits =
    by_lt_z r.high r.low
    (λ below. omega (arith, ap length (members-empty r.low r.high r.stride below)))
    (λ ordered. let d = span_of r.low r.high ordered in
    let long = length-members r.low r.high r.stride d.0 (unsigned_abs r.stride) d.1 refl limits.stride_is_not_zero in
    omega (arith, ints, div-le_self d.0 (unsigned_abs r.stride), limits.low_is_bound, limits.high_is_bound))
