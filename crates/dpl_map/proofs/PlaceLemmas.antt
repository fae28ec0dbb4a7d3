-- The formulas of a place along one dimension, by cases.
use Rattle.std.proofs.Common.{◌≡◌, ℕ, ◌+◌, ◌-◌, ◌*◌, ◌/◌, ◌<◌, ◌≤◌, refl, arith, ℤ, pos, negsuc, ◌-ℤ◌, ◌<ℤ◌, ◌≤ℤ◌, true, false, unsigned_abs, int_lt}
use Rattle.std.specs.Int.{int_rem_euclid}
use Rattle.std.proofs.lemmas.Int.{ints}
use Rattle.std.proofs.lemmas.Nat.{div_below}
use Rattle.std.proofs.Math.Nat.{mul-le-mul_right}
use Rattle.dpl_sets.specs.Members.{count_of}
use Rattle.dpl_map.specs.Places.{block_place}

pub under : (a b : ℤ) → a <ℤ b → int_lt a b ≡ true
under a b h = grind (arith, ints)

pub not_under : (a b : ℤ) → b ≤ℤ a → int_lt a b ≡ false
not_under a b h = grind (arith, ints)

pub block-below : (low high : ℤ) (n : ℕ) (i : ℤ) → i <ℤ low → block_place low high n i ≡ 0
unfolding block_place
block-below low high n i below = rw (under i low below) refl

pub block-above : (low high : ℤ) (n : ℕ) (i : ℤ) → low ≤ℤ high → high <ℤ i → block_place low high n i ≡ n - 1
unfolding block_place
block-above low high n i ordered above =
    let after : low ≤ℤ i = omega (arith, ints) in
    rw (not_under i low after, under high i above) refl

-- how far an index lies above the low bound of the box, and the high bound
pub block-at : (low high : ℤ) (n offset span : ℕ) (i : ℤ) → i -ℤ low ≡ pos offset → high -ℤ low ≡ pos span → offset ≤ span → block_place low high n i ≡ offset * n / (span + 1)
unfolding block_place
block-at low high n offset span i at wide within =
    let from : low ≤ℤ i = omega (arith, ints) in
    let to : i ≤ℤ high = omega (arith, ints) in
    rw (not_under i low from, not_under high i to, at, wide) refl

pub block-within : (low high : ℤ) (n : ℕ) (i : ℤ) → low ≤ℤ i → i ≤ℤ high → block_place low high n i ≡ unsigned_abs (i -ℤ low) * n / (unsigned_abs (high -ℤ low) + 1)
block-within low high n i from to =
    block-at low high n (unsigned_abs (i -ℤ low)) (unsigned_abs (high -ℤ low)) i (omega (arith, ints)) (omega (arith, ints)) (omega (arith, ints))

-- a remainder is no integer below 0
pub count-rem : (z : ℤ) (n : ℕ) → int_rem_euclid z (pos n) ≡ pos (count_of (int_rem_euclid z (pos n)))
count-rem (pos a) n = refl
count-rem (negsuc a) n = refl

pub size-rem : (z : ℤ) (n : ℕ) → unsigned_abs (int_rem_euclid z (pos n)) ≡ count_of (int_rem_euclid z (pos n))
size-rem (pos a) n = refl
size-rem (negsuc a) n = refl

-- a part of n equal parts of a whole lies below n
pub quotient-below : (offset n span : ℕ) → offset ≤ span → 0 < n → offset * n / (span + 1) < n
quotient-below offset n span within positive =
    div_below (offset * n) (span + 1) n (omega arith) (omega (arith, mul-le-mul_right n within))

pub block-below-extent : (low high : ℤ) (n : ℕ) (i : ℤ) → low ≤ℤ i → i ≤ℤ high → 0 < n → unsigned_abs (i -ℤ low) * n / (unsigned_abs (high -ℤ low) + 1) < n
block-below-extent low high n i from to positive =
    quotient-below (unsigned_abs (i -ℤ low)) n (unsigned_abs (high -ℤ low)) (omega (arith, ints)) positive
