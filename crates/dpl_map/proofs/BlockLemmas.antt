-- The block-cyclic rule by blocks that are counted from the beginning of a round.
use Rattle.std.proofs.Common.{◌≡◌, ◌↔◌, ◌<◌, ◌≤◌, ◌+◌, ◌-◌, ◌*◌, ◌/◌, ◌%◌, ℕ, zero, suc, true, ℤ, pos, negsuc, ◌+ℤ◌, ◌-ℤ◌, inl, inr, refl, ap, sym, ◌∙◌, arith, ⊎_elim, unsigned_abs}
use Rattle.std.proofs.lemmas.Bool.{cases_lt, eq-eqb, eqb-true}
use Rattle.std.specs.Int.{int_div_euclid, int_rem_euclid}
use Rattle.std.proofs.lemmas.Int.{ints, int_rem_euclid_is}
use Rattle.std.proofs.lemmas.Nat.{mod_below, div-mul-add, mod-mul-add, mul-add-lt}
use Rattle.std.proofs.Math.Nat.{mul-le-mul_right, add-mul-div_right, add-mul-mod_self_right, mod-add-mod, div-add-mod, mul_comm, mul_assoc, add-mul, suc-mul, mul-mod_left, div-lt_iff_lt-mul, le-div_iff_mul-le}
use Rattle.dpl_sets.specs.Members.{count_of}
use Rattle.dpl_range.specs.Congruence.{is_congruent}
use Rattle.dpl_range.proofs.Congruence.{divides-ahead}
use Rattle.dpl_map.specs.Places.{block_cyclic_place}
use Rattle.dpl_map.specs.Blocks.{BeginsRound}

-- a quotient that is rounded down, so many divisors further on
div_euclid-shifted : (z : ℤ) (b k m : ℕ) → 0 < b → z +ℤ pos (k * b) ≡ pos m → int_div_euclid z (pos b) +ℤ pos k ≡ pos (m / b)
div_euclid-shifted (pos a) b k m some e =
    let m-is : m ≡ a + k * b = omega (arith, ints, e) in
    omega (arith, ints, ap (λ x. x / b) m-is, add-mul-div_right a k some)
div_euclid-shifted (negsuc a) b k m some e = go (k - (a / b + 1)) (omega (arith, enough))
  where
    below : a % b < b
    below = mod_below a b some

    split : a ≡ a / b * b + a % b
    split = omega (arith, div-add-mod a b, mul_comm b (a / b))

    total : m + (a + 1) ≡ k * b
    total = omega (arith, ints, e)

    enough : a / b + 1 ≤ k
    enough = omega (arith, (div-lt_iff_lt-mul {k = b} {x = a} {y = k} some).1 (omega (arith, total)))

    go : (t : ℕ) → k ≡ t + (a / b + 1) → negsuc (a / b) +ℤ pos k ≡ pos (m / b)
    go t is =
        let m-is : m ≡ t * b + (b - 1 - a % b) = omega (arith, total, split, below, ap (λ x. x * b) is, add-mul t (a / b + 1) b, add-mul (a / b) 1 b) in
        omega (arith, ints, is, ap (λ x. x / b) m-is, div-mul-add t b (b - 1 - a % b) (omega (arith, below)))

-- the block-cyclic coordinate of an integer that lies m past the beginning of a round
pub block_cyclic_place-past : (start origin i : ℤ) (b n m : ℕ) → 0 < b → 0 < n → BeginsRound start (n * b) origin → i ≡ origin +ℤ pos m → block_cyclic_place start (pos b) n i ≡ m / b % n
unfolding block_cyclic_place
block_cyclic_place-past start origin i b n m some locales begins at = ⊎_elim after before begins.1
  where
    rounds : begins.0 * (n * b) ≡ begins.0 * n * b
    rounds = sym (mul_assoc begins.0 n b)

    after : origin ≡ start +ℤ pos (begins.0 * (n * b)) → count_of (int_rem_euclid (int_div_euclid (i -ℤ start) (pos b)) (pos n)) ≡ m / b % n
    after e =
        let distance : i -ℤ start ≡ pos (m + begins.0 * n * b) = omega (arith, ints, at, e, rounds) in
        let divided : (m + begins.0 * n * b) / b ≡ m / b + begins.0 * n = add-mul-div_right m (begins.0 * n) some in
        ap (λ z. count_of (int_rem_euclid (int_div_euclid z (pos b)) (pos n))) distance
        ∙ ap (λ x. x % n) divided
        ∙ add-mul-mod_self_right (m / b) begins.0 n

    before : start ≡ origin +ℤ pos (begins.0 * (n * b)) → count_of (int_rem_euclid (int_div_euclid (i -ℤ start) (pos b)) (pos n)) ≡ m / b % n
    before e =
        let distance : (i -ℤ start) +ℤ pos (begins.0 * n * b) ≡ pos m = omega (arith, ints, at, e, rounds) in
        ap count_of (int_rem_euclid_is (int_div_euclid (i -ℤ start) (pos b)) (pos n) n begins.0 (m / b) locales refl (div_euclid-shifted (i -ℤ start) b (begins.0 * n) m some distance))

-- The block that has an integer, counted from the start, is so many blocks before or behind the one that is counted from the
-- beginning of a round.
pub block-shift : (start origin : ℤ) (b n : ℕ) → 0 < b → BeginsRound start (n * b) origin → (shift : ℤ) × ((i : ℤ) (m : ℕ) → i ≡ origin +ℤ pos m → int_div_euclid (i -ℤ start) (pos b) +ℤ shift ≡ pos (m / b))
block-shift start origin b n some begins = ⊎_elim after before begins.1
  where
    rounds : begins.0 * (n * b) ≡ begins.0 * n * b
    rounds = sym (mul_assoc begins.0 n b)

    after : origin ≡ start +ℤ pos (begins.0 * (n * b)) → (shift : ℤ) × ((i : ℤ) (m : ℕ) → i ≡ origin +ℤ pos m → int_div_euclid (i -ℤ start) (pos b) +ℤ shift ≡ pos (m / b))
    after e = (
      pos 0 -ℤ pos (begins.0 * n),
      (λ i m at.
          let distance : i -ℤ start ≡ pos (m + begins.0 * n * b) = omega (arith, ints, at, e, rounds) in
          let divided : (m + begins.0 * n * b) / b ≡ m / b + begins.0 * n = add-mul-div_right m (begins.0 * n) some in
          let block : int_div_euclid (i -ℤ start) (pos b) ≡ pos (m / b + begins.0 * n) = ap (λ z. int_div_euclid z (pos b)) distance ∙ ap pos divided in
          omega (arith, ints, block)),
    )

    before : start ≡ origin +ℤ pos (begins.0 * (n * b)) → (shift : ℤ) × ((i : ℤ) (m : ℕ) → i ≡ origin +ℤ pos m → int_div_euclid (i -ℤ start) (pos b) +ℤ shift ≡ pos (m / b))
    before e = (
      pos (begins.0 * n),
      (λ i m at. let distance : (i -ℤ start) +ℤ pos (begins.0 * n * b) ≡ pos m = omega (arith, ints, at, e, rounds) in
          div_euclid-shifted (i -ℤ start) b (begins.0 * n) m some distance),
    )

-- and where an integer lies in its block is the same, counted from the start
pub offset-same : (start origin i : ℤ) (b n m : ℕ) → 0 < b → BeginsRound start (n * b) origin → i ≡ origin +ℤ pos m → int_rem_euclid (i -ℤ start) (pos b) ≡ pos (m % b)
offset-same start origin i b n m some begins at = ⊎_elim after before begins.1
  where
    rounds : begins.0 * (n * b) ≡ begins.0 * n * b
    rounds = sym (mul_assoc begins.0 n b)

    after : origin ≡ start +ℤ pos (begins.0 * (n * b)) → int_rem_euclid (i -ℤ start) (pos b) ≡ pos (m % b)
    after e =
        let distance : (i -ℤ start) +ℤ pos (0 * b) ≡ pos (m + begins.0 * n * b) = omega (arith, ints, at, e, rounds) in
        int_rem_euclid_is (i -ℤ start) (pos b) b 0 (m + begins.0 * n * b) some refl distance ∙ ap pos (add-mul-mod_self_right m (begins.0 * n) b)

    before : start ≡ origin +ℤ pos (begins.0 * (n * b)) → int_rem_euclid (i -ℤ start) (pos b) ≡ pos (m % b)
    before e =
        let distance : (i -ℤ start) +ℤ pos (begins.0 * n * b) ≡ pos m = omega (arith, ints, at, e, rounds) in
        int_rem_euclid_is (i -ℤ start) (pos b) b (begins.0 * n) m some refl distance

-- of two numbers that leave one remainder, the one with the lesser quotient is less
pub rounds-less : (n p q c : ℕ) → 0 < n → p % n ≡ c → q % n ≡ c → (p / n < q / n) ↔ (p < q)
rounds-less n p q c some first second =
    let p-is : p ≡ p / n * n + c = omega (arith, div-add-mod p n, mul_comm n (p / n), first) in
    let q-is : q ≡ q / n * n + c = omega (arith, div-add-mod q n, mul_comm n (q / n), second) in (
      (λ less. let steps : (p / n + 1) * n ≤ q / n * n = mul-le-mul_right n (omega (arith, less)) in omega (arith, p-is, q-is, steps, add-mul (p / n) 1 n, some)),
      (λ less. ⊎_elim
          (λ (sooner : p / n < q / n). sooner)
          (λ later. let steps : q / n * n ≤ p / n * n = mul-le-mul_right n (omega (arith, later)) in absurd (omega (arith, p-is, q-is, steps, less)))
          (cases_lt (p / n) (q / n))),
    )

-- two ways that end in one block are less than its size apart
pub same-block : (b m k : ℕ) → 0 < b → m / b ≡ k / b → m < k + b
same-block b m k some same =
    omega (arith, div-add-mod m b, div-add-mod k b, ap (λ q. b * q) same, mod_below m b some)

-- an integer is congruent to one that lies c past the start, where c is left of its way past the beginning of a round
pub congruent-past : (start origin i : ℤ) (round c m : ℕ) → c < round → BeginsRound start round origin → i ≡ origin +ℤ pos m → (is_congruent round (start +ℤ pos c) i ≡ true) ↔ (m % round ≡ c)
congruent-past start origin i round c m within begins at =
    let d = divides-ahead round ((round - c) % round) m (origin -ℤ (start +ℤ pos c)) (omega (arith, within)) gap in
    let same : origin -ℤ (start +ℤ pos c) +ℤ pos m ≡ i -ℤ (start +ℤ pos c) = omega (arith, ints, at) in
    ((λ yes. there (d.0 (ap (λ z. unsigned_abs z % round) same ∙ eqb-true _ 0 yes))), (λ is. eq-eqb _ 0 (ap (λ z. unsigned_abs z % round) (sym same) ∙ d.1 (back is))))
  where
    gap : int_rem_euclid (origin -ℤ (start +ℤ pos c)) (pos round) ≡ pos ((round - c) % round)
    gap =
        ⊎_elim
        (λ e.
        let distance : origin -ℤ (start +ℤ pos c) +ℤ pos (1 * round) ≡ pos (round - c + begins.0 * round) = omega (arith, ints, e, within) in
        int_rem_euclid_is (origin -ℤ (start +ℤ pos c)) (pos round) round 1 (round - c + begins.0 * round) (omega (arith, within)) refl distance
        ∙ ap pos (add-mul-mod_self_right (round - c) begins.0 round))
        (λ e.
        let distance : origin -ℤ (start +ℤ pos c) +ℤ pos ((begins.0 + 1) * round) ≡ pos (round - c) = omega (arith, ints, e, within, add-mul begins.0 1 round) in
        int_rem_euclid_is (origin -ℤ (start +ℤ pos c)) (pos round) round (begins.0 + 1) (round - c) (omega (arith, within)) refl distance)
        begins.1

    split : m ≡ m / round * round + m % round
    split = omega (arith, div-add-mod m round, mul_comm round (m / round))

    -- what is left of the way, and the rest of the round, are together whole rounds
    there : ((round - c) % round + m) % round ≡ 0 → m % round ≡ c
    there none =
        let whole : (round - c + m) % round ≡ 0 = sym (mod-add-mod (round - c) round m) ∙ none in
        let t = (round - c + m) / round in
        let total : t * round ≡ round - c + m = omega (arith, div-add-mod (round - c + m) round, mul_comm round t, whole) in
        from t total
      where
        from : (t : ℕ) → t * round ≡ round - c + m → m % round ≡ c
        from zero e = absurd (omega (arith, e, within))
        from (suc t) e = ap (λ x. x % round) (let is : m ≡ t * round + c = omega (arith, e, suc-mul t round, within) in is) ∙ mod-mul-add t round c within

    back : m % round ≡ c → ((round - c) % round + m) % round ≡ 0
    back is =
        mod-add-mod (round - c) round m
        ∙ ap (λ x. x % round) (let whole : round - c + m ≡ suc (m / round) * round = omega (arith, split, is, suc-mul (m / round) round, within) in whole)
        ∙ mul-mod_left (suc (m / round)) round

-- what is left of a way in its round, by the block and by where it ends there
pub mod-of_round : (b n m : ℕ) → 0 < b → 0 < n → m % (n * b) ≡ m / b % n * b + m % b
mod-of_round b n m some locales =
    let block : m ≡ m / b * b + m % b = omega (arith, div-add-mod m b, mul_comm b (m / b)) in
    let number : m / b ≡ m / b / n * n + m / b % n = omega (arith, div-add-mod (m / b) n, mul_comm n (m / b / n)) in
    let short : m / b % n * b + m % b < n * b = omega (arith, mul_comm n b, mul-add-lt (m / b % n) b (m % b) n (mod_below (m / b) n locales) (mod_below m b some)) in
    let split : m ≡ m / b / n * (n * b) + (m / b % n * b + m % b) =
    omega (arith, block, ap (λ x. x * b) number, add-mul (m / b / n * n) (m / b % n) b, mul_assoc (m / b / n) n b) in
    ap (λ x. x % (n * b)) split ∙ mod-mul-add (m / b / n) (n * b) (m / b % n * b + m % b) short

-- it says which coordinate has the block, and where in the block the way ends
pub left-of_round : (b n m p o : ℕ) → 0 < b → 0 < n → o < b → (m % (n * b) ≡ p * b + o) ↔ ((m / b % n ≡ p) × (m % b ≡ o))
left-of_round b n m p o some locales within = (there, back)
  where
    there : m % (n * b) ≡ p * b + o → (m / b % n ≡ p) × (m % b ≡ o)
    there is =
        let e : m / b % n * b + m % b ≡ p * b + o = sym (mod-of_round b n m some locales) ∙ is in (
          sym (div-mul-add (m / b % n) b (m % b) (mod_below m b some)) ∙ ap (λ x. x / b) e ∙ div-mul-add p b o within,
          sym (mod-mul-add (m / b % n) b (m % b) (mod_below m b some)) ∙ ap (λ x. x % b) e ∙ mod-mul-add p b o within,
        )

    back : (m / b % n ≡ p) × (m % b ≡ o) → m % (n * b) ≡ p * b + o
    back is = mod-of_round b n m some locales ∙ ap (λ x. x * b + m % b) is.0 ∙ ap (λ x. p * b + x) is.1

-- a way ends in the block of a number where it is no shorter than the blocks before, and ends before the next one
pub in-block : (b m number : ℕ) → 0 < b → (m / b ≡ number) ↔ ((number * b ≤ m) × (m ≤ number * b + (b - 1)))
in-block b m number some = (
  (λ is. let low = (le-div_iff_mul-le {k = b} {x = number} {y = m} some).0 (omega (arith, is)) in
      let high = (div-lt_iff_lt-mul {k = b} {x = m} {y = number + 1} some).0 (omega (arith, is)) in
      (low, omega (arith, high, add-mul number 1 b))),
  (λ h. let low = (le-div_iff_mul-le {k = b} {x = number} {y = m} some).1 h.0 in
      let high = (div-lt_iff_lt-mul {k = b} {x = m} {y = number + 1} some).1 (omega (arith, h.1, some, add-mul number 1 b)) in
      omega (arith, low, high)),
)

-- the block of a coordinate in a round
pub block-of_round : (n p j number : ℕ) → p < n → ((number % n ≡ p) × (number / n ≡ j)) ↔ (number ≡ j * n + p)
block-of_round n p j number within = (
  (λ is. omega (arith, div-add-mod number n, mul_comm n (number / n), is.0, ap (λ x. x * n) is.1)),
  (λ is. (ap (λ x. x % n) is ∙ mod-mul-add j n p within, ap (λ x. x / n) is ∙ div-mul-add j n p within)),
)

-- the beginning of the round that has an integer
pub round-begins : (low start : ℤ) (round gap : ℕ) → 0 < round → int_rem_euclid (low -ℤ start) (pos round) ≡ pos gap → BeginsRound start round (low -ℤ pos gap)
round-begins low start round gap some is = go (low -ℤ start) refl is
  where
    go : (d : ℤ) → d ≡ low -ℤ start → int_rem_euclid d (pos round) ≡ pos gap → BeginsRound start round (low -ℤ pos gap)
    go (pos a) e left =
        let gap-is : a % round ≡ gap = cc in
        (a / round, inl (omega (arith, ints, e, gap-is, div-add-mod a round, mul_comm round (a / round))))
    go (negsuc a) e left =
        let gap-is : round - 1 - a % round ≡ gap = cc in
        (a / round + 1, inr (omega (arith, ints, e, gap-is, div-add-mod a round, mul_comm round (a / round), add-mul (a / round) 1 round, mod_below a round some)))
