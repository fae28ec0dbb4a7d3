-- Congruence along a walk: which places of an arithmetic progression meet the multiples of n.
use Rattle.std.proofs.Common.{◌≡◌, ℕ, suc, ◌+◌, ◌-◌, ◌*◌, ◌/◌, ◌%◌, ◌<◌, ◌≤◌, ap, sym, ◌∙◌, arith, ℤ, pos, negsuc, ◌+ℤ◌, ◌-ℤ◌, ◌↔◌, unsigned_abs, refl, zero, true, false, ◌==◌, subst, ⊎_elim, eq-eqb}
use Prim.Native.Nat.{◌∣◌}
use Rattle.std.proofs.Math.Dec.{eqb-suc-zero}
use Rattle.std.specs.Int.{int_rem_euclid}
use Rattle.std.proofs.lemmas.Int.{ints}
use Rattle.std.proofs.lemmas.Bool.{cases_lt}
use Rattle.dpl_range.specs.Congruence.{is_congruent}
use Rattle.dpl_range.specs.Walk.{walked, ahead}
use Rattle.std.proofs.lemmas.Nat.{mod_below, mul-mod_first, mul-mod_second}
use Rattle.std.proofs.Math.Nat.{mod-add-mod, add-mod-mod, add-mul-mod_self_right, mod-eq-zero_of_dvd, dvd_of_mod-eq-zero, dvd-add_iff_left, dvd-add_iff_right, dvd-mul_left, div-add-mod, add-mul, mul_comm, mul_assoc, dvd-add, dvd-mul_left_of_dvd}

-- of two numbers whose sum is a multiple of n, either is one where the other is
opposite : (n x y m : ℕ) → x + y ≡ m * n → (x % n ≡ 0) ↔ (y % n ≡ 0)
opposite n x y m e = (
  (λ h. mod-eq-zero_of_dvd n ((dvd-add_iff_right n (dvd_of_mod-eq-zero n h)).1 (subst (λ z. n ∣ z) (sym e) (dvd-mul_left n m)))),
  (λ h. mod-eq-zero_of_dvd n ((dvd-add_iff_left n (dvd_of_mod-eq-zero n h)).1 (subst (λ z. n ∣ z) (sym e) (dvd-mul_left n m)))),
)

-- n divides an integer `offset` past d where it divides that many past d's remainder
pub divides-ahead : (n gap offset : ℕ) (d : ℤ) → 0 < n → int_rem_euclid d (pos n) ≡ pos gap → (unsigned_abs (d +ℤ pos offset) % n ≡ 0) ↔ ((gap + offset) % n ≡ 0)
divides-ahead n gap offset (pos a) positive is =
    let e : a % n ≡ gap = cc in
    let same : (a + offset) % n ≡ (gap + offset) % n = sym (mod-add-mod a n offset) ∙ ap (λ g. (g + offset) % n) e in
    ((λ h. sym same ∙ h), (λ h. same ∙ h))
divides-ahead n gap offset (negsuc a) positive is =
    let e : n - 1 - a % n ≡ gap = cc in
    let short : a % n < n = mod_below a n positive in
    let split : n * (a / n) + a % n ≡ a = div-add-mod a n in
    let whole : (a / n + 1) * n ≡ n * (a / n) + n = omega (arith, add-mul (a / n) 1 n, mul_comm n (a / n)) in
    ⊎_elim
    (λ before.
    let size : unsigned_abs (negsuc a +ℤ pos offset) ≡ suc a - offset = omega (arith, ints) in
    rw size (opposite n (suc a - offset) (gap + offset) (a / n + 1) (omega arith)))
    (λ past.
    let size : unsigned_abs (negsuc a +ℤ pos offset) ≡ offset - suc a = omega (arith, ints) in
    let same : (gap + offset) % n ≡ (offset - suc a) % n =
    ap (λ z. z % n) (omega arith) ∙ add-mul-mod_self_right (offset - suc a) (a / n + 1) n in
    ((λ h. same ∙ ap (λ z. z % n) (sym size) ∙ h), (λ h. ap (λ z. z % n) size ∙ sym same ∙ h)))
    (cases_lt offset (suc a))

-- a number that passes the test for 0
zero_test : (m : ℕ) → (m == 0) ≡ true → m ≡ 0
zero_test zero h = refl
zero_test (suc m) h = absurd (let e : (suc m == 0) ≡ false = eqb-suc-zero m in cc)

-- an integer that a walk reaches is congruent to c where the walk has gone as far as its gap from c
pub congruent-walked : (low high stride c : ℤ) (n gap offset : ℕ) → 0 < n → int_rem_euclid (ahead low high stride c) (pos n) ≡ pos gap → (is_congruent n c (walked low high stride offset) ≡ true) ↔ ((gap + offset) % n ≡ 0)
congruent-walked low high (pos s) c n gap offset positive is =
    let d = divides-ahead n gap offset (low -ℤ c) positive is in
    let e : low +ℤ pos offset -ℤ c ≡ low -ℤ c +ℤ pos offset = omega (arith, ints) in (
      (λ h. d.0 (ap (λ z. unsigned_abs z % n) (sym e) ∙ zero_test _ h)),
      (λ h. eq-eqb _ 0 (ap (λ z. unsigned_abs z % n) e ∙ d.1 h)),
    )
congruent-walked low high (negsuc s) c n gap offset positive is =
    let d = divides-ahead n gap offset (c -ℤ high) positive is in
    let e : unsigned_abs (high -ℤ pos offset -ℤ c) ≡ unsigned_abs (c -ℤ high +ℤ pos offset) = omega (arith, ints) in (
      (λ h. d.0 (ap (λ z. z % n) (sym e) ∙ zero_test _ h)),
      (λ h. eq-eqb _ 0 (ap (λ z. z % n) e ∙ d.1 h)),
    )

-- only the step's remainder counts
pub step-remainder : (n gap k size : ℕ) → (gap + k * (size % n)) % n ≡ (gap + k * size) % n
step-remainder n gap k size =
    sym (add-mod-mod gap (k * (size % n)) n) ∙ ap (λ z. (gap + z) % n) (mul-mod_second k size n) ∙ add-mod-mod gap (k * size) n

-- a progression that meets no multiple of n at the first n places meets none
pub never-multiple : (n gap step : ℕ) → 0 < n → ((j : ℕ) → j < n → (gap + j * step) % n ≡ 0 → ⊥) → (k : ℕ) → (gap + k * step) % n ≡ 0 → ⊥
never-multiple n gap step positive none k meets =
    none (k % n) (mod_below k n positive)
    (sym (add-mod-mod gap (k % n * step) n) ∙ ap (λ z. (gap + z) % n) (mul-mod_first k step n) ∙ add-mod-mod gap (k * step) n ∙ meets)

module _ (n gap step first period : ℕ) (begins : (gap + first * step) % n ≡ 0) (least : (j : ℕ) → j < first → (gap + j * step) % n ≡ 0 → ⊥) (positive : 0 < period) (returns : period * step % n ≡ 0) (soonest : (j : ℕ) → 0 < j → j < period → j * step % n ≡ 0 → ⊥) where
  -- a number of steps that moves from one multiple of n to another is a number of whole periods
  whole-periods : (u : ℕ) → n ∣ u * step → u % period ≡ 0
  whole-periods u divides =
      let v = u % period in
      let q = u / period in
      let split : u * step ≡ q * (period * step) + v * step =
      ap (λ z. z * step) (sym (div-add-mod u period) ∙ omega (arith, mul_comm period q))
      ∙ add-mul (q * period) v step
      ∙ ap (λ z. z + v * step) (mul_assoc q period step) in
      let back : n ∣ q * (period * step) = dvd-mul_left_of_dvd n (dvd_of_mod-eq-zero n returns) q in
      let rest : n ∣ v * step = (dvd-add_iff_right n back).1 (subst (λ z. n ∣ z) split divides) in
      ⊎_elim
      (λ some. absurd (soonest v some (mod_below u period positive) (mod-eq-zero_of_dvd n rest)))
      (λ none. omega arith)
      (cases_lt 0 v)

  -- so the places that meet a multiple are the first one and those whole periods after it
  pub periodic : (k : ℕ) → ((gap + k * step) % n ≡ 0) ↔ ((j : ℕ) × (k ≡ first + j * period))
  periodic k = (there, back)
    where
      there : (gap + k * step) % n ≡ 0 → (j : ℕ) × (k ≡ first + j * period)
      there meets =
          let u = k - first in
          let after : first ≤ k = ⊎_elim (λ before. absurd (least k before meets)) (λ h. h) (cases_lt k first) in
          let split : gap + k * step ≡ gap + first * step + u * step = omega (arith, add-mul first u step, ap (λ z. z * step) (splits after)) in
          let divides : n ∣ u * step =
          (dvd-add_iff_right n (dvd_of_mod-eq-zero n begins)).1 (subst (λ z. n ∣ z) split (dvd_of_mod-eq-zero n meets)) in
          let whole : u % period ≡ 0 = whole-periods u divides in
          (u / period, omega (arith, div-add-mod u period, mul_comm period (u / period)))
        where
          splits : first ≤ k → k ≡ first + (k - first)
          splits h = omega arith

      back : (j : ℕ) × (k ≡ first + j * period) → (gap + k * step) % n ≡ 0
      back h =
          let split : gap + k * step ≡ gap + first * step + h.0 * (period * step) =
          ap (λ z. gap + z * step) h.1 ∙ omega (arith, add-mul first (h.0 * period) step, mul_assoc h.0 period step) in
          mod-eq-zero_of_dvd n
          (subst (λ z. n ∣ z) (sym split)
          (dvd-add n (dvd_of_mod-eq-zero n begins) (dvd-mul_left_of_dvd n (dvd_of_mod-eq-zero n returns) h.0)))
