-- Where an arithmetic progression meets the multiples of n, by rounds of n that meet the multiples of its step.
use Rattle.std.proofs.Common.{◌≡◌, ℕ, zero, suc, ◌+◌, ◌-◌, ◌*◌, ◌/◌, ◌%◌, ◌<◌, ap, sym, ◌∙◌, arith, ⊎_elim}
use Rattle.std.proofs.lemmas.Bool.{cases_lt}
use Rattle.std.proofs.Math.Nat.{mod-add-mod, mul-mod_left, div-add-mod, mul_comm, mul-le-mul_right, mul-lt-mul_of_pos_right, suc-mul}
use Rattle.dpl_range.proofs.Congruence.{step-remainder, never-multiple}

-- only the remainders count
pub rounds-reduced : (step first n q : ℕ) → (first % step + q * (n % step)) % step ≡ (first + q * n) % step
rounds-reduced step first n q = mod-add-mod first step (q * (n % step)) ∙ step-remainder step first q n

module _ (gap step n : ℕ) (some : 0 < gap) (within : gap < n) where
  -- up to a multiple of n, the steps go what is left of the first round and whole rounds
  pub rounds-of : (j : ℕ) → (gap + j * step) % n ≡ 0 → (q : ℕ) × (j * step ≡ n - gap + q * n)
  rounds-of j meets = go ((gap + j * step) / n) (omega (arith, mul_comm n ((gap + j * step) / n), div-add-mod (gap + j * step) n, meets))
    where
      go : (m : ℕ) → m * n ≡ gap + j * step → (q : ℕ) × (j * step ≡ n - gap + q * n)
      go zero e = absurd (omega (arith, e))
      go (suc q) e = (q, omega (arith, e, suc-mul q n))

  -- and these rounds meet a multiple of the step
  pub rounds-meet : (j q : ℕ) → j * step ≡ n - gap + q * n → ((n - gap) % step + q * (n % step)) % step ≡ 0
  rounds-meet j q e = rounds-reduced step (n - gap) n q ∙ ap (λ z. z % step) (sym e) ∙ mul-mod_left j step

  -- so many steps as lie in the rounds meet a multiple of n
  pub steps-meet : (k rounds : ℕ) → k * step ≡ n - gap + rounds * n → (gap + k * step) % n ≡ 0
  steps-meet k rounds e =
      ap (λ z. z % n) (let whole : gap + k * step ≡ suc rounds * n = omega (arith, e, suc-mul rounds n) in whole) ∙ mul-mod_left (suc rounds) n

  -- fewer steps would be fewer rounds
  pub steps-least : (k rounds : ℕ) → 0 < step → k * step ≡ n - gap + rounds * n → ((q : ℕ) → q < rounds → ((n - gap) % step + q * (n % step)) % step ≡ 0 → ⊥) → (j : ℕ) → j < k → (gap + j * step) % n ≡ 0 → ⊥
  steps-least k rounds positive e least j before meets =
      let r = rounds-of j meets in
      ⊎_elim
      (λ fewer. least r.0 fewer (rounds-meet j r.0 r.1))
      (λ more. omega (arith, e, r.1, mul-le-mul_right {m = rounds} {n = r.0} n more, mul-lt-mul_of_pos_right {m = j} {n = k} {k = step} before positive))
      (cases_lt r.0 rounds)

  -- where no rounds meet a multiple of the step, no steps meet one of n
  pub steps-never : 0 < step → ((q : ℕ) → q < step → ((n - gap) % step + q * (n % step)) % step ≡ 0 → ⊥) → (j : ℕ) → (gap + j * step) % n ≡ 0 → ⊥
  steps-never positive none j meets =
      let r = rounds-of j meets in never-multiple step ((n - gap) % step) (n % step) positive none r.0 (rounds-meet j r.0 r.1)

-- a progression that begins with its step has gone a step already
pub step-before : (step n j : ℕ) → 0 < j → j * step % n ≡ 0 → (step + (j - 1) * step) % n ≡ 0
step-before step n zero some meets = absurd (omega arith)
step-before step n (suc i) some meets =
    let before : suc i - 1 ≡ i = omega arith in
    let e : step + i * step ≡ suc i * step = omega (arith, suc-mul i step) in
    ap (λ z. (step + z * step) % n) before ∙ ap (λ z. z % n) e ∙ meets
