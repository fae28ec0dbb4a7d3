-- The first indices of a row lie between the first and the last of them.
use Rattle.std.proofs.Common.{◌≡◌, ◌*◌, ◌≤◌, ℕ, suc, ℤ, pos, negsuc, ◌+ℤ◌, ◌-ℤ◌, ◌*ℤ◌, ◌≤ℤ◌, ◌<ℤ◌, List, [], ◌∷◌, refl, subst, ap, ◌∙◌, arith}
use Rattle.std.proofs.lemmas.Int.{ints}
use Rattle.std.proofs.Math.IntN.{pos-*ℤ-pos, negsuc-*ℤ-pos}
use Rattle.std.proofs.Math.Nat.{mul-le-mul_left}
use Rattle.dpl_map.specs.Boxes.{AreBetween}
use Rattle.dpl_array.specs.Elements.{Row, along, behind}

between-along : (is : List ℤ) (a b c : ℤ) → a ≤ℤ b → b ≤ℤ c → AreBetween (along a is) (along b is) (along c is)
between-along [] a b c less more = tt
between-along (i ∷ []) a b c less more = (omega (arith, ints, less), omega (arith, ints, more), tt)
between-along (i ∷ j ∷ is) a b c less more = (omega (arith, ints), omega (arith, ints), between-along (j ∷ is) a b c less more)

along-none : (is : List ℤ) → along (pos 0) is ≡ is
along-none [] = refl
along-none (i ∷ []) = let same : i +ℤ pos 0 ≡ i = omega (arith, ints) in ap (λ i. i ∷ []) same
along-none (i ∷ j ∷ is) = ap (λ is. i ∷ is) (along-none (j ∷ is))

-- so many steps are the more the more there are
steps-rise : (s j k : ℕ) → j ≤ k → (pos s *ℤ pos j) ≤ℤ (pos s *ℤ pos k)
steps-rise s j k less =
    let fewer = pos-*ℤ-pos s j in
    let more = pos-*ℤ-pos s k in
    let all = mul-le-mul_left s less in
    omega (arith, ints, fewer, more, all)

steps-fall : (s j k : ℕ) → j ≤ k → (negsuc s *ℤ pos k) ≤ℤ (negsuc s *ℤ pos j)
steps-fall s j k less =
    let fewer : negsuc s *ℤ pos j ≡ pos 0 -ℤ pos (suc s * j) = negsuc-*ℤ-pos s j ∙ omega (arith, ints) in
    let more : negsuc s *ℤ pos k ≡ pos 0 -ℤ pos (suc s * k) = negsuc-*ℤ-pos s k ∙ omega (arith, ints) in
    let all = mul-le-mul_left (suc s) less in
    omega (arith, ints, fewer, more, all)

no-steps : (s : ℤ) → s *ℤ pos 0 ≡ pos 0
no-steps (pos s) = let none = pos-*ℤ-pos s 0 in omega (arith, ints, none)
no-steps (negsuc s) = let none = negsuc-*ℤ-pos s 0 in omega (arith, ints, none)

-- the first index stands none behind itself
pub behind-none : (row : Row) → behind 0 row ≡ row.first
behind-none row = ap (λ d. along d row.first) (no-steps row.step) ∙ along-none row.first

module _ (row : Row) (k n : ℕ) (less : k ≤ n) where
  pub between-rising : pos 0 ≤ℤ row.step → AreBetween row.first (behind k row) (behind n row)
  between-rising up = subst (λ is. AreBetween is (behind k row) (behind n row)) (behind-none row) (of row.step up) where
    of : (s : ℤ) → pos 0 ≤ℤ s → AreBetween (along (s *ℤ pos 0) row.first) (along (s *ℤ pos k) row.first) (along (s *ℤ pos n) row.first)
    of (pos s) up = between-along row.first (pos s *ℤ pos 0) (pos s *ℤ pos k) (pos s *ℤ pos n) (steps-rise s 0 k (omega arith)) (steps-rise s k n less)
    of (negsuc s) up = absurd (omega (arith, ints, up))

  pub between-falling : row.step <ℤ pos 0 → AreBetween (behind n row) (behind k row) row.first
  between-falling down = subst (λ is. AreBetween (behind n row) (behind k row) is) (behind-none row) (of row.step down) where
    of : (s : ℤ) → s <ℤ pos 0 → AreBetween (along (s *ℤ pos n) row.first) (along (s *ℤ pos k) row.first) (along (s *ℤ pos 0) row.first)
    of (pos s) down = absurd (omega (arith, ints, down))
    of (negsuc s) down = between-along row.first (negsuc s *ℤ pos n) (negsuc s *ℤ pos k) (negsuc s *ℤ pos 0) (steps-fall s k n less) (steps-fall s 0 k (omega arith))
