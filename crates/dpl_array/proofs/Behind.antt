-- Indices that lie along the last dimension from others, by their coordinates; and coordinates that fit a word.
use Rattle.std.proofs.Common.{◌≡◌, ◌≤◌, ◌<◌, ◌*◌, ◌^◌, ℕ, zero, suc, ℤ, pos, negsuc, neg_ℤ, ◌+ℤ◌, ◌*ℤ◌, ◌≤ℤ◌, [], ◌∷◌, FitsSigned, w64, refl, ap, sym, ◌∙◌, arith}
use Rattle.std.proofs.lemmas.Int.{ints}
use Rattle.std.proofs.Math.IntN.{zero-*ℤ, pos-*ℤ-pos, negsuc-*ℤ-pos}
use Rattle.std.proofs.Math.Nat.{mul_comm, mul_assoc, mul-le-mul_left}
use Rattle.dpl_domain.specs.Ranks.{last_of}
use Rattle.dpl_array.specs.Elements.{Row, along, behind}

pub last-along : (d : ℤ) (n : ℕ) (x y z w : ℤ) → z ≡ w +ℤ d → last_of n x y z ≡ along d (last_of n x y w)
last-along d zero x y z w is = refl
last-along d (suc zero) x y z w is = ap (λ i. i ∷ []) is
last-along d (suc (suc zero)) x y z w is = ap (λ i. y ∷ i ∷ []) is
last-along d (suc (suc (suc n))) x y z w is = ap (λ i. x ∷ y ∷ i ∷ []) is

-- so many times a number, so many times
negative-times : (m k : ℕ) → neg_ℤ (pos (m * k)) ≡ neg_ℤ (pos m) *ℤ pos k
negative-times zero k =
    let none : 0 * k ≡ 0 = omega arith in
    ap (λ z. neg_ℤ (pos z)) none ∙ sym (zero-*ℤ (pos k))
negative-times (suc m) k = sym (negsuc-*ℤ-pos m k)

times-times : (a : ℤ) (n k : ℕ) → a *ℤ pos (k * n) ≡ (a *ℤ pos n) *ℤ pos k
times-times (pos s) n k =
    let same : s * (k * n) ≡ s * n * k = ap (λ z. s * z) (mul_comm k n) ∙ sym (mul_assoc s n k) in
    pos-*ℤ-pos s (k * n) ∙ ap pos same ∙ sym (pos-*ℤ-pos (s * n) k) ∙ ap (λ z. z *ℤ pos k) (sym (pos-*ℤ-pos s n))
times-times (negsuc s) n k =
    let same : suc s * (k * n) ≡ suc s * n * k = ap (λ z. suc s * z) (mul_comm k n) ∙ sym (mul_assoc (suc s) n k) in
    negsuc-*ℤ-pos s (k * n) ∙ ap (λ z. neg_ℤ (pos z)) same ∙ negative-times (suc s * n) k ∙ ap (λ z. z *ℤ pos k) (sym (negsuc-*ℤ-pos s n))

-- an index of a row whose step is so many steps of another one, which begins where it does
pub behind-times : (own row : Row) (n k : ℕ) → own.first ≡ row.first → own.step *ℤ pos n ≡ row.step → behind (k * n) own ≡ behind k row
behind-times own row n k first step =
    ap (λ d. along d own.first) (times-times own.step n k ∙ ap (λ s. s *ℤ pos k) step) ∙ ap (along (row.step *ℤ pos k)) first

-- NUMBERS THAT FIT A WORD
-- what lies between two that do
pub fits-between : (a b c : ℤ) → a ≤ℤ b → b ≤ℤ c → FitsSigned w64 a → FitsSigned w64 c → FitsSigned w64 b
fits-between a (pos n) (pos m) under over first last = let most : m < 2 ^ 63 = last.sfits in record { sfits = omega (arith, ints, over, most) }
fits-between a (pos n) (negsuc m) under over first last = absurd (omega (arith, ints, over))
fits-between (pos k) (negsuc n) c under over first last = absurd (omega (arith, ints, under))
fits-between (negsuc k) (negsuc n) c under over first last = let most : k < 2 ^ 63 = first.sfits in record { sfits = omega (arith, ints, under, most) }

-- what lies on the way from one so many steps further
pub on-the-way : (from step : ℤ) (k n : ℕ) → k ≤ n → FitsSigned w64 from → FitsSigned w64 (from +ℤ step *ℤ pos n) → FitsSigned w64 (from +ℤ step *ℤ pos k)
on-the-way from (pos s) k n most first last =
    let less : s * k ≤ s * n = mul-le-mul_left s most in
    fits-between from (from +ℤ pos s *ℤ pos k) (from +ℤ pos s *ℤ pos n) (omega (arith, ints, pos-*ℤ-pos s k)) (omega (arith, ints, less, pos-*ℤ-pos s k, pos-*ℤ-pos s n)) first last
on-the-way from (negsuc s) k n most first last =
    let less : suc s * k ≤ suc s * n = mul-le-mul_left (suc s) most in
    fits-between (from +ℤ negsuc s *ℤ pos n) (from +ℤ negsuc s *ℤ pos k) from (omega (arith, ints, less, negsuc-*ℤ-pos s k, negsuc-*ℤ-pos s n)) (omega (arith, ints, negsuc-*ℤ-pos s k)) last first
