-- Quotients that are brought into 64 bits: one of two ints is an int, but for the least int divided by -1.
-- What the machine gives is what the definition brings into range.
use Rattle.std.proofs.Common.{◌≡◌, ℕ, zero, suc, ◌-◌, ◌≤◌, ◌/◌, ◌%◌, ◌^◌, ℤ, pos, negsuc, neg_ℤ, arith, refl, ap, w64, to_z, of_z}
use Rattle.std.specs.Prelude.{int_div}
use Rattle.std.specs.Int.{int_wrap}
use Rattle.std.proofs.Math.Nat.{div-le_self}
use mir.Val.{SFits}
use Rattle.dpl_language.specs.Arithmetic.{wrap}

wrap_pos : (n : ℕ) → n ≤ 2 ^ 63 → to_z w64 (of_z w64 (pos n)) ≡ wrap (pos n)
unfolding int_wrap
wrap_pos n h = let e : n ≡ n % 2 ^ 64 = omega arith in ap (to_z w64) e

wrap_neg : (n : ℕ) → n ≤ 2 ^ 63 → to_z w64 (of_z w64 (neg_ℤ (pos n))) ≡ wrap (neg_ℤ (pos n))
unfolding int_wrap
wrap_neg zero h = refl
wrap_neg (suc n) h = let e : 2 ^ 64 - suc n ≡ 2 ^ 64 - 1 - n % 2 ^ 64 = omega arith in ap (to_z w64) e

pub wrap_quotient : (a b : ℤ) → SFits w64 a → to_z w64 (of_z w64 (int_div a b)) ≡ wrap (int_div a b)
wrap_quotient (pos a) (pos b) f = wrap_pos (a / b) (omega (arith, f.sfits, div-le_self a b))
wrap_quotient (pos a) (negsuc b) f = wrap_neg (a / suc b) (omega (arith, f.sfits, div-le_self a (suc b)))
wrap_quotient (negsuc a) (pos b) f = wrap_neg (suc a / b) (omega (arith, f.sfits, div-le_self (suc a) b))
wrap_quotient (negsuc a) (negsuc b) f = wrap_pos (suc a / suc b) (omega (arith, f.sfits, div-le_self (suc a) (suc b)))
