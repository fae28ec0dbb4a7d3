-- The tests of the limits hold exactly where the limits do.
use Rattle.std.proofs.Common.{◌≡◌, ◌≤◌, true, arith, ℤ, pos, negsuc, unsigned_abs, ◌↔◌}
use Rattle.std.proofs.lemmas.Int.{ints}
use Rattle.std.proofs.lemmas.Bool.Decides.{nat_tests}
use Rattle.dpl_sets.specs.Ranges.{limit, IsBound, IsStride, is_bound, is_stride}

pub IsBound-abs : (i : ℤ) → (unsigned_abs i ≤ limit) ↔ IsBound i
IsBound-abs (pos n) = ((λ h. (omega (arith, ints, h), omega (arith, ints, h))), (λ b. omega (arith, ints, b.1)))
IsBound-abs (negsuc n) = ((λ h. (omega (arith, ints, h), omega (arith, ints, h))), (λ b. omega (arith, ints, b.0)))

pub is_bound-IsBound : (i : ℤ) → (is_bound i ≡ true) ↔ IsBound i
is_bound-IsBound i =
    let abs = IsBound-abs i in
    ((λ test. abs.0 (grind (arith, nat_tests))), (λ b. let h = abs.1 b in grind (arith, nat_tests)))

pub is_stride-IsStride : (s : ℤ) → (is_stride s ≡ true) ↔ IsStride s
is_stride-IsStride s = ((λ test. (grind (arith, nat_tests), grind (arith, nat_tests))), (λ h. grind (arith, nat_tests)))
