-- Associativity on numbers: of products, of the lesser and the greater of two, and of bits.
use Rattle.std.proofs.Common.{to_z, of_z, ◌≡◌, ℕ, ◌/◌, ◌<◌, ◌^◌, ℤ, ◌*ℤ◌, FitsSigned, w64, sym, ap, ◌∙◌, arith}
use Rattle.std.specs.Int.{int_min, int_max}
use lib.Bits.{bit_or, or_step, or_shr, or_zero_r}
use lib.Arith.{bin_ind}
use Rattle.std.proofs.lemmas.Int.{ints, clamps, of_z-to_z}
use Rattle.std.proofs.Math.Facts.{Fits-lt-pow, Fits-of_z}
use borrow.Author.Differences.{product_is}

pub product-assoc : (a b c : ℤ) → (a *ℤ b) *ℤ c ≡ a *ℤ (b *ℤ c)
product-assoc a b c =
    let l0 = rw ((product_is a b).0, (product_is a b).1) at (product_is (a *ℤ b) c).0 in
    let l1 = rw ((product_is a b).0, (product_is a b).1) at (product_is (a *ℤ b) c).1 in
    let r0 = rw ((product_is b c).0, (product_is b c).1) at (product_is a (b *ℤ c)).0 in
    let r1 = rw ((product_is b c).0, (product_is b c).1) at (product_is a (b *ℤ c)).1 in
    omega (arith, ints, l0, l1, r0, r1)

pub least-assoc : (a b c : ℤ) → int_min (int_min a b) c ≡ int_min a (int_min b c)
least-assoc a b c = omega (arith, ints, clamps)

pub greatest-assoc : (a b c : ℤ) → int_max (int_max a b) c ≡ int_max a (int_max b c)
greatest-assoc a b c = omega (arith, ints, clamps)

pub least-comm : (a b : ℤ) → int_min a b ≡ int_min b a
least-comm a b = omega (arith, ints, clamps)

pub greatest-comm : (a b : ℤ) → int_max a b ≡ int_max b a
greatest-comm a b = omega (arith, ints, clamps)

pub bit_or-assoc : (c a b : ℕ) → bit_or (bit_or a b) c ≡ bit_or a (bit_or b c)
bit_or-assoc =
    bin_ind (λ (c : ℕ). (a b : ℕ) → bit_or (bit_or a b) c ≡ bit_or a (bit_or b c)) (λ a b. or_zero_r (bit_or a b) ∙ sym (ap (bit_or a) (or_zero_r b)))
    (λ c ih a b.
    let p : bit_or (bit_or a b / 2) (c / 2) ≡ bit_or (a / 2) (bit_or b c / 2) = ap (λ x. bit_or x (c / 2)) (or_shr a b 1) ∙ ih (a / 2) (b / 2) ∙ sym (ap (bit_or (a / 2)) (or_shr b c 1)) in
    omega (arith, or_step (bit_or a b) c, or_step a (bit_or b c), or_step a b, or_step b c))

pub bits_below : (a : ℤ) → FitsSigned w64 a → of_z w64 a < 2 ^ 64
bits_below a h = Fits-lt-pow (Fits-of_z h)

-- an operator on bits, on the words of ints
module _ (f : ℕ → ℕ → ℕ) (below : (x y : ℕ) → x < 2 ^ 64 → y < 2 ^ 64 → f x y < 2 ^ 64) (assoc : (x y z : ℕ) → f (f x y) z ≡ f x (f y z)) where
  pub bits-assoc : (a b c : ℤ) → FitsSigned w64 a → FitsSigned w64 b → FitsSigned w64 c
      → to_z w64 (f (of_z w64 (to_z w64 (f (of_z w64 a) (of_z w64 b)))) (of_z w64 c)) ≡ to_z w64 (f (of_z w64 a) (of_z w64 (to_z w64 (f (of_z w64 b) (of_z w64 c)))))
  bits-assoc a b c fa fb fc =
      ap (λ x. to_z w64 (f x (of_z w64 c))) (of_z-to_z w64 (f (of_z w64 a) (of_z w64 b)) (below (of_z w64 a) (of_z w64 b) (bits_below a fa) (bits_below b fb)))
      ∙ ap (to_z w64) (assoc (of_z w64 a) (of_z w64 b) (of_z w64 c))
      ∙ sym (ap (λ x. to_z w64 (f (of_z w64 a) x)) (of_z-to_z w64 (f (of_z w64 b) (of_z w64 c)) (below (of_z w64 b) (of_z w64 c) (bits_below b fb) (bits_below c fc))))
