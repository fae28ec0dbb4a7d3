-- Each operator of reductions puts its operands together in whatever order, and its value over nothing adds nothing.
use Rattle.std.proofs.Common.{◌≡◌, ℕ, ◌<◌, ℤ, pos, Bool, true, false, ◌&&◌, ◌||◌, FitsSigned, w64, to_z, of_z, refl, sym, ap, ◌∙◌, subst, arith, ◌%◌, ◌^◌}
use Rattle.std.specs.Prelude.{suc, negsuc, ltb, neg_ℤ, ◌-◌, ◌≤◌, ◌+ℤ◌, ◌*ℤ◌}
use Rattle.std.specs.Int.{int_wrap, int_min, int_max, int_bit_and, int_bit_or, int_bit_xor}
use lib.Bits.{bit_and, bit_or, bit_xor, and_comm, or_comm, xor_comm, and_lt, or_lt, xor_lt, xor_assoc, or_zero_r, xor_zero_r, and_mask}
use mir.Val.{sel}
use Rattle.std.proofs.lemmas.Bool.Decides.{nat_tests}
use Rattle.std.proofs.lemmas.Nat.{and_assoc}
use Rattle.std.proofs.lemmas.Int.{ints, clamps, to_z-of_z, int_wrap_fits, SFits-int_wrap, int_wrap-add_left, int_wrap-add_right, int_wrap-mul_left, int_wrap-mul_right}
use Rattle.std.proofs.Math.IntN.{+ℤ_assoc, +ℤ_comm, *ℤ_comm}
use Rattle.dpl_language.specs.Tree.{Op, Sum, Product, AllOf, AnyOf, BitAnd, BitOr, BitXor, Least, Greatest}
use Rattle.dpl_language.specs.Values.{Value, Int, Truth, number, truth}
use Rattle.dpl_language.specs.Arithmetic.{combined, unit_of, wrap}
use Rattle.dpl_words.specs.Words.{is_logical}
use Rattle.dpl_apart.specs.Operands.{IsCommutativeMonoid, IsOperand}
use Rattle.dpl_apart.proofs.Bits.{product-assoc, least-assoc, greatest-assoc, least-comm, greatest-comm, bit_or-assoc, bits_below, bits-assoc}

-- ---- truth values
and-assoc : (a b c : Bool) → ((a && b) && c) ≡ (a && (b && c))
and-assoc true b c = refl
and-assoc false b c = refl

or-assoc : (a b c : Bool) → ((a || b) || c) ≡ (a || (b || c))
or-assoc true b c = refl
or-assoc false b c = refl

and-comm : (a b : Bool) → (a && b) ≡ (b && a)
and-comm true true = refl
and-comm true false = refl
and-comm false true = refl
and-comm false false = refl

or-comm : (a b : Bool) → (a || b) ≡ (b || a)
or-comm true true = refl
or-comm true false = refl
or-comm false true = refl
or-comm false false = refl

and-true : (a : Bool) → (a && true) ≡ a
and-true true = refl
and-true false = refl

or-false : (a : Bool) → (a || false) ≡ a
or-false true = refl
or-false false = refl

-- ---- any values: an operator sees numbers, or truth values
pub combined-comm : (op : Op) (u v : Value) → combined op u v ≡ combined op v u
combined-comm Sum u v = ap (λ n. Int (wrap n)) (+ℤ_comm (number u) (number v))
combined-comm Product u v = ap (λ n. Int (wrap n)) (*ℤ_comm (number u) (number v))
combined-comm AllOf u v = ap (λ b. Truth b) (and-comm (truth u) (truth v))
combined-comm AnyOf u v = ap (λ b. Truth b) (or-comm (truth u) (truth v))
combined-comm BitAnd u v = ap (λ n. Int (to_z w64 n)) (and_comm (of_z w64 (number u)) (of_z w64 (number v)))
combined-comm BitOr u v = ap (λ n. Int (to_z w64 n)) (or_comm (of_z w64 (number u)) (of_z w64 (number v)))
combined-comm BitXor u v = ap (λ n. Int (to_z w64 n)) (xor_comm (of_z w64 (number u)) (of_z w64 (number v)))
combined-comm Least u v = ap (λ n. Int n) (least-comm (number u) (number v))
combined-comm Greatest u v = ap (λ n. Int n) (greatest-comm (number u) (number v))

-- ---- ints of 64 bits
bits-fit : (n : ℕ) → FitsSigned w64 (to_z w64 n)
bits-fit n = by (ltb n (2 ^ 63)) refl where
  by : (b : Bool) → ltb n (2 ^ 63) ≡ b → FitsSigned w64 (sel b (pos n) (negsuc (2 ^ 64 - suc n)))
  by true e = let below : n < 2 ^ 63 = grind (arith, nat_tests) in record { sfits = below }
  by false e = let past : 2 ^ 63 ≤ n = grind (arith, nat_tests) in record { sfits = omega (arith, past) }

sum-zero : (a : ℤ) → FitsSigned w64 a → int_wrap w64 (a +ℤ pos 0) ≡ a
sum-zero a f = let same : a +ℤ pos 0 ≡ a = omega (arith, ints) in ap (int_wrap w64) same ∙ int_wrap_fits w64 a f

product-one : (a : ℤ) → FitsSigned w64 a → int_wrap w64 (a *ℤ pos 1) ≡ a
product-one a f = let same : a *ℤ pos 1 ≡ a = omega (arith, ints) in ap (int_wrap w64) same ∙ int_wrap_fits w64 a f

and-ones : (a : ℤ) → FitsSigned w64 a → int_bit_and w64 a (neg_ℤ (pos 1)) ≡ a
and-ones a f =
    let same : of_z w64 a % 2 ^ 64 ≡ of_z w64 a = omega (arith, bits_below a f) in
    ap (to_z w64) (and_mask (of_z w64 a) 64 ∙ same) ∙ to_z-of_z w64 a f

or-none : (a : ℤ) → FitsSigned w64 a → int_bit_or w64 a (pos 0) ≡ a
or-none a f = ap (to_z w64) (or_zero_r (of_z w64 a)) ∙ to_z-of_z w64 a f

xor-none : (a : ℤ) → FitsSigned w64 a → int_bit_xor w64 a (pos 0) ≡ a
xor-none a f = ap (to_z w64) (xor_zero_r (of_z w64 a)) ∙ to_z-of_z w64 a f

least-of-greatest : (a : ℤ) → FitsSigned w64 a → int_min a (pos 9223372036854775807) ≡ a
least-of-greatest a f = let below = f.sfits in omega (arith, ints, clamps, below)

greatest-of-least : (a : ℤ) → FitsSigned w64 a → int_max a (neg_ℤ (pos 9223372036854775808)) ≡ a
greatest-of-least a f = let below = f.sfits in omega (arith, ints, clamps, below)

-- ---- operands
-- an int of 64 bits is an operand of each operator on ints
pub int-operand : (op : Op) (n : ℤ) → is_logical op ≡ false → FitsSigned w64 n → IsOperand op (Int n)
int-operand Sum n ints f = ap (λ n. Int n) (sum-zero n f)
int-operand Product n ints f = ap (λ n. Int n) (product-one n f)
int-operand AllOf n ints f = absurd cc
int-operand AnyOf n ints f = absurd cc
int-operand BitAnd n ints f = ap (λ n. Int n) (and-ones n f)
int-operand BitOr n ints f = ap (λ n. Int n) (or-none n f)
int-operand BitXor n ints f = ap (λ n. Int n) (xor-none n f)
int-operand Least n ints f = ap (λ n. Int n) (least-of-greatest n f)
int-operand Greatest n ints f = ap (λ n. Int n) (greatest-of-least n f)

-- and a truth value of the two others
pub truth-operand : (op : Op) (b : Bool) → is_logical op ≡ true → IsOperand op (Truth b)
truth-operand AllOf b truths = ap (λ b. Truth b) (and-true b)
truth-operand AnyOf b truths = ap (λ b. Truth b) (or-false b)
truth-operand _ b truths = absurd cc

unit-operand : (op : Op) → IsOperand op (unit_of op)
unit-operand Sum = int-operand Sum (pos 0) refl (record { sfits = omega arith })
unit-operand Product = int-operand Product (pos 1) refl (record { sfits = omega arith })
unit-operand AllOf = refl
unit-operand AnyOf = refl
unit-operand BitAnd = int-operand BitAnd (neg_ℤ (pos 1)) refl (record { sfits = omega arith })
unit-operand BitOr = int-operand BitOr (pos 0) refl (record { sfits = omega arith })
unit-operand BitXor = int-operand BitXor (pos 0) refl (record { sfits = omega arith })
unit-operand Least = int-operand Least (pos 9223372036854775807) refl (record { sfits = omega arith })
unit-operand Greatest = int-operand Greatest (neg_ℤ (pos 9223372036854775808)) refl (record { sfits = omega arith })

-- whatever is put to an operand, it is one again
swapped : (f : ℤ → ℤ → ℤ) → ((a b c : ℤ) → f (f a b) c ≡ f a (f b c)) → ((a b : ℤ) → f a b ≡ f b a) → (a b u : ℤ) → f a u ≡ a → f (f a b) u ≡ f a b
swapped f assoc comm a b u e = assoc a b u ∙ ap (f a) (comm b u) ∙ sym (assoc a u b) ∙ ap (λ x. f x b) e

pub combined-operand : (op : Op) (u v : Value) → IsOperand op u → IsOperand op (combined op u v)
combined-operand Sum u v h = int-operand Sum _ refl (SFits-int_wrap w64 (number u +ℤ number v))
combined-operand Product u v h = int-operand Product _ refl (SFits-int_wrap w64 (number u *ℤ number v))
combined-operand AllOf u v h = truth-operand AllOf _ refl
combined-operand AnyOf u v h = truth-operand AnyOf _ refl
combined-operand BitAnd u v h = int-operand BitAnd _ refl (bits-fit (bit_and (of_z w64 (number u)) (of_z w64 (number v))))
combined-operand BitOr u v h = int-operand BitOr _ refl (bits-fit (bit_or (of_z w64 (number u)) (of_z w64 (number v))))
combined-operand BitXor u v h = int-operand BitXor _ refl (bits-fit (bit_xor (of_z w64 (number u)) (of_z w64 (number v))))
combined-operand Least u v h = ap (λ n. Int n) (swapped int_min least-assoc least-comm (number u) (number v) (pos 9223372036854775807) (ap number h))
combined-operand Greatest u v h = ap (λ n. Int n) (swapped int_max greatest-assoc greatest-comm (number u) (number v) (neg_ℤ (pos 9223372036854775808)) (ap number h))

-- the number of an operand on bits is one of 64 bits
and-fits : (v : Value) → IsOperand BitAnd v → FitsSigned w64 (number v)
and-fits v h = subst (FitsSigned w64) (ap number h) (bits-fit (bit_and (of_z w64 (number v)) (of_z w64 (neg_ℤ (pos 1)))))

or-fits : (v : Value) → IsOperand BitOr v → FitsSigned w64 (number v)
or-fits v h = subst (FitsSigned w64) (ap number h) (bits-fit (bit_or (of_z w64 (number v)) (of_z w64 (pos 0))))

xor-fits : (v : Value) → IsOperand BitXor v → FitsSigned w64 (number v)
xor-fits v h = subst (FitsSigned w64) (ap number h) (bits-fit (bit_xor (of_z w64 (number v)) (of_z w64 (pos 0))))

pub combined-assoc : (op : Op) (u v w : Value) → IsOperand op u → IsOperand op v → IsOperand op w → combined op (combined op u v) w ≡ combined op u (combined op v w)
combined-assoc Sum u v w hu hv hw =
    ap (λ n. Int n) (int_wrap-add_left w64 (number u +ℤ number v) (number w) ∙ ap (int_wrap w64) (+ℤ_assoc (number u) (number v) (number w)) ∙ sym (int_wrap-add_right w64 (number u) (number v +ℤ number w)))
combined-assoc Product u v w hu hv hw =
    ap (λ n. Int n) (int_wrap-mul_left w64 (number u *ℤ number v) (number w) ∙ ap (int_wrap w64) (product-assoc (number u) (number v) (number w)) ∙ sym (int_wrap-mul_right w64 (number u) (number v *ℤ number w)))
combined-assoc AllOf u v w hu hv hw = ap (λ b. Truth b) (and-assoc (truth u) (truth v) (truth w))
combined-assoc AnyOf u v w hu hv hw = ap (λ b. Truth b) (or-assoc (truth u) (truth v) (truth w))
combined-assoc BitAnd u v w hu hv hw =
    ap (λ n. Int n) (bits-assoc bit_and (λ x y. and_lt 64 x y) (λ x y z. and_assoc z x y) (number u) (number v) (number w) (and-fits u hu) (and-fits v hv) (and-fits w hw))
combined-assoc BitOr u v w hu hv hw =
    ap (λ n. Int n) (bits-assoc bit_or (λ x y. or_lt 64 x y) (λ x y z. bit_or-assoc z x y) (number u) (number v) (number w) (or-fits u hu) (or-fits v hv) (or-fits w hw))
combined-assoc BitXor u v w hu hv hw =
    ap (λ n. Int n) (bits-assoc bit_xor (λ x y. xor_lt 64 x y) (λ x y z. xor_assoc x y z) (number u) (number v) (number w) (xor-fits u hu) (xor-fits v hv) (xor-fits w hw))
combined-assoc Least u v w hu hv hw = ap (λ n. Int n) (least-assoc (number u) (number v) (number w))
combined-assoc Greatest u v w hu hv hw = ap (λ n. Int n) (greatest-assoc (number u) (number v) (number w))

-- so each operator is a commutative monoid on its operands
pub operators : (op : Op) → IsCommutativeMonoid (IsOperand op) (combined op) (unit_of op)
operators op = record {
  one = unit-operand op;
  closed = λ u v hu hv. combined-operand op u v hu;
  assoc = combined-assoc op;
  comm = λ u v hu hv. combined-comm op u v;
  neutral = λ v h. h;
}
