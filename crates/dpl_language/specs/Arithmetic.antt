-- The operators on values.
-- Numbers are whole numbers brought into 64 bits after each `+ - *` and unary `-`.
use Rattle.std.specs.Prelude.{ℤ, pos, ◌+ℤ◌, ◌-ℤ◌, ◌*ℤ◌, neg_ℤ, Bool, true, false, not, ◌&&◌, ◌||◌, if◌then◌else◌, int_lt, int_le, int_div, int_rem, Option, Some, None, Result, Ok, Err}
use Rattle.std.specs.Ordering.{int_eq}
use Rattle.std.specs.Int.{int_wrap, int_min, int_max, int_bit_and, int_bit_or, int_bit_xor}
use mir.Syntax.{w64}
use Rattle.dpl_syntax.specs.declared.place.Place.{Place}
use Rattle.dpl_language.specs.Tree.{Prefix, Minus, Not, Infix, Add, Subtract, Multiply, Divide, Remainder, Less, LessEqual, Greater, GreaterEqual, Equal, NotEqual, And, Or, Op, Sum, Product, AllOf, AnyOf, BitAnd, BitOr, BitXor, Least, Greatest, Assign, Set, SetAdd, SetSubtract, SetMultiply, SetDivide, SetRemainder, SetReduce}
use Rattle.dpl_language.specs.Values.{Value, Int, Truth, number, truth, kept_number, Fault, fault, ZeroDivisor}

-- brought into -2^63 .. 2^63 - 1 modulo 2^64
abbrev pub wrap : ℤ → ℤ
wrap z = int_wrap w64 z

-- an operator before its operand
abbrev pub prefix_of : Prefix → Value → Value
prefix_of Minus v = Int (wrap (neg_ℤ (number v)))
prefix_of Not v = Truth (not (truth v))

-- An operator between two operands, of which the second isn't 0 where it divides. `/` truncates towards zero, and
-- `a % b` is `a - b*(a/b)`, so it has the sign of a; the least int divided by -1 is itself with remainder 0.
-- `==` and `!=` compare two ints or two truth values.
abbrev pub infix_of : Infix → Value → Value → Value
infix_of Add v w = Int (wrap (number v +ℤ number w))
infix_of Subtract v w = Int (wrap (number v -ℤ number w))
infix_of Multiply v w = Int (wrap (number v *ℤ number w))
infix_of Divide v w = Int (wrap (int_div (number v) (number w)))
infix_of Remainder v w = Int (wrap (int_rem (number v) (number w)))
infix_of Less v w = Truth (int_lt (number v) (number w))
infix_of LessEqual v w = Truth (int_le (number v) (number w))
infix_of Greater v w = Truth (int_lt (number w) (number v))
infix_of GreaterEqual v w = Truth (int_le (number w) (number v))
infix_of Equal v w = Truth (int_eq (kept_number v) (kept_number w))
infix_of NotEqual v w = Truth (not (int_eq (kept_number v) (kept_number w)))
infix_of And v w = Truth (truth v && truth w)
infix_of Or v w = Truth (truth v || truth w)

-- `/` and `%` divide
abbrev pub divides : Infix → Bool
divides Divide = true
divides Remainder = true
divides _ = false

-- a division whose right side is 0 is F2 at its operator; any other right side stays as it is
abbrev pub tested_divisor : Bool → Place → Value → Result Value Fault
tested_divisor dividing at w =
    if dividing && int_eq (number w) (pos 0) then Err (fault ZeroDivisor at) else Ok w

-- `&&` after false and `||` after true don't look at their right side
abbrev pub decides : Infix → Value → Bool
decides And v = not (truth v)
decides Or v = truth v
decides _ _ = false

-- two values put together by a reduction's operator
abbrev pub combined : Op → Value → Value → Value
combined Sum v w = infix_of Add v w
combined Product v w = infix_of Multiply v w
combined AllOf v w = infix_of And v w
combined AnyOf v w = infix_of Or v w
combined BitAnd v w = Int (int_bit_and w64 (number v) (number w))
combined BitOr v w = Int (int_bit_or w64 (number v) (number w))
combined BitXor v w = Int (int_bit_xor w64 (number v) (number w))
combined Least v w = Int (int_min (number v) (number w))
combined Greatest v w = Int (int_max (number v) (number w))

-- what the operator gives over nothing: for `min` the greatest int, for `max` the least
abbrev pub unit_of : Op → Value
unit_of Product = Int (pos 1)
unit_of AllOf = Truth true
unit_of AnyOf = Truth false
unit_of BitAnd = Int (neg_ℤ (pos 1))
unit_of Least = Int (pos 9223372036854775807)
unit_of Greatest = Int (neg_ℤ (pos 9223372036854775808))
unit_of _ = Int (pos 0)

-- `reduce=` is by the operator of the loop's intent
abbrev pub by_intent : Option Op → Value → Value → Value
by_intent None old v = v
by_intent (Some op) old v = combined op old v

-- what is stored by an assignment, from the old value and that of the right side
abbrev pub assigned : Assign → Option Op → Value → Value → Value
assigned Set intent old v = v
assigned SetAdd intent old v = infix_of Add old v
assigned SetSubtract intent old v = infix_of Subtract old v
assigned SetMultiply intent old v = infix_of Multiply old v
assigned SetDivide intent old v = infix_of Divide old v
assigned SetRemainder intent old v = infix_of Remainder old v
assigned SetReduce intent old v = by_intent intent old v

-- `/=` and `%=` divide
abbrev pub assign_divides : Assign → Bool
assign_divides SetDivide = true
assign_divides SetRemainder = true
assign_divides _ = false
