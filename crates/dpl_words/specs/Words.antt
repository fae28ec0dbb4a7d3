-- Plain variables kept in words: lists of numbers and of ranges, in which each declaration has a slot of its own.
-- A word is a value of every kind, so that no list of words is ill typed.
use Rattle.std.specs.Prelude.{◌≡◌, ℕ, ◌==◌, ℤ, pos, Bool, true, false, not, if◌then◌else◌, Option, Some, None, List, [], ◌∷◌, get_or, set}
use Rattle.std.specs.Ordering.{int_eq}
use Rattle.dpl_sets.specs.TextRanges.{TextRange}
use Rattle.dpl_language.specs.Tree.{Op, Sum, Product, AllOf, AnyOf, BitAnd, BitOr, BitXor, Least, Greatest, Assign, Set, SetAdd, SetSubtract, SetMultiply, SetDivide, SetRemainder, SetReduce}
use Rattle.dpl_language.specs.Values.{Value, Int, Truth, Range, Locale, number, kept_number, ranges_in}
use Rattle.dpl_language.specs.Ranges.{unstrided}

-- the kinds of plain variables; ints, truth values and locales share their slots
pub data LeafKind : Type 0 where
  IntLeaf : LeafKind
  TruthLeaf : LeafKind
  RangeLeaf : LeafKind
  LocaleLeaf : LeafKind

-- The words of ints, truth values and locales, the ranges, the reduce variables of the forall around with their operators, and what
-- the command line sets.
pub record Words : Type 0 where
  pub numbers : List ℤ
  pub ranges : List TextRange
  pub intents : List (ℕ × Op)
  pub sets : List (ℕ × ℤ)

-- the range in a slot past the last one, and of a value that is none
abbrev pub no_range : TextRange
no_range = unstrided (pos 1) (pos 0)

abbrev pub first_range : List TextRange → TextRange
first_range [] = no_range
first_range (r ∷ rs) = r

-- the truth value that a word is: any but 0 is true
abbrev pub is_true : ℤ → Value
is_true w = Truth (not (int_eq w (pos 0)))

abbrev pub value_at : LeafKind → ℕ → Words → Value
value_at IntLeaf slot s = Int (get_or s.numbers slot (pos 0))
value_at TruthLeaf slot s = is_true (get_or s.numbers slot (pos 0))
value_at RangeLeaf slot s = Range (get_or s.ranges slot no_range)
value_at LocaleLeaf slot s = Locale (get_or s.numbers slot (pos 0))

-- a value put into a slot, past the last of which nothing changes
abbrev pub with_value_at : LeafKind → ℕ → Value → Words → Words
with_value_at IntLeaf slot v s = record s { numbers = set s.numbers slot (number v) }
with_value_at TruthLeaf slot v s = record s { numbers = set s.numbers slot (kept_number v) }
with_value_at RangeLeaf slot v s = record s { ranges = set s.ranges slot (first_range (ranges_in v)) }
with_value_at LocaleLeaf slot v s = record s { numbers = set s.numbers slot (number v) }

-- the operator of the first intent that names a slot
abbrev pub intent_at : ℕ → List (ℕ × Op) → Option Op
intent_at slot [] = None
intent_at slot (p ∷ ps) = if slot == p.0 then Some p.1 else intent_at slot ps

-- what the command line sets
abbrev pub set_at : ℕ → List (ℕ × ℤ) → Option ℤ
set_at slot [] = None
set_at slot (p ∷ ps) = if slot == p.0 then Some p.1 else set_at slot ps

-- the value that a word of the command line is
abbrev pub given_as : LeafKind → ℤ → Value
given_as IntLeaf w = Int w
given_as TruthLeaf w = is_true w
given_as RangeLeaf w = Range no_range
given_as LocaleLeaf w = Locale w

-- KINDS
abbrev pub IsOfKind : LeafKind → Value → Type 0
IsOfKind IntLeaf v = (n : ℤ) × (v ≡ Int n)
IsOfKind TruthLeaf v = (b : Bool) × (v ≡ Truth b)
IsOfKind RangeLeaf v = (r : TextRange) × (v ≡ Range r)
IsOfKind LocaleLeaf v = (k : ℤ) × (v ≡ Locale k)

-- `+= -= *= /= %=`
abbrev pub is_arithmetic : Assign → Bool
is_arithmetic Set = false
is_arithmetic SetAdd = true
is_arithmetic SetSubtract = true
is_arithmetic SetMultiply = true
is_arithmetic SetDivide = true
is_arithmetic SetRemainder = true
is_arithmetic SetReduce = false

-- `&&` and `||` put truth values together, and the other operators of reductions ints
abbrev pub is_logical : Op → Bool
is_logical Sum = false
is_logical Product = false
is_logical AllOf = true
is_logical AnyOf = true
is_logical BitAnd = false
is_logical BitOr = false
is_logical BitXor = false
is_logical Least = false
is_logical Greatest = false

-- arithmetic is of ints
abbrev pub takes : LeafKind → Assign → Bool
takes IntLeaf op = true
takes TruthLeaf op = not (is_arithmetic op)
takes RangeLeaf op = not (is_arithmetic op)
takes LocaleLeaf op = not (is_arithmetic op)

-- the operators of reductions that put values of a kind together
abbrev pub combines : LeafKind → Op → Bool
combines IntLeaf op = not (is_logical op)
combines TruthLeaf op = is_logical op
combines RangeLeaf op = false
combines LocaleLeaf op = false

-- without an operator, outside foralls, `reduce=` is `=`
abbrev pub Combines : LeafKind → Option Op → Type 0
Combines k None = Unit {0}
Combines k (Some op) = combines k op ≡ true
