-- What is assigned to what, where no rule is broken: by which operator, to a name or an element of which type, a value of which.
-- `reduce=` gives a value to an int or a truth value; arithmetic is of ints; and a domain is assigned by `=` alone.
use Rattle.std.specs.Prelude.{◌≡◌, Bool, true, false}
use Rattle.dpl_language.specs.Tree.{Kind, IntKind, Assign, Set, SetAdd, SetSubtract, SetMultiply, SetDivide, SetRemainder, SetReduce}
use Rattle.dpl_rules.specs.Types.{ValueType, Scalar, Range, Domain, Array, Promoted, Tuple, Locale, AllLocales, Cell, same_kind, is_scalar, is_domain_of, fits_array}

-- what an element takes, and what a variable takes
abbrev pub element_by : Kind → Assign → Bool
element_by k Set = true
element_by k SetAdd = same_kind IntKind k
element_by k SetSubtract = same_kind IntKind k
element_by k SetMultiply = same_kind IntKind k
element_by k SetDivide = same_kind IntKind k
element_by k SetRemainder = same_kind IntKind k
element_by k SetReduce = false

abbrev pub scalar_by : Kind → Assign → Bool
scalar_by k Set = true
scalar_by k SetAdd = same_kind IntKind k
scalar_by k SetSubtract = same_kind IntKind k
scalar_by k SetMultiply = same_kind IntKind k
scalar_by k SetDivide = same_kind IntKind k
scalar_by k SetRemainder = same_kind IntKind k
scalar_by k SetReduce = true

abbrev pub domain_by : Assign → Bool
domain_by Set = true
domain_by SetAdd = false
domain_by SetSubtract = false
domain_by SetMultiply = false
domain_by SetDivide = false
domain_by SetRemainder = false
domain_by SetReduce = false

-- a name of the first type takes a value of the second
abbrev pub Takes : Assign → ValueType → ValueType → Type 0
Takes op (Scalar k) u = (is_scalar k u ≡ true) × (scalar_by k op ≡ true)
Takes op (Range strided) u = ⊥
Takes op (Domain rank strided) u = (is_domain_of rank strided u ≡ true) × (domain_by op ≡ true)
Takes op (Array k over) u = (fits_array k over u ≡ true) × (element_by k op ≡ true)
Takes op (Promoted k over) u = ⊥
Takes op (Tuple rank) u = ⊥
Takes op Locale u = ⊥
Takes op AllLocales u = ⊥
Takes op (Cell k) u = ⊥
