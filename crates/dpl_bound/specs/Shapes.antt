-- The shape of the values of a name, as the type that the check gives the name tells it: ranks and strides.
-- And to a name of which type a range or a domain of which type may be given.
use Rattle.std.specs.Prelude.{◌≡◌, Bool, true, false, not, ◌||◌, Option, Some, None}
use Rattle.dpl_language.specs.Tree.{ItemTree}
use Rattle.dpl_language.specs.Names.{Text}
use Rattle.dpl_rules.specs.Types.{ValueType, Scalar, Range, Domain, Array, Promoted, Tuple, Locale, AllLocales, Cell, range_of, is_domain_of}
use Rattle.dpl_rules.specs.Sights.{Scopes}
use Rattle.dpl_rules.specs.Expressions.{item_type}
use Rattle.dpl_memory.specs.Resolved.{Shape, no_shape}
use Rattle.dpl_typed.specs.Leaves.{type_in}

abbrev pub shape_of : ValueType → Shape
shape_of (Scalar k) = no_shape
shape_of (Range strided) = record { rank = 1; strided = strided }
shape_of (Domain rank strided) = record { rank = rank; strided = strided }
shape_of (Array k over) = record { rank = over.rank; strided = over.strided }
shape_of (Promoted k over) = record { rank = over.rank; strided = over.strided }
shape_of (Tuple rank) = record { rank = rank; strided = false }
shape_of Locale = no_shape
shape_of AllLocales = no_shape
shape_of (Cell k) = no_shape

-- what has no type has no shape
abbrev pub shape_by : Option ValueType → Shape
shape_by None = no_shape
shape_by (Some t) = shape_of t

abbrev pub shape_in : Scopes → Text → Shape
shape_in scopes x = shape_by (type_in scopes x)

-- what the text strides is given only where it may be
abbrev pub may_be_strided : Bool → Option Bool → Bool
may_be_strided may None = false
may_be_strided may (Some strided) = may || not strided

-- a name of the first type may be given a value of the second: ints and truth values any, a domain one of its rank; tuples none
abbrev pub takes_shape : ValueType → ValueType → Bool
takes_shape (Scalar k) t = true
takes_shape (Range strided) t = may_be_strided strided (range_of t)
takes_shape (Domain rank strided) t = is_domain_of rank strided t
takes_shape (Array k over) t = true
takes_shape (Promoted k over) t = false
takes_shape (Tuple rank) t = false
takes_shape Locale t = false
takes_shape AllLocales t = false
takes_shape (Cell k) t = false

-- a name of a type may be given what is of this type, if it has one; and what the item gives
abbrev pub IsTakenOf : Option ValueType → ValueType → Type 0
IsTakenOf o t = (u : ValueType) × (o ≡ Some u) × (takes_shape t u ≡ true)

abbrev pub IsTaken : Scopes → ItemTree Text → ValueType → Type 0
IsTaken ss i t = IsTakenOf (item_type ss i) t
