-- The types of names and expressions, and which types the operators take.
-- A name that isn't known, or whose declaration was refused, has no type; nor has an expression over one.
use Rattle.std.specs.Prelude.{ℕ, ◌==◌, Bool, true, false, ◌&&◌, ◌||◌, not, bytes_eq, Option, Some, None, is_some}
use Rattle.dpl_language.specs.Tree.{Kind, IntKind, BoolKind, Op, AllOf, AnyOf}
use Rattle.dpl_language.specs.Names.{Text}

-- Which declaration a name stands for: its name, and how many scopes are open where it stands, counting its own.
-- No two declarations in sight have both alike, but where a name is declared twice in one scope, which is C2.
pub record Origin : Type 0 where
  pub name : Text
  pub depth : ℕ

-- What an array is over: the rank of its domain and whether that is strided; and the bare domain name that it is
-- declared over, or else the array itself. Arrays over one bare name, and an array and itself, have one index set.
pub record Over : Type 0 where
  pub rank : ℕ
  pub strided : Bool
  pub base : Origin

-- Int and bool; a range, strided or not; a domain by its rank, strided or not; an array; an expression over whole
-- arrays, which is promoted; a loop's tuple name by its rank; a locale, and the word `Locales`; and a cell.
-- Strided is what the text has with `by`.
pub data ValueType : Type 0 where
  Scalar : Kind → ValueType
  Range : Bool → ValueType
  Domain : ℕ → Bool → ValueType
  Array : Kind → Over → ValueType
  Promoted : Kind → Over → ValueType
  Tuple : ℕ → ValueType
  Locale : ValueType
  AllLocales : ValueType
  Cell : Kind → ValueType

abbrev pub an_int : ValueType
an_int = Scalar IntKind

abbrev pub a_bool : ValueType
a_bool = Scalar BoolKind

-- ---- sameness
abbrev pub same_kind : Kind → Kind → Bool
same_kind IntKind IntKind = true
same_kind BoolKind BoolKind = true
same_kind _ _ = false

abbrev pub same_origin : Origin → Origin → Bool
same_origin a b = a.depth == b.depth && bytes_eq a.name b.name

-- ---- what a type is, where it is that
-- the kind of an int or a bool
abbrev pub scalar_of : ValueType → Option Kind
scalar_of (Scalar k) = Some k
scalar_of _ = None

-- whether a range is strided
abbrev pub range_of : ValueType → Option Bool
range_of (Range strided) = Some strided
range_of _ = None

-- the rank of a domain and whether it is strided
abbrev pub domain_of : ValueType → Option (ℕ × Bool)
domain_of (Domain rank strided) = Some (rank, strided)
domain_of _ = None

-- the kind of a whole array's elements, and what it is over; a promoted expression is no array
abbrev pub array_of : ValueType → Option (Kind × Over)
array_of (Array k over) = Some (k, over)
array_of _ = None

abbrev pub tuple_of : ValueType → Option ℕ
tuple_of (Tuple rank) = Some rank
tuple_of _ = None

abbrev pub cell_of : ValueType → Option Kind
cell_of (Cell k) = Some k
cell_of _ = None

abbrev pub is_locale : ValueType → Bool
is_locale Locale = true
is_locale _ = false

abbrev pub is_all_locales : ValueType → Bool
is_all_locales AllLocales = true
is_all_locales _ = false

abbrev pub is_any_scalar : ValueType → Bool
is_any_scalar t = is_some (scalar_of t)

abbrev pub is_range : ValueType → Bool
is_range t = is_some (range_of t)

abbrev pub is_domain : ValueType → Bool
is_domain t = is_some (domain_of t)

abbrev pub is_array : ValueType → Bool
is_array t = is_some (array_of t)

abbrev pub is_cell : ValueType → Bool
is_cell t = is_some (cell_of t)

-- an expression that gives a value at each index of whole arrays
abbrev pub is_promoted : ValueType → Bool
is_promoted (Promoted k over) = true
is_promoted _ = false

-- a test holds of what there is; of what a name's type is, where it has one
abbrev pub has : {A : Type 0} → (A → Bool) → Option A → Bool
has test None = false
has test (Some x) = test x

-- An operand of an operator: the kind of its value, or of its values at each index of whole arrays, and what these are over.
pub record Operand : Type 0 where
  pub kind : Kind
  pub over : Option Over

abbrev pub operand_of : ValueType → Option Operand
operand_of (Scalar k) = Some (record { kind = k; over = None })
operand_of (Array k over) = Some (record { kind = k; over = Some over })
operand_of (Promoted k over) = Some (record { kind = k; over = Some over })
operand_of _ = None

-- ---- tests that a place for an expression makes
abbrev pub is_scalar : Kind → ValueType → Bool
is_scalar k t = has (same_kind k) (scalar_of t)

abbrev pub is_int : ValueType → Bool
is_int = is_scalar IntKind

abbrev pub is_bool : ValueType → Bool
is_bool = is_scalar BoolKind

-- a range that the text doesn't stride
abbrev pub is_plain_range : ValueType → Bool
is_plain_range t = has not (range_of t)

-- a domain of this rank; a strided one only where it may be
abbrev pub is_domain_of : ℕ → Bool → ValueType → Bool
is_domain_of rank may_stride t = has {A = ℕ × Bool} (λ d. d.0 == rank && (may_stride || not d.1)) (domain_of t)

-- the arrays of an operand, if it has some, have the index set of these
abbrev pub agrees : Over → Option Over → Bool
agrees over None = true
agrees over (Some other) = same_origin over.base other.base

-- an int or a bool, or a promoted expression or a whole array, that each element of an array can be given
abbrev pub fits_array : Kind → Over → ValueType → Bool
fits_array k over t = has {A = Operand} (λ o. same_kind k o.kind && agrees over o.over) (operand_of t)

-- ---- operators of reductions: `&& ||` take bools, the others ints
abbrev pub op_kind : Op → Kind
op_kind AllOf = BoolKind
op_kind AnyOf = BoolKind
op_kind _ = IntKind
