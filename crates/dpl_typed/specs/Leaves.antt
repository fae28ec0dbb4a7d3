-- What stands for a name in a checked tree: the slot of its declaration and the kind of its type.
-- Ints, truth values, ranges, domains, the tuple names of loops and arrays have kinds; a name of another type has no leaf of its own.
use Rattle.std.specs.Prelude.{◌≡◌, ℕ, Bool, true, false, Option, Some, None}
use Rattle.dpl_language.specs.Tree.{IntKind, BoolKind, ExprTree}
use Rattle.dpl_language.specs.Names.{Text}
use Rattle.dpl_syntax.specs.declared.place.Place.{Place}
use Rattle.dpl_rules.specs.Types.{ValueType, Scalar, Range, Domain, Array, Promoted, Tuple, Locale, AllLocales, Cell}
use Rattle.dpl_rules.specs.Sights.{Scopes, lookup, type_declared}
use Rattle.dpl_scopes.specs.Slots.{slot_in}
use Rattle.dpl_lowered.specs.Shapes.{kept}
use Rattle.dpl_lowered.specs.LoweredExpressions.{Times, each_turn}
use Rattle.dpl_words.specs.Words.{IntLeaf, TruthLeaf, RangeLeaf}
use Rattle.dpl_memory.specs.Memory.{VariableKind, PlainKind, DomainKind, TupleKind, ArrayKind, CellKind, Variable, variable, int_leaf}
use Rattle.dpl_nodes.specs.Typed.{leaf_named, array_named}
use Rattle.dpl_typed.specs.Typed.{is_rank, is_tuple_rank}

-- a kind, where a test holds
abbrev pub kind_if : Bool → VariableKind → Option VariableKind
kind_if false k = None
kind_if true k = Some k

-- the kind of a variable of a type; a promoted one is as an array
abbrev pub value_kind : ValueType → Option VariableKind
value_kind (Scalar IntKind) = Some (PlainKind IntLeaf)
value_kind (Scalar BoolKind) = Some (PlainKind TruthLeaf)
value_kind (Range strided) = Some (PlainKind RangeLeaf)
value_kind (Domain rank strided) = kind_if (is_rank rank) DomainKind
value_kind (Array k over) = kind_if (is_rank over.rank) (ArrayKind k)
value_kind (Promoted k over) = kind_if (is_rank over.rank) (ArrayKind k)
value_kind (Tuple rank) = kind_if (is_tuple_rank rank) TupleKind
value_kind Locale = None
value_kind AllLocales = None
value_kind (Cell k) = None

abbrev pub kind_by : Option ValueType → Option VariableKind
kind_by None = None
kind_by (Some t) = value_kind t

-- the type of a name's declaration, and its kind where it has one
abbrev pub type_in : Scopes → Text → Option ValueType
type_in scopes x = type_declared (lookup scopes x)

abbrev pub kind_in : Scopes → Text → Option VariableKind
kind_in scopes x = kind_by (type_in scopes x)

-- a leaf by its kind and slot; what has not both counts as the int in slot 0
abbrev pub leaf_by : Option VariableKind → Option ℕ → Variable
leaf_by None slot = int_leaf 0
leaf_by (Some k) None = int_leaf 0
leaf_by (Some k) (Some slot) = variable k slot

-- the leaf of a name
abbrev pub leaf_in : Scopes → Text → Variable
leaf_in scopes x = leaf_by (kind_in scopes x) (slot_in scopes x)

-- the name is in sight and has a kind, so that its leaf is its declaration's
abbrev pub IsFound : Scopes → Text → Type 0
IsFound scopes x = (k : VariableKind) × (slot : ℕ) × (kind_in scopes x ≡ Some k) × (slot_in scopes x ≡ Some slot)

-- a variable by its kind and its slot, as it stands in a lowered tree: an array with its name's place, at each index
abbrev pub leaf_view : Times → Place → VariableKind → ℕ → ExprTree Variable
leaf_view m at (PlainKind k) slot = leaf_named (variable (PlainKind k) slot)
leaf_view m at DomainKind slot = leaf_named (variable DomainKind slot)
leaf_view m at TupleKind slot = leaf_named (variable TupleKind slot)
leaf_view m at (ArrayKind k) slot = array_named k slot (kept (each_turn m) at)
leaf_view m at (CellKind c) slot = leaf_named (variable (CellKind c) slot)
