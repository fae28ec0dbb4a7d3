-- The kinds of names: ints, truth values, ranges, domains, the tuple names of loops, and arrays.
-- In a program that runs and breaks no rule each name in sight has one.
use Rattle.std.specs.Prelude.{◌≡◌, ◌⊎◌, Bool, true, false, Option, Some, None}
use Rattle.dpl_language.specs.Tree.{Kind, IntKind, BoolKind}
use Rattle.dpl_language.specs.Names.{Text}
use Rattle.dpl_rules.specs.Types.{ValueType}
use Rattle.dpl_rules.specs.Sights.{Declared, Scopes, lookup}
use Rattle.dpl_words.specs.Words.{LeafKind, IntLeaf, TruthLeaf}
use Rattle.dpl_memory.specs.Memory.{VariableKind, PlainKind, DomainKind, TupleKind, CellKind, ArrayKind}
use Rattle.dpl_typed.specs.Leaves.{value_kind}
use Rattle.dpl_bound.specs.Sights.{is_promoted_type}

-- of ints and of truth values
abbrev pub leaf_of : Kind → LeafKind
leaf_of IntKind = IntLeaf
leaf_of BoolKind = TruthLeaf

-- what is an int or a truth value, by itself or at each index
abbrev pub operand_kind : VariableKind → Option Kind
operand_kind (PlainKind IntLeaf) = Some IntKind
operand_kind (PlainKind TruthLeaf) = Some BoolKind
operand_kind (ArrayKind k) = Some k
operand_kind _ = None

-- what has values at each index
abbrev pub is_promoted : VariableKind → Bool
is_promoted (ArrayKind k) = true
is_promoted _ = false

-- where there is a type, it has a kind
abbrev pub HasKind : Option ValueType → Type 0
HasKind o = (t : ValueType) → o ≡ Some t → (k : VariableKind) × (value_kind t ≡ Some k)

-- there is a type, and it has a kind
pub record IsVariable (o : Option ValueType) : Type 0 where
  pub kind : VariableKind
  pub type : ValueType
  pub is : o ≡ Some type
  pub of_kind : value_kind type ≡ Some kind

-- a name's type, which is none of promoted expressions, and its kind
pub record IsNamed (o : Option ValueType) : Type 0 where
  pub kind : VariableKind
  pub type : ValueType
  pub is : o ≡ Some type
  pub of_kind : value_kind type ≡ Some kind
  pub single : is_promoted_type type ≡ false

-- each name in sight has such a type
abbrev pub AreVariables : Scopes → Type 0
AreVariables scopes = (x : Text) (d : Declared) → lookup scopes x ≡ Some d → IsNamed d.type

-- an int or a truth value: what `config const` gives, and a forall reduces
abbrev pub IsScalarKind : VariableKind → Type 0
IsScalarKind (PlainKind IntLeaf) = Unit {0}
IsScalarKind (PlainKind TruthLeaf) = Unit {0}
IsScalarKind _ = ⊥

-- what a declaration gives a name: all but tuples, which loops alone have
abbrev pub IsDeclaredKind : VariableKind → Type 0
IsDeclaredKind (PlainKind k) = Unit {0}
IsDeclaredKind DomainKind = Unit {0}
IsDeclaredKind (ArrayKind k) = Unit {0}
IsDeclaredKind _ = ⊥

-- what is assigned: ints, truth values, domains and whole arrays
abbrev pub IsAssignedKind : VariableKind → Type 0
IsAssignedKind (PlainKind IntLeaf) = Unit {0}
IsAssignedKind (PlainKind TruthLeaf) = Unit {0}
IsAssignedKind DomainKind = Unit {0}
IsAssignedKind (ArrayKind k) = Unit {0}
IsAssignedKind _ = ⊥

-- a name of the first kind is given a value of the second: one of its own, and a whole array also one that each element may be
abbrev pub IsGivenTo : VariableKind → VariableKind → Type 0
IsGivenTo (PlainKind l) k = k ≡ PlainKind l
IsGivenTo DomainKind k = k ≡ DomainKind
IsGivenTo TupleKind k = k ≡ TupleKind
IsGivenTo (ArrayKind l) k = (k ≡ ArrayKind l) ⊎ (k ≡ PlainKind (leaf_of l))
IsGivenTo (CellKind c) k = k ≡ (CellKind c)
