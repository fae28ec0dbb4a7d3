-- Programs that run: what each statement is where these scopes are open, with the kinds of its parts told.
-- Inside a forall its reduce variables are known, with their slots; `is` has them.
use Rattle.std.specs.Prelude.{◌≡◌, ◌≢◌, ℕ, nat_le, true, false, ◌&&◌, List, [], ◌∷◌, Option, Some, None}
use Rattle.dpl_syntax.specs.declared.place.Place.{Place}
use Rattle.dpl_language.specs.Tree.{Op, Assign, Set, SetAdd, SetSubtract, SetMultiply, SetDivide, SetRemainder, SetReduce, Placed, Kind, ExprTree, Named, Exprs, ItemTree, TypeTree, ScalarType, SyncType, DomainType, ArrayType, CreateTree, MappedTree, InitTree, ItemInit, CreateInit, InitialTree, DeclareTree}
use Rattle.dpl_language.specs.Tree.{ArgumentTree, TextArgument, ExprArgument, IntentTree, ReduceIntent, RefIntent, WithTree, VariablesTree, OneVariable, ManyVariables, Whole, Element, LoopWord, ForallWord, StmtTree, Nothing, Declare, Assigned, Call, Write, Block, If, Headed, Loop, Body, WordBody, BlockBody, Stmts, NoStmts, Then, Else, NoElse, ElseDo}
use Rattle.dpl_language.specs.Names.{Text, paired}
use Rattle.dpl_language.specs.Phrases.{parts, intents_of}
use Rattle.dpl_language.specs.Declarations.{type_of as written_type}
use Rattle.dpl_language.specs.Roots.{type_map}
use Rattle.dpl_agreement.specs.Untasked.{UntaskedHead, UntaskedLoop}
use Rattle.dpl_agreement.specs.Scopes.{initial_map}
use Rattle.dpl_agreement.specs.Renamed.{renamed_intents}
use Rattle.dpl_language.specs.Writing.{arguments_of}
use Rattle.dpl_rules.specs.Types.{ValueType, Scalar, Range, Domain, Array, Promoted, Tuple, Locale, AllLocales, Cell}
use Rattle.dpl_rules.specs.Sights.{Scopes, declared_here, enter}
use Rattle.dpl_rules.specs.Verdicts.{type_by}
use Rattle.dpl_rules.specs.Operators.{over_verdict}
use Rattle.dpl_rules.specs.Expressions.{type_of, item_type, item_parts}
use Rattle.dpl_rules.specs.Declarations.{declared_by}
use Rattle.dpl_rules.specs.Loops.{fits_variables, in_loop, behind, each_once, variables_of}
use Rattle.dpl_scopes.specs.Slots.{slot_in}
use Rattle.dpl_words.specs.Words.{IntLeaf, TruthLeaf, RangeLeaf, LocaleLeaf}
use Rattle.dpl_memory.specs.Memory.{VariableKind, PlainKind, DomainKind, TupleKind, CellKind, ArrayKind}
use Rattle.dpl_memory.specs.Resolved.{Bound, text_of, kind_takes, KindCombines}
use Rattle.dpl_spelling.specs.Spelt.{ExprSpelt, ItemSpelt, ItemsSpelt, ExprsSpelt, MapSpelt}
use Rattle.dpl_nodes.specs.Spots.{IsNear}
use Rattle.dpl_typed.specs.Leaves.{value_kind, kind_by, type_in, kind_in, IsFound}
use Rattle.dpl_mapped.specs.Named.{IsSimpleMap}
use Rattle.dpl_runnable.specs.Kinds.{leaf_of, IsScalarKind, IsDeclaredKind, IsAssignedKind, IsGivenTo}
use Rattle.dpl_bound.specs.Shapes.{IsTakenOf, IsTaken}
use Rattle.dpl_typed.specs.Simple.{IsSimple, IsSimpleItem, AreSimpleItems, AreSimpleExprs}
use Rattle.dpl_bound.specs.Sights.{bound_in}

-- EXPRESSIONS of a kind, whose names are in sight and whose places a fault's word has room for
pub record IsExprOf (ss : Scopes) (e : ExprTree Text) (k : VariableKind) : Type 0 where
  pub found : IsSimple (IsFound ss) e
  pub kind : kind_by (type_of ss e) ≡ Some k
  pub near : ExprSpelt IsNear ⊥ e

pub record IsItemOf (ss : Scopes) (i : ItemTree Text) (k : VariableKind) : Type 0 where
  pub found : IsSimpleItem (IsFound ss) i
  pub kind : kind_by (item_type ss i) ≡ Some k
  pub near : ItemSpelt IsNear ⊥ i

-- DECLARATIONS: `int`, `bool`, `domain` of a rank, an array, or no type; and a value, a created domain, or the type's default.
abbrev pub IsRunnableType : Scopes → Option (TypeTree Text) → Type 0
IsRunnableType ss None = Unit {0}
IsRunnableType ss (Some (ScalarType at k)) = Unit {0}
IsRunnableType ss (Some (SyncType at kind_at k)) = ⊥
IsRunnableType ss (Some (DomainType d)) = (nat_le 1 d.rank && nat_le d.rank 3) ≡ true
IsRunnableType ss (Some (ArrayType a)) = ItemsSpelt IsNear ⊥ a.over × IsNear a.from

-- the names between an array's brackets are in sight
abbrev pub IsFoundType : Scopes → Option (TypeTree Text) → Type 0
IsFoundType ss None = Unit {0}
IsFoundType ss (Some (ScalarType at k)) = Unit {0}
IsFoundType ss (Some (SyncType at kind_at k)) = Unit {0}
IsFoundType ss (Some (DomainType d)) = Unit {0}
IsFoundType ss (Some (ArrayType a)) = AreSimpleItems (IsFound ss) a.over

abbrev pub IsDefaultOf : Option (TypeTree Text) → VariableKind → Type 0
IsDefaultOf None k = ⊥
IsDefaultOf (Some (ScalarType at l)) k = value_kind (Scalar l) ≡ Some k
IsDefaultOf (Some (SyncType at kind_at l)) k = ⊥
IsDefaultOf (Some (DomainType d)) k = k ≡ DomainKind
IsDefaultOf (Some (ArrayType a)) k = k ≡ ArrayKind a.kind

-- a domain that is created from these has the type of what an array over them has for its domain
abbrev pub created_type : Scopes → CreateTree Text → Option ValueType
created_type ss c = type_by (over_verdict c.from (item_parts ss c.items))

pub record IsCreatedOf (ss : Scopes) (c : CreateTree Text) (k : VariableKind) : Type 0 where
  pub found : AreSimpleItems (IsFound ss) c.items
  pub kind : kind_by (created_type ss c) ≡ Some k
  pub near : ItemsSpelt IsNear ⊥ c.items
  pub from : IsNear c.from

-- a value of the name's kind, or of what an array's elements may be; no array is given a domain
abbrev pub IsInitOf : Scopes → InitTree Text → VariableKind → Type 0
IsInitOf ss (ItemInit i mapped) k = (j : VariableKind) × IsItemOf ss i j × IsGivenTo k j
IsInitOf ss (CreateInit c) k = IsCreatedOf ss c DomainKind × (k ≡ DomainKind)

abbrev pub IsInitialOf : Scopes → Option (TypeTree Text) → Option (InitialTree Text) → VariableKind → Type 0
IsInitialOf ss t None k = IsDefaultOf t k
IsInitialOf ss t (Some i) k = IsInitOf ss i.init k × IsNear i.equals

-- a written value is of the shape that the declared type takes: a domain of its rank, strided only where it may be
abbrev pub IsShapedInit : Scopes → InitTree Text → ValueType → Type 0
IsShapedInit ss (ItemInit i mapped) t = IsTaken ss i t
IsShapedInit ss (CreateInit c) t = IsTakenOf (created_type ss c) t

abbrev pub IsShapedInitial : Scopes → Option (InitialTree Text) → ValueType → Type 0
IsShapedInitial ss None t = Unit {0}
IsShapedInitial ss (Some i) t = IsShapedInit ss i.init t

-- a `config const` is an int or a truth value
abbrev pub IsConfigOf : Option Place → VariableKind → Type 0
IsConfigOf None k = Unit {0}
IsConfigOf (Some config) k = IsScalarKind k

-- MAPS: the names in one that is written are in sight, and its places are near
abbrev pub IsFoundMap : Scopes → Option (MappedTree Text) → Type 0
IsFoundMap ss None = Unit {0}
IsFoundMap ss (Some m) = IsSimpleMap (IsFound ss) m.map × MapSpelt IsNear ⊥ m.map

-- of a type and of an initial value
abbrev pub AreFoundMaps : Scopes → Option (TypeTree Text) → Option (InitialTree Text) → Type 0
AreFoundMaps ss type i = IsFoundMap ss (type_map type) × IsFoundMap ss (initial_map i)

-- The name is new in its scope, and has a value of its type's kind; and each map names what is in sight.
pub record IsRunnableDeclare (ss : Scopes) (d : DeclareTree Text) : Type 0 where
  pub type : IsRunnableType ss (written_type d.typed)
  pub over : IsFoundType ss (written_type d.typed)
  pub near : IsNear d.name.at
  pub kind : VariableKind
  pub initial : IsInitialOf ss (written_type d.typed) d.initial kind
  pub declared : kind_by (declared_by ss d).type ≡ Some kind
  pub kept : IsDeclaredKind kind
  pub shaped : (t : ValueType) → (declared_by ss d).type ≡ Some t → IsShapedInitial ss d.initial t
  pub fresh : declared_here ss d.name.name ≡ false
  pub found : AreFoundMaps ss (written_type d.typed) d.initial
  pub config : IsConfigOf d.config kind

-- ASSIGNMENTS. A reduce variable has the slot that it had at its forall, and no other name has that slot.
abbrev pub AreToldAlike : Text → ℕ → List (Bound × Op) → Type 0
AreToldAlike x slot [] = Unit {0}
AreToldAlike x slot (b ∷ bs) = (x ≡ b.0.text → slot ≡ b.0.variable.slot) × (slot ≡ b.0.variable.slot → x ≡ b.0.text) × AreToldAlike x slot bs

pub record IsReduced (ss : Scopes) (is : List (Bound × Op)) (x : Text) (k : VariableKind) : Type 0 where
  pub alike : (slot : ℕ) → slot_in ss x ≡ Some slot → AreToldAlike x slot is
  pub combines : KindCombines k (paired x (renamed_intents text_of is))

abbrev pub IsReducedBy : Scopes → List (Bound × Op) → Text → Assign → VariableKind → Type 0
IsReducedBy ss is x Set k = Unit {0}
IsReducedBy ss is x SetAdd k = Unit {0}
IsReducedBy ss is x SetSubtract k = Unit {0}
IsReducedBy ss is x SetMultiply k = Unit {0}
IsReducedBy ss is x SetDivide k = Unit {0}
IsReducedBy ss is x SetRemainder k = Unit {0}
IsReducedBy ss is x SetReduce k = IsReduced ss is x k × IsScalarKind k

-- An int, a truth value or a domain is given one of its kind and its shape, and a whole array one of its kind or of its
-- elements', by an operator that takes it; a range is given none.
pub record IsRunnableChange (ss : Scopes) (is : List (Bound × Op)) (x : Text) (op : Assign) (value : ItemTree Text) : Type 0 where
  pub kind : VariableKind
  pub target : kind_in ss x ≡ Some kind
  pub given : VariableKind
  pub item : IsItemOf ss value given
  pub takes : IsGivenTo kind given
  pub shaped : (t : ValueType) → type_in ss x ≡ Some t → IsTaken ss value t
  pub assigned : IsAssignedKind kind
  pub taken : kind_takes kind op ≡ true
  pub reduced : IsReducedBy ss is x op kind

-- an element of an array is given what it may be, at an index that something of a type has
pub record IsRunnableElement (ss : Scopes) (x : Text) (es : Exprs Text) (op : Assign) (value : ItemTree Text) : Type 0 where
  pub kind : Kind
  pub target : kind_in ss x ≡ Some (ArrayKind kind)
  pub found : AreSimpleExprs (IsFound ss) es
  pub near : ExprsSpelt IsNear ⊥ es
  pub item : IsItemOf ss value (PlainKind (leaf_of kind))
  pub taken : kind_takes (ArrayKind kind) op ≡ true
  pub unreduced : op ≢ SetReduce

-- ARGUMENTS: texts, ints and truth values, and whole arrays by their names
abbrev pub IsShown : VariableKind → ExprTree Text → Type 0
IsShown (PlainKind IntLeaf) e = Unit {0}
IsShown (PlainKind TruthLeaf) e = Unit {0}
IsShown (PlainKind RangeLeaf) e = ⊥
IsShown (PlainKind LocaleLeaf) e = ⊥
IsShown DomainKind e = ⊥
IsShown TupleKind e = ⊥
IsShown (ArrayKind k) e = (x : Placed Text) × (e ≡ Named x)
IsShown (CellKind c) e = ⊥

pub record IsPrinted (ss : Scopes) (e : ExprTree Text) : Type 0 where
  pub kind : VariableKind
  pub expr : IsExprOf ss e kind
  pub shown : IsShown kind e

abbrev pub IsRunnableArgument : Scopes → ArgumentTree Text → Type 0
IsRunnableArgument ss (TextArgument at cs) = Unit {0}
IsRunnableArgument ss (ExprArgument e) = IsPrinted ss e

abbrev pub AreRunnableArguments : Scopes → List (ArgumentTree Text) → Type 0
AreRunnableArguments ss [] = Unit {0}
AreRunnableArguments ss (a ∷ rest) = IsRunnableArgument ss a × AreRunnableArguments ss rest

-- LOOPS run over a range with one variable, or over a domain with one variable or as many as its rank, each with a name of its own
abbrev pub IsOneVariable : VariablesTree Text → Type 0
IsOneVariable (OneVariable x) = Unit {0}
IsOneVariable (ManyVariables from xs upto) = ⊥

abbrev pub RunsOver : VariablesTree Text → ValueType → Type 0
RunsOver xs (Scalar k) = ⊥
RunsOver xs (Range strided) = IsOneVariable xs
RunsOver xs (Domain rank strided) = fits_variables xs (Domain rank strided) ≡ true
RunsOver xs (Array k over) = ⊥
RunsOver xs (Promoted k over) = ⊥
RunsOver xs (Tuple rank) = ⊥
RunsOver xs Locale = ⊥
RunsOver xs AllLocales = ⊥
RunsOver xs (Cell k) = ⊥

pub record IsRunnableHeader (ss : Scopes) (xs : VariablesTree Text) (item : ItemTree Text) : Type 0 where
  pub kind : VariableKind
  pub over : IsItemOf ss item kind
  pub type : ValueType
  pub is : item_type ss item ≡ Some type
  pub runs : RunsOver xs type
  pub once : each_once (enter ss) (variables_of xs) ≡ []

-- a forall's reduce variables are ints or truth values
abbrev pub IsRunnableIntent : Scopes → IntentTree Text → Type 0
IsRunnableIntent ss (ReduceIntent at op word x) = (k : VariableKind) × (kind_in ss x.name ≡ Some k) × IsScalarKind k
IsRunnableIntent ss (RefIntent at x) = Unit {0}

abbrev pub AreRunnableIntents : Scopes → List (IntentTree Text) → Type 0
AreRunnableIntents ss [] = Unit {0}
AreRunnableIntents ss (i ∷ rest) = IsRunnableIntent ss i × AreRunnableIntents ss rest

abbrev pub HasRunnableIntents : Scopes → Option (WithTree Text) → Type 0
HasRunnableIntents ss None = Unit {0}
HasRunnableIntents ss (Some w) = AreRunnableIntents ss (parts w.intents)

-- A forall stands in none with reduce variables, and has its own in its turns.
abbrev pub IsRunnableLoop : Scopes → List (Bound × Op) → LoopWord → Option (WithTree Text) → Type 0
IsRunnableLoop ss is ForallWord intents = (is ≡ []) × HasRunnableIntents ss intents
IsRunnableLoop ss is _ intents = Unit {0}

abbrev pub reduced_in : Scopes → List (Bound × Op) → LoopWord → Option (WithTree Text) → List (Bound × Op)
reduced_in ss is ForallWord intents = renamed_intents (bound_in ss) (intents_of intents)
reduced_in ss is _ intents = is

-- STATEMENTS. A `config const` stands at the top level alone.
abbrev mutual
  pub IsRunnableStmt : Scopes → List (Bound × Op) → StmtTree Text → Type 0
  IsRunnableStmt ss is (Nothing at) = Unit {0}
  IsRunnableStmt ss is (Declare d) = (d.config ≡ None) × IsRunnableDeclare ss d
  IsRunnableStmt ss is (Assigned (Whole x) sign item semicolon) = IsRunnableChange ss is x.name sign.op item × IsNear sign.at × IsNear x.at
  IsRunnableStmt ss is (Assigned (Element x shape from es upto) sign item semicolon) = IsRunnableElement ss x.name es sign.op item × IsNear sign.at × IsNear x.at
  IsRunnableStmt ss is (Call x dot call semicolon) = ⊥
  IsRunnableStmt ss is (Write w) = AreRunnableArguments ss (arguments_of w.arguments)
  IsRunnableStmt ss is (Block from ts upto) = AreRunnableStmts (enter ss) is ts
  IsRunnableStmt ss is (If at e first second) = IsExprOf ss e (PlainKind TruthLeaf) × IsRunnableBody (enter ss) is first × IsRunnableElse ss is second
  IsRunnableStmt ss is (Headed word at e body) = IsExprOf ss e (PlainKind TruthLeaf) × IsRunnableBody (enter ss) is body × IsNear at × UntaskedHead word
  IsRunnableStmt ss is (Loop word at xs within item intents body) =
      IsRunnableHeader ss xs item × IsRunnableBody (in_loop ss word xs item) (reduced_in ss is word intents) body × IsNear at
      × UntaskedLoop word × IsRunnableLoop ss is word intents

  -- a body, in the scope that was opened for it
  pub IsRunnableBody : Scopes → List (Bound × Op) → Body Text → Type 0
  IsRunnableBody ss is (WordBody at t) = IsRunnableStmt ss is t
  IsRunnableBody ss is (BlockBody from ts upto) = AreRunnableStmts ss is ts

  pub AreRunnableStmts : Scopes → List (Bound × Op) → Stmts Text → Type 0
  AreRunnableStmts ss is NoStmts = Unit {0}
  AreRunnableStmts ss is (Then t rest) = IsRunnableStmt ss is t × AreRunnableStmts (behind ss t) is rest

  pub IsRunnableElse : Scopes → List (Bound × Op) → Else Text → Type 0
  IsRunnableElse ss is NoElse = Unit {0}
  IsRunnableElse ss is (ElseDo at t) = IsRunnableStmt (enter ss) is t

-- THE TOP LEVEL
abbrev pub IsRunnableTop : Scopes → StmtTree Text → Type 0
IsRunnableTop ss (Declare d) = IsRunnableDeclare ss d
IsRunnableTop ss t = IsRunnableStmt ss [] t

abbrev pub AreRunnableTops : Scopes → Stmts Text → Type 0
AreRunnableTops ss NoStmts = Unit {0}
AreRunnableTops ss (Then t rest) = IsRunnableTop ss t × AreRunnableTops (behind ss t) rest
