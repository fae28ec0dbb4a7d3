-- What the body of a forall may do, so that its turns may be made apart: which names it may read and assign, and at which indices.
use Rattle.std.specs.Prelude.{◌≡◌, ℕ, ℤ, pos, Bool, true, false, not, ◌&&◌, ◌||◌, Option, None, Some, List, [], ◌∷◌, length, get_or, map}
use Rattle.dpl_language.specs.Tree.{Op, Sum, Product, BitAnd, BitOr, BitXor, Assign, SetAdd, SetMultiply, SetReduce, Placed, Named, ItemTree, One, Items, FirstItem, MoreItems, NoItems, NextItem, VariablesTree, OneVariable, ManyVariables, TypeTree, ScalarType, SyncType, DomainType, ArrayType, InitTree, ItemInit, CreateInit, InitialTree, DeclareTree, LoopWord, ForWord, StmtTree, Nothing, Declare, Assigned, Call, Write, Block, If, Headed, Loop, Body, WordBody, BlockBody, Stmts, NoStmts, Then, Else, NoElse, ElseDo}
use Rattle.dpl_language.specs.Values.{Index, Domain}
use Rattle.dpl_language.specs.Outcome.{Run}
use Rattle.dpl_language.specs.Environment.{Limits}
use Rattle.dpl_language.specs.Phrases.{item_read, parts}
use Rattle.dpl_language.specs.Loops.{bound_to}
use Rattle.dpl_language.specs.Declarations.{type_of}
use Rattle.dpl_language.specs.Statements.{exec_all}
use Rattle.dpl_lowered.specs.Shapes.{nowhere}
use Rattle.dpl_words.specs.Words.{LeafKind, IntLeaf, TruthLeaf, RangeLeaf, LocaleLeaf, combines, intent_at}
use Rattle.dpl_memory.specs.Memory.{VariableKind, PlainKind, DomainKind, TupleKind, CellKind, ArrayKind, Variable, variable, Memory, no_tuple, is_among, in_memory}
use Rattle.dpl_agreement.specs.Untasked.{UntaskedHead}
use Rattle.dpl_agreement.specs.Scopes.{Scoping, Form, PlainForm, ArrayForm, CellForm, fits_all}
use Rattle.dpl_apart.specs.Rows.{AreOnce}
use Rattle.dpl_apart.specs.Memories.{Changes}
use Rattle.dpl_turns.specs.Alongside.{slots_of}

-- THE VARIABLES OF A LOOP
-- By their slots: an int; an int for each dimension, at least one; or a tuple. An assignment to a whole array has none.
pub data OwnNames : Type 0 where
  NoNames : OwnNames
  OneInt : ℕ → OwnNames
  Ints : ℕ → List ℕ → OwnNames
  OneTuple : ℕ → OwnNames

abbrev pub own_slots : OwnNames → List ℕ
own_slots NoNames = []
own_slots (OneInt slot) = slot ∷ []
own_slots (Ints first others) = first ∷ others
own_slots (OneTuple slot) = slot ∷ []

abbrev pub name_at : VariableKind → ℕ → ItemTree Variable
name_at k slot = One (Named (record { at = nowhere; name = variable k slot }))

abbrev pub more_ints : List ℕ → MoreItems Variable
more_ints [] = NoItems
more_ints (slot ∷ slots) = NextItem nowhere (name_at (PlainKind IntLeaf) slot) (more_ints slots)

-- items that are a loop's variables, in their order, and so give a turn's own index
abbrev pub IsOwn : OwnNames → Items Variable → Type 0
IsOwn NoNames items = ⊥
IsOwn (OneInt slot) items = items ≡ FirstItem (name_at (PlainKind IntLeaf) slot) NoItems
IsOwn (Ints first others) items = items ≡ FirstItem (name_at (PlainKind IntLeaf) first) (more_ints others)
IsOwn (OneTuple slot) items = items ≡ FirstItem (name_at TupleKind slot) NoItems

-- a loop's variables hold an index, by numbers and tuples
abbrev pub Hold : OwnNames → Index → List ℤ → List Index → Type 0
Hold NoNames t numbers tuples = Unit {0}
Hold (OneInt slot) t numbers tuples = get_or numbers slot (pos 0) ∷ [] ≡ t
Hold (Ints first others) t numbers tuples = map (λ slot. get_or numbers slot (pos 0)) (first ∷ others) ≡ t
Hold (OneTuple slot) t numbers tuples = get_or tuples slot no_tuple ≡ t

-- they are of this rank
abbrev pub AreOfRank : OwnNames → ℕ → Type 0
AreOfRank NoNames rank = ⊥
AreOfRank (OneInt slot) rank = rank ≡ 1
AreOfRank (Ints first others) rank = rank ≡ length (first ∷ others)
AreOfRank (OneTuple slot) rank = Unit {0}

-- their declarations in a turn, along with which other slots begin anew
abbrev pub leaf_along : VariableKind → ℕ → List ℕ → Placed Variable
leaf_along k slot along = record { at = nowhere; name = record { kind = k; slot = slot; along = along; cells = [] } }

abbrev pub loop_variables : OwnNames → List ℕ → VariablesTree Variable
loop_variables NoNames along = ManyVariables nowhere (record { first = leaf_along DomainKind 0 along; others = [] }) nowhere
loop_variables (OneInt slot) along = OneVariable (leaf_along (PlainKind IntLeaf) slot along)
loop_variables (Ints first others) along =
    ManyVariables nowhere (record {
      first = leaf_along (PlainKind IntLeaf) first along;
      others = map (λ slot. record { comma = nowhere; part = leaf_along (PlainKind IntLeaf) slot [] }) others;
    }) nowhere
loop_variables (OneTuple slot) along = OneVariable (leaf_along TupleKind slot along)

-- A TURN binds its index, then runs a body.
abbrev pub body_turn : Limits → OwnNames → List ℕ → Stmts Variable → Index → Run Memory
body_turn limits own along body t s done = exec_all limits in_memory body (bound_to in_memory (loop_variables own along) (Domain []) t s) done

-- slots, put before others one after another
abbrev pub slots_onto : List ℕ → List ℕ → List ℕ
slots_onto [] behind = behind
slots_onto (slot ∷ slots) behind = slots_onto slots (slot ∷ behind)

-- the slots of numbers and of tuples that a turn's binding gives values
abbrev pub own_numbers : OwnNames → List ℕ → List ℕ
own_numbers NoNames along = along
own_numbers (OneInt slot) along = slot ∷ along
own_numbers (Ints first others) along = slots_onto others (first ∷ along)
own_numbers (OneTuple slot) along = along

abbrev pub own_tuples : OwnNames → List ℕ → List ℕ
own_tuples NoNames along = along
own_tuples (OneInt slot) along = along
own_tuples (Ints first others) along = along
own_tuples (OneTuple slot) along = slot ∷ along

-- what such turns change: the elements of some arrays, some reduce variables, and what begins anew in each
abbrev pub body_changes : ℕ → OwnNames → List ℕ → List ℕ → List (ℕ × Op) → Changes
body_changes rank own along written reduced = record {
  rank = rank;
  written = written;
  reduced = reduced;
  numbers = own_numbers own along;
  ranges = along;
  tuples = own_tuples own along;
}

-- REDUCE VARIABLES
-- The operators that put any value to an operand. Those on bits put ints of 64 bits alone, and are left out.
abbrev pub is_free : Op → Bool
is_free BitAnd = false
is_free BitOr = false
is_free BitXor = false
is_free _ = true

abbrev pub is_sum : Op → Bool
is_sum Sum = true
is_sum _ = false

abbrev pub is_product : Op → Bool
is_product Product = true
is_product _ = false

-- an assignment that puts its value to a reduce variable by this operator
abbrev pub is_addition : Assign → Op → Bool
is_addition SetAdd p = is_sum p
is_addition SetMultiply p = is_product p
is_addition SetReduce p = is_free p
is_addition _ p = false

abbrev pub adds_by : LeafKind → Assign → Option Op → Bool
adds_by k op None = false
adds_by k op (Some p) = combines k p && is_addition op p

abbrev pub is_none : List ℕ → Bool
is_none [] = true
is_none (slot ∷ slots) = false

module _ (h : Changes) (own : OwnNames) where
  -- a slot of none of the loop's variables
  abbrev pub is_other : ℕ → Bool
  is_other slot = not (is_among slot (own_slots own))

  -- a word of a reduce variable, which no turn reads
  abbrev pub is_reduced : VariableKind → ℕ → Bool
  is_reduced (PlainKind IntLeaf) slot = is_among slot (slots_of h.reduced)
  is_reduced (PlainKind TruthLeaf) slot = is_among slot (slots_of h.reduced)
  is_reduced (PlainKind RangeLeaf) slot = false
  is_reduced (PlainKind LocaleLeaf) slot = is_among slot (slots_of h.reduced)
  is_reduced DomainKind slot = false
  is_reduced TupleKind slot = false
  is_reduced (ArrayKind k) slot = false
  is_reduced (CellKind c) slot = false

  -- a variable that begins anew in each turn, and so may be assigned and declared there
  abbrev pub begins_anew : VariableKind → ℕ → Bool
  begins_anew (PlainKind IntLeaf) slot = is_among slot h.numbers && is_other slot
  begins_anew (PlainKind TruthLeaf) slot = is_among slot h.numbers && is_other slot
  begins_anew (PlainKind RangeLeaf) slot = is_among slot h.ranges && is_other slot
  begins_anew (PlainKind LocaleLeaf) slot = is_among slot h.numbers && is_other slot
  begins_anew DomainKind slot = false
  begins_anew TupleKind slot = is_among slot h.tuples && is_other slot
  begins_anew (ArrayKind k) slot = false
  begins_anew (CellKind k) slot = false

  -- such a variable, or a reduce variable by its operator; of an array the elements are asked for besides
  abbrev pub may_assign : VariableKind → ℕ → Assign → Bool
  may_assign (PlainKind IntLeaf) slot op = begins_anew (PlainKind IntLeaf) slot || (is_other slot && adds_by IntLeaf op (intent_at slot h.reduced))
  may_assign (PlainKind TruthLeaf) slot op = begins_anew (PlainKind TruthLeaf) slot || (is_other slot && adds_by TruthLeaf op (intent_at slot h.reduced))
  may_assign (PlainKind RangeLeaf) slot op = begins_anew (PlainKind RangeLeaf) slot
  may_assign (PlainKind LocaleLeaf) slot op = begins_anew (PlainKind LocaleLeaf) slot
  may_assign DomainKind slot op = false
  may_assign TupleKind slot op = false
  may_assign (ArrayKind k) slot op = true
  may_assign (CellKind c) slot op = false

  abbrev pub may_declare : Variable → Form Variable → Bool
  may_declare x PlainForm = begins_anew x.kind x.slot && is_none x.along
  may_declare x (ArrayForm over) = false
  may_declare x CellForm = false

  -- an element of a written array is read at a turn's own index, by the index and by items
  abbrev pub ReadsAt : VariableKind → ℕ → Index → Index → Type 0
  ReadsAt (PlainKind k) slot i t = Unit {0}
  ReadsAt DomainKind slot i t = Unit {0}
  ReadsAt TupleKind slot i t = Unit {0}
  ReadsAt (ArrayKind k) slot i t = is_among slot h.written ≡ true → i ≡ t
  ReadsAt (CellKind c) slot i t = Unit {0}

  abbrev pub ReadsElement : VariableKind → ℕ → Items Variable → Type 0
  ReadsElement (PlainKind k) slot items = Unit {0}
  ReadsElement DomainKind slot items = Unit {0}
  ReadsElement TupleKind slot items = Unit {0}
  ReadsElement (ArrayKind k) slot items = is_among slot h.written ≡ true → IsOwn own items
  ReadsElement (CellKind c) slot items = Unit {0}

  -- and elements of written arrays alone are assigned, at that index
  abbrev pub AssignsAt : VariableKind → ℕ → Index → Index → Type 0
  AssignsAt (PlainKind k) slot i t = Unit {0}
  AssignsAt DomainKind slot i t = Unit {0}
  AssignsAt TupleKind slot i t = Unit {0}
  AssignsAt (ArrayKind k) slot i t = (is_among slot h.written ≡ true) × (i ≡ t)
  AssignsAt (CellKind c) slot i t = Unit {0}

  abbrev pub AssignsElement : VariableKind → ℕ → Items Variable → Type 0
  AssignsElement (PlainKind k) slot items = Unit {0}
  AssignsElement DomainKind slot items = Unit {0}
  AssignsElement TupleKind slot items = Unit {0}
  AssignsElement (ArrayKind k) slot items = (is_among slot h.written ≡ true) × IsOwn own items
  AssignsElement (CellKind c) slot items = Unit {0}

  -- What a turn may do with names, by its index. It makes no forall, has no tasks and no cells, and declares neither domains nor arrays.
  abbrev pub turn_scoping : Index → Scoping Variable (Unit {0})
  turn_scoping t = record {
    reads = λ x g. is_reduced x.kind x.slot ≡ false;
    reads_at = λ x i g. ReadsAt x.kind x.slot i t;
    reads_element = λ x items g. ReadsElement x.kind x.slot items;
    assigns = λ x op g. may_assign x.kind x.slot op ≡ true;
    assigns_at = λ x i g. AssignsAt x.kind x.slot i t;
    assigns_element = λ x items g. AssignsElement x.kind x.slot items;
    calls = λ x g. ⊥;
    declares = λ x form g. (may_declare x form ≡ true) × (is_reduced x.kind x.slot ≡ false);
    gives = λ x g. ⊥;
    holds = λ x c. Unit {0};
    suits = λ x item g. Unit {0};
    suits_element = λ x item g. Unit {0};
    turns = λ x item g. Unit {0};
    spans = λ x items g. Unit {0};
    spans_array = λ x k items g. Unit {0};
    intends = λ is g. ⊥;
    coforalls = λ x g. ⊥;
    moves = λ g. ⊥;
    add = λ x form g. g;
    enter = λ g. g;
    leave = λ g. g;
    intend = λ is g. g;
    begin = λ g. g;
  }

-- WHAT IS SILENT: statements that print nothing, make no forall, have no tasks and no cells, and declare neither domains nor arrays
abbrev pub is_plain : VariableKind → Bool
is_plain (PlainKind k) = true
is_plain DomainKind = false
is_plain TupleKind = true
is_plain (ArrayKind k) = false
is_plain (CellKind k) = false

abbrev pub ArePlain : List (Placed Variable) → Type 0
ArePlain [] = Unit {0}
ArePlain (x ∷ xs) = (is_plain x.name.kind ≡ true) × ArePlain xs

abbrev pub HasPlain : VariablesTree Variable → Type 0
HasPlain (OneVariable x) = is_plain x.name.kind ≡ true
HasPlain (ManyVariables from xs upto) = ArePlain (parts xs)

abbrev pub IsScalar : Option (TypeTree Variable) → Type 0
IsScalar None = Unit {0}
IsScalar (Some (ScalarType at k)) = Unit {0}
IsScalar (Some (SyncType at kind_at k)) = ⊥
IsScalar (Some (DomainType d)) = ⊥
IsScalar (Some (ArrayType a)) = ⊥

abbrev pub IsSilentInit : InitTree Variable → Type 0
IsSilentInit (ItemInit item mapped) = item_read item ≡ None
IsSilentInit (CreateInit c) = ⊥

abbrev pub IsSilentInitial : Option (InitialTree Variable) → Type 0
IsSilentInitial None = Unit {0}
IsSilentInitial (Some i) = IsSilentInit i.init

abbrev pub IsSilentDeclare : DeclareTree Variable → Type 0
IsSilentDeclare d = (d.config ≡ None) × (is_plain d.name.name.kind ≡ true) × IsScalar (type_of d.typed) × IsSilentInitial d.initial

abbrev pub IsSilentLoop : LoopWord → Type 0
IsSilentLoop ForWord = Unit {0}
IsSilentLoop _ = ⊥

abbrev mutual
  pub IsSilent : StmtTree Variable → Type 0
  IsSilent (Nothing at) = Unit {0}
  IsSilent (Declare d) = IsSilentDeclare d
  IsSilent (Assigned target sign item semicolon) = item_read item ≡ None
  IsSilent (Call x dot call semicolon) = ⊥
  IsSilent (Write w) = ⊥
  IsSilent (Block from body upto) = AreSilent body
  IsSilent (If at e first second) = IsSilentBody first × IsSilentElse second
  IsSilent (Headed word at e body) = IsSilentBody body × UntaskedHead word
  IsSilent (Loop word at xs within item intents body) = HasPlain xs × IsSilentBody body × IsSilentLoop word

  pub IsSilentBody : Body Variable → Type 0
  IsSilentBody (WordBody at t) = IsSilent t
  IsSilentBody (BlockBody from ts upto) = AreSilent ts

  pub AreSilent : Stmts Variable → Type 0
  AreSilent NoStmts = Unit {0}
  AreSilent (Then t rest) = IsSilent t × AreSilent rest

  pub IsSilentElse : Else Variable → Type 0
  IsSilentElse NoElse = Unit {0}
  IsSilentElse (ElseDo at t) = IsSilent t

-- A BODY WHOSE TURNS MAY BE MADE APART, by what it may change
pub record KeepsApart (rank : ℕ) (own : OwnNames) (along written : List ℕ) (reduced : List (ℕ × Op)) (body : Stmts Variable) : Type 0 where
  pub of_rank : AreOfRank own rank
  pub once : AreOnce (own_slots own)
  pub fits : (t : Index) → fits_all (turn_scoping (body_changes rank own along written reduced) own t) body tt
  pub silent : AreSilent body
