-- What is in sight where a part of a program with its names resolved stands, and what the top level is owed.
-- Names that are declared are new in their scope, and those of loops are of the kinds that turns give.
use Rattle.std.specs.Prelude.{◌≡◌, false, List, [], ◌∷◌, Option, Some, None, option_map}
use Rattle.dpl_syntax.specs.declared.place.Place.{Place}
use Rattle.dpl_language.specs.Tree.{Placed, Op, TypedTree, TypeTree, ScalarType, SyncType, DomainType, ArrayType, InitialTree, DeclareTree, VariablesTree, OneVariable, ManyVariables, Body, WordBody, BlockBody}
use Rattle.dpl_language.specs.Names.{Text}
use Rattle.dpl_agreement.specs.Renamed.{renamed_typed, renamed_initial}
use Rattle.dpl_rules.specs.Types.{ValueType}
use Rattle.dpl_rules.specs.Sights.{Scopes, declared_here, add}
use Rattle.dpl_rules.specs.Declarations.{declared_by}
use Rattle.dpl_rules.specs.Loops.{behind}
use Rattle.dpl_rules.specs.Sound.{behind_all}
use Rattle.dpl_words.specs.Words.{IntLeaf}
use Rattle.dpl_memory.specs.Memory.{VariableKind, PlainKind, DomainKind, TupleKind}
use Rattle.dpl_memory.specs.Resolved.{Bound, Seen, Start}
use Rattle.dpl_bound.specs.Sights.{bound_in, sight_of, AreKnownScopes}
use Rattle.dpl_bound.specs.Bounds.{bound_new, loop_variable}
use Rattle.dpl_runnable.specs.Given.{IsGiven, AreGiven}

abbrev pub seen_of : Scopes → List (Bound × Op) → Seen
seen_of ss is = record { frames = sight_of ss; intents = is }

-- a scope is open, and all that is in sight is known
abbrev pub AreOpen : Scopes → Type 0
AreOpen [] = ⊥
AreOpen (s ∷ ss) = AreKnownScopes (s ∷ ss)

-- behind a body, in the scope that was opened for it
abbrev pub behind_body : Scopes → Body Text → Scopes
behind_body ss (WordBody at t) = behind ss t
behind_body ss (BlockBody from ts upto) = behind_all ss ts

-- THE TOP LEVEL is one scope.
abbrev pub IsOneScope : Scopes → Type 0
IsOneScope [] = ⊥
IsOneScope (s ∷ []) = Unit {0}
IsOneScope (s ∷ t ∷ ss) = ⊥

-- What the command line owes its names: each `config const` is set alike by its text and by its slot.
abbrev pub AreOwed : Start → Scopes → Type 0
AreOwed start ss = IsOneScope ss × AreGiven start ss

abbrev pub IsOwedBy : Option Place → Start → Bound → Type 0
IsOwedBy None start x = Unit {0}
IsOwedBy (Some at) start x = IsGiven start x

abbrev pub IsOwed : Start → Scopes → DeclareTree Text → Type 0
IsOwed start ss d = IsOwedBy d.config start (bound_new ss (declared_by ss d))

-- DECLARATIONS: what one slot of words, ranges or domains holds and a declaration gives a name; and its type and its initial value, resolved
abbrev pub IsSingleKind : VariableKind → Type 0
IsSingleKind (PlainKind k) = Unit {0}
IsSingleKind DomainKind = Unit {0}
IsSingleKind _ = ⊥

abbrev pub IsNoArrayType : Option (TypeTree Text) → Type 0
IsNoArrayType None = Unit {0}
IsNoArrayType (Some (ScalarType at k)) = Unit {0}
IsNoArrayType (Some (SyncType at kind_at k)) = Unit {0}
IsNoArrayType (Some (DomainType d)) = Unit {0}
IsNoArrayType (Some (ArrayType a)) = ⊥

abbrev pub bound_typed : Scopes → Option (TypedTree Text) → Option (TypedTree Bound)
bound_typed ss t = option_map (renamed_typed (bound_in ss)) t

abbrev pub bound_initial : Scopes → Option (InitialTree Text) → Option (InitialTree Bound)
bound_initial ss i = option_map (renamed_initial (bound_in ss)) i

-- LOOPS: their variables are ints, or one that is a tuple
abbrev pub IsTurnKind : Option VariableKind → Type 0
IsTurnKind (Some (PlainKind IntLeaf)) = Unit {0}
IsTurnKind (Some TupleKind) = Unit {0}
IsTurnKind _ = ⊥

abbrev pub AreTurnKinds : VariablesTree Text → Option VariableKind → Type 0
AreTurnKinds (OneVariable x) o = IsTurnKind o
AreTurnKinds (ManyVariables from xs upto) o = o ≡ Some (PlainKind IntLeaf)

-- each is new in the scope, behind those before it
abbrev pub AreFresh : Option ValueType → List (Placed Text) → Scopes → Type 0
AreFresh t [] ss = Unit {0}
AreFresh t (x ∷ xs) ss = (declared_here ss x.name ≡ false) × AreFresh t xs (add (loop_variable t ss x.name) ss)
