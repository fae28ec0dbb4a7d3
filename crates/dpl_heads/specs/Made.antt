-- What is made of a head: the node of a condition, what a loop runs over, its variables with their slots, and its reduce variables.
-- A loop runs over a range with one variable, an int, or over a domain with ints or one tuple.
use Rattle.std.specs.Prelude.{◌≡◌, ℕ, Bool, true, false, List, [], ◌∷◌, ◌++◌, IfSome, Option, Some, None}
use Rattle.std.specs.Borrow.{Bor}
use Rattle.dpl_language.specs.Tree.{IntKind, Op, ExprTree, LocalesWord, ItemTree, One, VariablesTree, OneVariable, ManyVariables, IntentTree, ReduceIntent, RefIntent}
use Rattle.dpl_language.specs.Names.{Text}
use Rattle.dpl_agreement.specs.Renamed.{renamed_variables, renamed_intents}
use Rattle.dpl_rules.specs.Types.{ValueType, Scalar, Tuple, an_int, same_kind, is_int, is_bool, is_range, is_domain, has, op_kind}
use Rattle.dpl_rules.specs.Sights.{Scopes}
use Rattle.dpl_scopes.specs.Slots.{slot_in}
use Rattle.dpl_lowered.specs.Shapes.{nowhere}
use Rattle.dpl_lowered.specs.LoweredExpressions.{Once}
use Rattle.dpl_lowered.specs.LoweredStatements.{lowered_variables}
use Rattle.dpl_memory.specs.Memory.{Variable}
use Rattle.dpl_memory.specs.Resolved.{variable_of}
use Rattle.dpl_nodes.specs.declared.tree.BoolExpr.{BoolExpr}
use Rattle.dpl_nodes.specs.declared.step.Names.{Names}
use Rattle.dpl_nodes.specs.declared.step.Names.TheVariants as names
use Rattle.dpl_nodes.specs.Typed.{truth_view, range_item, domain_view}
use Rattle.dpl_nodes.specs.Steps.{scalar_leaf}
use Rattle.dpl_typed.specs.declared.typed.Typed.{Typed}
use Rattle.dpl_typed.specs.Typed.{types_of, typed_view, typed_item, is_tuple_rank}
use Rattle.dpl_bound.specs.Sights.{bound_in}
use Rattle.dpl_bound.specs.Bounds.{bound_variables}
use Rattle.dpl_heads.specs.declared.head.Iterable.{Iterable}
use Rattle.dpl_heads.specs.declared.head.Iterable.TheVariants as iterable

-- CONDITIONS: the node is there, and stands for a tree
abbrev pub IsTruth : ExprTree Variable → Option (Bor BoolExpr) → Type 0
IsTruth e None = ⊥
IsTruth e (Some b) = truth_view b.now ≡ e

-- the node of what was found, where that is a truth value
abbrev pub IsTruthOf : Option Typed → Option (Bor BoolExpr) → Type 0
IsTruthOf found None = has is_bool (types_of found) ≡ false
IsTruthOf found (Some b) = IfSome found (λ t. truth_view b.now ≡ typed_view Once t)

-- WHAT A LOOP RUNS OVER, as it stands in a lowered tree. What no loop runs over is seen as a bare word, of which no clause speaks.
abbrev pub over_item : Iterable → ItemTree Variable
over_item (iterable.Range r) = range_item r.now
over_item (iterable.Domain d) = One (domain_view d.now)
over_item iterable.Nothing = One (LocalesWord nowhere)

-- the range or the domain that was found, where it is one
abbrev pub IsIterated : Option Typed → Iterable → Type 0
IsIterated found (iterable.Range r) = (has is_range (types_of found) ≡ true) × IfSome found (λ t. range_item r.now ≡ typed_item Once t)
IsIterated found (iterable.Domain d) = (has is_domain (types_of found) ≡ true) × IfSome found (λ t. One (domain_view d.now) ≡ typed_item Once t)
IsIterated found iterable.Nothing = (has is_range (types_of found) ≡ false) × (has is_domain (types_of found) ≡ false)

-- THE TYPE OF A LOOP'S VARIABLES: an int or a tuple where there is one, and else an int
abbrev pub is_one_turn : ValueType → Bool
is_one_turn (Scalar k) = same_kind IntKind k
is_one_turn (Tuple rank) = is_tuple_rank rank
is_one_turn _ = false

abbrev pub is_turn : VariablesTree Text → ValueType → Bool
is_turn (OneVariable x) t = is_one_turn t
is_turn (ManyVariables from xs upto) t = is_int t

abbrev pub IsOneInt : VariablesTree Text → Option ValueType → Type 0
IsOneInt (OneVariable x) t = t ≡ Some an_int
IsOneInt (ManyVariables from xs upto) t = ⊥

abbrev pub IsIntOver : VariablesTree Text → Option ValueType → Iterable → Type 0
IsIntOver xs t (iterable.Range r) = IsOneInt xs t
IsIntOver xs t (iterable.Domain d) = Unit {0}
IsIntOver xs t iterable.Nothing = ⊥

-- a head that breaks no rule and is run: its variables have the type of a turn's, and it runs over an item of this tree
pub record IsRun (xs : VariablesTree Text) (item : ItemTree Variable) (t : Option ValueType) (o : Iterable) : Type 0 where
  pub turn : has (is_turn xs) t ≡ true
  pub over : over_item o ≡ item
  pub fits : IsIntOver xs t o

-- ITS VARIABLES, resolved in the scope that is opened for them, and with their slots
abbrev pub variables_leaves : Option ValueType → Scopes → VariablesTree Text → VariablesTree Variable
variables_leaves t ss xs = lowered_variables (renamed_variables variable_of (bound_variables t ss xs))

-- over a range a loop has the slot of an int
abbrev pub FitsNames : Iterable → Names → Type 0
FitsNames (iterable.Range r) (names.Int slot) = Unit {0}
FitsNames (iterable.Range r) (names.Tuple slot) = ⊥
FitsNames (iterable.Range r) (names.Each first others) = ⊥
FitsNames (iterable.Domain d) n = Unit {0}
FitsNames iterable.Nothing n = ⊥

-- ITS REDUCE VARIABLES, resolved
abbrev pub reduced_leaves : Scopes → List (Text × Op) → List (Variable × Op)
reduced_leaves ss is = renamed_intents variable_of (renamed_intents (bound_in ss) is)

-- what is kept of intents: of each that reduces, the slot of its name and its operator, which tells the kind
abbrev pub kept_at : Op → Option ℕ → List (Variable × Op)
kept_at op None = []
kept_at op (Some slot) = (scalar_leaf (op_kind op) slot, op) ∷ []

abbrev pub kept_of : Scopes → IntentTree Text → List (Variable × Op)
kept_of ss (ReduceIntent at op word x) = kept_at op (slot_in ss x.name)
kept_of ss (RefIntent at x) = []

abbrev pub kept_all : Scopes → List (IntentTree Text) → List (Variable × Op)
kept_all ss [] = []
kept_all ss (i ∷ rest) = kept_of ss i ++ kept_all ss rest
