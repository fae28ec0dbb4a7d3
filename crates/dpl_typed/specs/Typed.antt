-- A typed expression: the type that the rules of the check give it, and the plain tree that its node stands for.
-- Locales and cells have a type alone.
use Rattle.std.specs.Prelude.{ℕ, nat_lt, Bool, true, false, ◌&&◌, Option, option_map}
use Rattle.dpl_language.specs.Tree.{IntKind, BoolKind, ExprTree, LocalesWord, ItemTree, One}
use Rattle.dpl_rules.specs.Types.{ValueType, Scalar, Range, Domain, Array, Promoted, Tuple, Locale, AllLocales, Cell}
use Rattle.dpl_rules.specs.Verdicts.{Part}
use Rattle.dpl_scopes.specs.Types.{over_view}
use Rattle.dpl_lowered.specs.Shapes.{nowhere, kept}
use Rattle.dpl_lowered.specs.LoweredExpressions.{Times, each_turn}
use Rattle.dpl_memory.specs.Memory.{Variable}
use Rattle.dpl_nodes.specs.Typed.{int_view, truth_view, range_view, range_item, domain_view, array_named, tuple_named, promoted_int, promoted_truth}
use Rattle.dpl_typed.specs.declared.typed.Typed.{Typed}
use Rattle.dpl_typed.specs.declared.typed.Typed.TheVariants as typed
use Rattle.dpl_typed.specs.declared.part.Part.{Part as PartNode}

abbrev pub type_of_typed : Typed → ValueType
type_of_typed (typed.Int e) = Scalar IntKind
type_of_typed (typed.Truth e) = Scalar BoolKind
type_of_typed (typed.Range strided e) = Range strided
type_of_typed (typed.Domain rank strided e) = Domain rank strided
type_of_typed (typed.Array k over slot at) = Array k (over_view over)
type_of_typed (typed.Ints over e) = Promoted IntKind (over_view over)
type_of_typed (typed.Truths over e) = Promoted BoolKind (over_view over)
type_of_typed (typed.Tuple rank slot) = Tuple rank
type_of_typed typed.Locale = Locale
type_of_typed typed.AllLocales = AllLocales
type_of_typed (typed.Cell k) = Cell k

-- of what may have no type
abbrev pub types_of : Option Typed → Option ValueType
types_of t = option_map type_of_typed t

-- a part of a form, as its rule sees it
abbrev pub part_view : PartNode → Part
part_view p = record { at = p.at; type = types_of p.found }

-- Evaluated once, or at each index of the arrays in it: of a whole array and of a promoted expression alone this makes a
-- difference. What has no node is seen as a bare word, of which no clause speaks.
abbrev pub typed_view : Times → Typed → ExprTree Variable
typed_view m (typed.Int e) = int_view e.now
typed_view m (typed.Truth e) = truth_view e.now
typed_view m (typed.Range strided e) = range_view e.now
typed_view m (typed.Domain rank strided e) = domain_view e.now
typed_view m (typed.Array k over slot at) = array_named k slot (kept (each_turn m) at.now)
typed_view m (typed.Ints over e) = promoted_int m e.now
typed_view m (typed.Truths over e) = promoted_truth m e.now
typed_view m (typed.Tuple rank slot) = tuple_named slot
typed_view m typed.Locale = LocalesWord nowhere
typed_view m typed.AllLocales = LocalesWord nowhere
typed_view m (typed.Cell k) = LocalesWord nowhere

-- the same as an item, in which a range needs no brackets
abbrev pub typed_item : Times → Typed → ItemTree Variable
typed_item m (typed.Int e) = One (int_view e.now)
typed_item m (typed.Truth e) = One (truth_view e.now)
typed_item m (typed.Range strided e) = range_item e.now
typed_item m (typed.Domain rank strided e) = One (domain_view e.now)
typed_item m (typed.Array k over slot at) = One (array_named k slot (kept (each_turn m) at.now))
typed_item m (typed.Ints over e) = One (promoted_int m e.now)
typed_item m (typed.Truths over e) = One (promoted_truth m e.now)
typed_item m (typed.Tuple rank slot) = One (tuple_named slot)
typed_item m typed.Locale = One (LocalesWord nowhere)
typed_item m typed.AllLocales = One (LocalesWord nowhere)
typed_item m (typed.Cell k) = One (LocalesWord nowhere)

-- a domain has 1 to 3 dimensions, and a tuple stands for an index of 2 or 3 numbers
abbrev pub is_rank : ℕ → Bool
is_rank rank = nat_lt 0 rank && nat_lt rank 4

abbrev pub is_tuple_rank : ℕ → Bool
is_tuple_rank rank = nat_lt 1 rank && nat_lt rank 4

-- types whose expressions have nodes: none of locales and cells, and of the ranks that a declaration has
abbrev pub has_node : ValueType → Bool
has_node (Scalar k) = true
has_node (Range strided) = true
has_node (Domain rank strided) = is_rank rank
has_node (Array k over) = is_rank over.rank
has_node (Promoted k over) = true
has_node (Tuple rank) = is_tuple_rank rank
has_node Locale = false
has_node AllLocales = false
has_node (Cell k) = false
