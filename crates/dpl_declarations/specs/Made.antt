-- What is made of the parts of a declaration, part by part: what is said of a map, what a name of one slot begins with, what an array is
-- over, and what its elements begin with.
use Rattle.std.specs.Prelude.{◌≡◌, ℕ, Bool, true, false, Option, Some, None, option_map}
use Rattle.std.specs.Borrow.{Bor}
use Rattle.dpl_syntax.specs.declared.place.Place.{Place}
use Rattle.dpl_language.specs.Tree.{Kind, CreateWord, CreateBlock, CreateCyclic, One, Items, FirstItem, NoItems, NextItem, TypeTree, ArrayType, InitTree, ItemInit, CreateInit, InitialTree, StmtTree, Declare}
use Rattle.dpl_language.specs.Names.{Text}
use Rattle.dpl_language.specs.Phrases.{item_over}
use Rattle.dpl_rules.specs.Types.{Over, ValueType, Scalar, Range, Domain, Array, Promoted, Tuple, Locale, AllLocales, Cell, fits_array}
use Rattle.dpl_rules.specs.Sights.{Scopes}
use Rattle.dpl_rules.specs.Expressions.{side_part}
use Rattle.dpl_lowered.specs.Shapes.{nowhere, item_in_brackets}
use Rattle.dpl_lowered.specs.LoweredExpressions.{Once, EachTurn}
use Rattle.dpl_lowered.specs.LoweredStatements.{default_tree, mapped_initial, written_initial, ranked_type, written_type, unplaced_word, lowered_init}
use Rattle.dpl_memory.specs.Memory.{DomainKind, ArrayKind, Variable, variable, known_variable}
use Rattle.dpl_nodes.specs.declared.placing.MapExpr.{MapExpr}
use Rattle.dpl_nodes.specs.declared.placing.Placing.{Placing}
use Rattle.dpl_nodes.specs.declared.placing.Placing.TheVariants.{Derived, Mapped, BlockCreated, CyclicCreated}
use Rattle.dpl_nodes.specs.declared.step.DeclaredOver.{DeclaredOver}
use Rattle.dpl_nodes.specs.declared.step.Initial.{Initial}
use Rattle.dpl_nodes.specs.Spots.{IsNear}
use Rattle.dpl_nodes.specs.Steps.{unplaced_leaf, placed_leaf, declared_with, placed_map, placed_type, typed_map, over_items, initial_kind, initial_view}
use Rattle.dpl_typed.specs.declared.typed.Typed.{Typed}
use Rattle.dpl_typed.specs.Leaves.{value_kind, leaf_by}
use Rattle.dpl_typed.specs.Typed.{type_of_typed, types_of, typed_view, typed_item}
use Rattle.dpl_typed.specs.Stands.{StandsForItem, IsItem}
use Rattle.dpl_typed.specs.Where.{WhereSimpleItem}
use Rattle.dpl_bound.specs.Run.{side_leaves}
use Rattle.dpl_mapped.specs.Named.{IsMappedAs}
use Rattle.dpl_declarations.specs.declared.initial.Given.{Given}
use Rattle.dpl_declarations.specs.Trees.{init_leaves}

-- ---- MAPS
-- a map that is named, or what else is said; and that of a created domain
abbrev pub placing_or : Option (Bor MapExpr) → Placing → Placing
placing_or None otherwise = otherwise
placing_or (Some m) otherwise = Mapped m

abbrev pub created_placing : CreateWord → Placing
created_placing CreateBlock = BlockCreated
created_placing CreateCyclic = CyclicCreated

-- what an initial value says of a map
abbrev pub IsPlacing : Scopes → InitTree Text → Placing → Type 0
IsPlacing ss (ItemInit item mapped) p = (m : Option (Bor MapExpr)) × IsMappedAs ss mapped m × (p ≡ placing_or m Derived)
IsPlacing ss (CreateInit c) p = p ≡ created_placing c.word

-- ---- INITIAL VALUES
-- that of a name without a type, and what it says of a map
pub record IsGivenBy (ss : Scopes) (i : InitTree Text) (g : Given) : Type 0 where
  pub value : IsItem g.part.found (lowered_init known_variable (init_leaves ss i))
  pub placing : IsPlacing ss i g.placing

-- one beside a type, where no domain is created
abbrev pub IsBeside : Scopes → InitTree Text → Option Typed → Type 0
IsBeside ss (ItemInit item mapped) r =
    (types_of r ≡ (side_part ss item).type) × WhereSimpleItem ss item (StandsForItem r (λ m. side_leaves ss m item))
IsBeside ss (CreateInit c) r = Unit {0}

abbrev pub IsInitialBeside : Scopes → Option (InitialTree Text) → Option Typed → Type 0
IsInitialBeside ss None r = r ≡ None
IsInitialBeside ss (Some i) r = IsBeside ss i.init r

-- ---- NAMES OF ONE SLOT
-- a declaration of a name that no fault tells
abbrev pub single_as : Option Place → Variable → Option (TypeTree Variable) → Option (InitialTree Variable) → StmtTree Variable
single_as config x type initial = Declare (record {
  config = config;
  at = nowhere;
  constant = false;
  name = unplaced_leaf x;
  typed = option_map written_type type;
  initial = initial;
  semicolon = nowhere;
})

-- which values a name begins with: an int or a truth value, also by `config`; a range; and a domain, with whatever is said of its map
abbrev pub Begins : Option Place → Placing → ValueType → Type 0
Begins config p (Scalar k) = p ≡ Derived
Begins config p (Range strided) = (config ≡ None) × (p ≡ Derived)
Begins config p (Domain rank strided) = config ≡ None
Begins config p (Array k over) = ⊥
Begins config p (Promoted k over) = ⊥
Begins config p (Tuple rank) = ⊥
Begins config p Locale = ⊥
Begins config p AllLocales = ⊥
Begins config p (Cell k) = ⊥

abbrev pub begun_as : Option Place → ℕ → Typed → Placing → StmtTree Variable
begun_as config slot t p =
    single_as (unplaced_word config) (leaf_by (value_kind (type_of_typed t)) (Some slot)) (placed_type p)
    (Some (mapped_initial nowhere (typed_item Once t) (placed_map p (typed_view Once t))))

-- a domain without an index
abbrev pub empty_as : ℕ → ℕ → Placing → StmtTree Variable
empty_as slot rank p = single_as None (variable DomainKind slot) (Some (ranked_type rank (typed_map p))) None

-- a value, or the default of an int or a truth value
abbrev pub IsOrDefault : Kind → Option Typed → Option Typed → Type 0
IsOrDefault k (Some t) r = r ≡ Some t
IsOrDefault k None None = ⊥
IsOrDefault k None (Some t) = (type_of_typed t ≡ Scalar k) × (typed_item Once t ≡ One (default_tree k))

-- ---- ARRAYS
-- what stands between the brackets: what isn't bare in the text is no bare name
abbrev pub between : Bool → Items Variable → Items Variable
between true is = is
between false (FirstItem i NoItems) = FirstItem (item_in_brackets (item_over i) i) NoItems
between false (FirstItem i (NextItem comma j more)) = FirstItem i (NextItem comma j more)

abbrev pub IsOver : Items Variable → Option DeclaredOver → Type 0
IsOver is None = ⊥
IsOver is (Some o) = over_items o ≡ is

-- what the elements begin with: nothing is written, or a value that each of them may be given
abbrev pub Fits : Kind → Option (InitialTree Text) → Option Typed → Type 0
Fits k None v = Unit {0}
Fits k (Some i) None = ⊥
Fits k (Some i) (Some v) = ((over : Over) × (fits_array k over (type_of_typed v) ≡ true)) × IsNear i.equals

abbrev pub elements_tree : Option (InitialTree Text) → Option Typed → Option (InitialTree Variable)
elements_tree None v = None
elements_tree (Some i) None = None
elements_tree (Some i) (Some v) = Some (written_initial i.equals (typed_item EachTurn v))

abbrev pub AreBegun : Kind → Option (InitialTree Variable) → Option Initial → Type 0
AreBegun k i None = ⊥
AreBegun k i (Some b) = (initial_view b ≡ i) × (initial_kind b ≡ k)

-- the declaration
abbrev pub array_as : Place → ℕ → Place → Kind → Items Variable → Option (InitialTree Variable) → StmtTree Variable
array_as at slot from k is i =
    declared_with (placed_leaf at (variable (ArrayKind k) slot)) (ArrayType (record { from = from; over = is; upto = nowhere; kind_at = nowhere; kind = k })) i
