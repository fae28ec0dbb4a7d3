-- Expressions and maps whose names are in sight fit with their names resolved: right sides, indices, brackets, arguments and maps.
-- None of them is read as a cell.
use Rattle.std.proofs.Common.{◌≡◌, false, List, [], ◌∷◌, Option, Some, None, sym, ap, ◌∙◌, subst, map}
use Rattle.std.specs.Prelude.{option_map}
use Rattle.dpl_language.specs.Tree.{AfterComma, Op, ExprTree, TruthWord, Named, DomainLiteral, Postfixed, ItemTree, One, NoPosts, Post, Dotted, Contains, Items, Exprs, StartTree, StartExpr, StartTuple, MapTree, BlockMap, CyclicMap, BlockCyclicMap, MappedTree, TypeTree, ScalarType, SyncType, DomainType, ArrayType, TypedTree, InitTree, ItemInit, CreateInit, InitialTree, ArgumentTree, TextArgument, ExprArgument}
use Rattle.dpl_language.specs.Names.{Text}
use Rattle.dpl_language.specs.Values.{Index}
use Rattle.dpl_language.specs.Phrases.{bare_name, item_read}
use Rattle.dpl_language.specs.Declarations.{type_of}
use Rattle.dpl_agreement.specs.Renamed.{map_comma, renamed_expr, renamed_item, renamed_items, renamed_exprs, renamed_read, renamed_start, renamed_map, renamed_mapped, renamed_type, renamed_init, renamed_argument}
use Rattle.dpl_agreement.specs.Scopes.{init_map, initial_map, fits_expr, fits_item, fits_items, fits_exprs, fits_read, fits_side, fits_whole_side, fits_each_value, fits_start, fits_map, fits_mapped, fits_maps, fits_shown, fits_arguments}
use Rattle.dpl_agreement.proofs.RenamedParts.{item_read-renamed}
use Rattle.dpl_rules.specs.Sights.{Scopes}
use Rattle.dpl_lowered.specs.Shapes.{nowhere}
use Rattle.dpl_memory.specs.Resolved.{Bound, Seen, Start, resolving, Resolves}
use Rattle.dpl_memory.proofs.Fitting.{NamesAre, expr_fits, item_fits}
use Rattle.dpl_typed.specs.Leaves.{IsFound}
use Rattle.dpl_typed.specs.Simple.{IsSimple, IsSimpleItem, AreSimpleItems, AreSimpleExprs, AreSimpleMoreExprs}
use Rattle.dpl_bound.specs.Sights.{bound_in, AreKnownScopes}
use Rattle.dpl_runnable.proofs.Fits.{names-simple, expr_names-simple, unread-simple}
use Rattle.dpl_mapped.specs.Starts.{more_exprs}
use Rattle.dpl_mapped.specs.Starts.{IsSimpleStart}
use Rattle.dpl_mapped.specs.Named.{IsSimpleMap}
use Rattle.dpl_runnable.specs.Runnable.{IsFoundMap, AreFoundMaps, IsRunnableArgument, AreRunnableArguments}
use Rattle.dpl_runnable.specs.InSight.{seen_of, bound_typed, bound_initial}

-- what is simple reads no cell, with its names resolved too
pub item-unread : (ss : Scopes) (i : ItemTree Text) → IsSimpleItem (IsFound ss) i → item_read (renamed_item (bound_in ss) i) ≡ None
item-unread ss i found = item_read-renamed (bound_in ss) i ∙ ap (option_map (renamed_read (bound_in ss))) (unread-simple (IsFound ss) i found)

-- a bare name that is handed to `write` is in sight
shown-fits : (start : Start) (g : Seen) (e : ExprTree Bound) → NamesAre (λ b. Resolves b g) e → fits_shown (resolving start) (bare_name e) g
shown-fits start g (Named x) h = λ t. h
shown-fits start g _ h = tt

module _ (start : Start) (ss : Scopes) (known : AreKnownScopes ss) (intents : List (Bound × Op)) where
  abbrev here : Seen
  here = seen_of ss intents

  -- ---- expressions and items
  pub expr-fits : (e : ExprTree Text) → IsSimple (IsFound ss) e → fits_expr (resolving start) None (renamed_expr (bound_in ss) e) here
  expr-fits e found = expr_fits start here None (renamed_expr (bound_in ss) e) (expr_names-simple ss e known found)

  module _ (i : ItemTree Text) (found : IsSimpleItem (IsFound ss) i) where
    pub item-fits : (k : Option Index) → fits_item (resolving start) k (renamed_item (bound_in ss) i) here
    item-fits k = item_fits start here k (renamed_item (bound_in ss) i) (names-simple ss i known found)

    reads_nothing : fits_read (resolving start) (item_read (renamed_item (bound_in ss) i)) here
    reads_nothing = subst (λ r. fits_read (resolving start) r here) (sym (item-unread ss i found)) tt

    pub side-fits : fits_side (resolving start) (renamed_item (bound_in ss) i) here
    side-fits = (item-fits None, reads_nothing)

    pub whole_side-fits : fits_whole_side (resolving start) (renamed_item (bound_in ss) i) here
    whole_side-fits = (λ k. item-fits (Some k), reads_nothing)

  -- indices, as those of a method; and what stands between brackets
  abbrev asked : {N : Type 0} → Exprs N → ExprTree N
  asked es = Postfixed (TruthWord nowhere false) (Post (Dotted nowhere (Contains nowhere nowhere es nowhere)) NoPosts)

  pub exprs-fit : (es : Exprs Text) → AreSimpleExprs (IsFound ss) es → fits_exprs (resolving start) (renamed_exprs (bound_in ss) es) here
  exprs-fit es found = (expr_fits start here None (asked (renamed_exprs (bound_in ss) es)) (expr_names-simple ss (asked es) known (tt, (found, tt), tt))).1.0

  pub items-fit : (is : Items Text) → AreSimpleItems (IsFound ss) is → fits_items (resolving start) (renamed_items (bound_in ss) is) here
  items-fit is found = expr_fits start here None (DomainLiteral nowhere (renamed_items (bound_in ss) is) nowhere) (expr_names-simple ss (DomainLiteral nowhere is nowhere) known found)

  -- ---- arguments
  argument-fits : (a : ArgumentTree Text) (rest : List (ArgumentTree Bound)) → IsRunnableArgument ss a → fits_arguments (resolving start) rest here → fits_arguments (resolving start) (renamed_argument (bound_in ss) a ∷ rest) here
  argument-fits (TextArgument at cs) rest r f = f
  argument-fits (ExprArgument e) rest r f =
      (side-fits (One e) r.expr.found, shown-fits start here (renamed_expr (bound_in ss) e) (expr_names-simple ss e known r.expr.found), f)

  pub arguments-fit : (xs : List (ArgumentTree Text)) → AreRunnableArguments ss xs → fits_arguments (resolving start) (map (renamed_argument (bound_in ss)) xs) here
  arguments-fit [] r = tt
  arguments-fit (a ∷ xs) r = argument-fits a (map (renamed_argument (bound_in ss)) xs) r.0 (arguments-fit xs r.1)

  -- ---- maps
  others-fit : (xs : List (AfterComma (ExprTree Text))) → AreSimpleMoreExprs (IsFound ss) (more_exprs xs)
      → fits_each_value (resolving start) (map {A = AfterComma (ExprTree Bound)} {B = ExprTree Bound} (λ x. x.part) (map (map_comma (renamed_expr (bound_in ss))) xs)) here
  others-fit [] found = tt
  others-fit (x ∷ xs) found = (expr-fits x.part found.0, others-fit xs found.1)

  start-fits : (s : StartTree Text) → IsSimpleStart (IsFound ss) s → fits_start (resolving start) (renamed_start (bound_in ss) s) here
  start-fits (StartExpr e) found = expr-fits e found
  start-fits (StartTuple from es upto) found = (expr-fits es.first found.0, others-fit es.others found.1)

  map-fits : (m : MapTree Text) → IsSimpleMap (IsFound ss) m → fits_map (resolving start) (renamed_map (bound_in ss) m) here
  map-fits (BlockMap m) found = item-fits m.box found None
  map-fits (CyclicMap m) found = start-fits m.start found
  map-fits (BlockCyclicMap m) found = (start-fits m.start found.0, start-fits m.size found.1)

  mapped-fits : (o : Option (MappedTree Text)) → IsFoundMap ss o → fits_mapped (resolving start) (option_map (renamed_mapped (bound_in ss)) o) here
  mapped-fits None found = tt
  mapped-fits (Some m) found = map-fits m.map found.0

  init-fits : (i : InitTree Text) → IsFoundMap ss (init_map i) → fits_mapped (resolving start) (init_map (renamed_init (bound_in ss) i)) here
  init-fits (ItemInit item mapped) found = mapped-fits mapped found
  init-fits (CreateInit c) found = tt

  initial-fits : (i : Option (InitialTree Text)) → IsFoundMap ss (initial_map i) → fits_mapped (resolving start) (initial_map (bound_initial ss i)) here
  initial-fits None found = tt
  initial-fits (Some i) found = init-fits i.init found

  pub maps-fit : (t : Option (TypedTree Text)) (i : Option (InitialTree Text)) → AreFoundMaps ss (type_of t) i → fits_maps (resolving start) (type_of (bound_typed ss t)) (bound_initial ss i) here
  maps-fit None i found = (tt, initial-fits i found.1)
  maps-fit (Some t) i found = by t.type found
    where
      by : (y : TypeTree Text) → AreFoundMaps ss (Some y) i → fits_maps (resolving start) (Some (renamed_type (bound_in ss) y)) (bound_initial ss i) here
      by (ScalarType at k) found = (tt, initial-fits i found.1)
      by (SyncType at kind_at k) found = (tt, initial-fits i found.1)
      by (DomainType d) found = (mapped-fits d.mapped found.0, initial-fits i found.1)
      by (ArrayType a) found = tt
