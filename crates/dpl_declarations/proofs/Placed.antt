-- What is said of a map, typed, is the map of the lowered declaration.
-- Names that are resolved, and over slots, are leaves.
use Rattle.std.proofs.Common.{◌≡◌, List, [], ◌∷◌, map, Bor, Option, Some, None, refl, sym, ap, ◌∙◌}
use Rattle.std.specs.Prelude.{option_map}
use Rattle.dpl_language.specs.Tree.{AfterComma, Listed, CreateWord, CreateBlock, CreateCyclic, ExprTree, StartTree, StartExpr, StartTuple, MapTree, BlockMap, CyclicMap, BlockCyclicMap, MappedTree, InitTree, ItemInit, CreateInit}
use Rattle.dpl_language.specs.Names.{Text}
use Rattle.dpl_agreement.specs.Renamed.{map_comma, map_listed, renamed_expr, renamed_start, renamed_map}
use Rattle.dpl_agreement.proofs.RenamedTwice.{renamed_expr-twice, renamed_item-twice}
use Rattle.dpl_rules.specs.Sights.{Scopes}
use Rattle.dpl_lowered.specs.Shapes.{as_expr}
use Rattle.dpl_lowered.specs.LoweredExpressions.{Once, lowered_item}
use Rattle.dpl_lowered.specs.LoweredStatements.{block_map, cyclic_map, block_cyclic_map, root_type, mapped_by, created_map, lowered_start, lowered_map, lowered_mapped, lowered_init, lowered_init_map, map_by}
use Rattle.dpl_memory.specs.Memory.{Variable, known_variable}
use Rattle.dpl_memory.specs.Resolved.{variable_of}
use Rattle.dpl_nodes.specs.declared.placing.MapExpr.{MapExpr}
use Rattle.dpl_nodes.specs.declared.placing.Placing.{Placing}
use Rattle.dpl_nodes.specs.declared.placing.Placing.TheVariants.{Derived, Root}
use Rattle.dpl_nodes.specs.Steps.{placed_map, placed_type, typed_map}
use Rattle.dpl_typed.specs.declared.typed.Typed.{Typed}
use Rattle.dpl_typed.specs.Leaves.{leaf_in}
use Rattle.dpl_typed.specs.Typed.{typed_view, typed_item}
use Rattle.dpl_typed.proofs.Standing.{typed_view-item}
use Rattle.dpl_bound.specs.Sights.{bound_in}
use Rattle.dpl_mapped.specs.Named.{map_leaves, IsMappedAs}
use Rattle.dpl_declarations.specs.Trees.{mapped_leaves, init_leaves}
use Rattle.dpl_declarations.specs.Made.{placing_or, created_placing, IsPlacing}

-- ---- NAMES, resolved: what is changed twice is changed by both at once
module _ {A B C : Type 0} (f : B → C) (g : A → B) (h : A → C) (both : (x : A) → f (g x) ≡ h x) where
  others-twice : (xs : List (AfterComma A)) → map (map_comma f) (map (map_comma g) xs) ≡ map (map_comma h) xs
  others-twice [] = refl
  others-twice (x ∷ xs) = ap (λ y. record { comma = x.comma; part = y } ∷ map (map_comma f) (map (map_comma g) xs)) (both x.part) ∙ ap (λ ys. map_comma h x ∷ ys) (others-twice xs)

  map_listed-twice : (xs : Listed A) → map_listed f (map_listed g xs) ≡ map_listed h xs
  map_listed-twice xs = ap (λ x. record { first = x; others = map (map_comma f) (map (map_comma g) xs.others) }) (both xs.first) ∙ ap (λ ys. record { first = h xs.first; others = ys }) (others-twice xs.others)

module _ (ss : Scopes) where
  start-leaf : (s : StartTree Text) → renamed_start variable_of (renamed_start (bound_in ss) s) ≡ renamed_start (leaf_in ss) s
  start-leaf (StartExpr e) = ap StartExpr (renamed_expr-twice variable_of (bound_in ss) e)
  start-leaf (StartTuple from es upto) =
      ap (λ es. StartTuple from es upto) (map_listed-twice (renamed_expr variable_of) (renamed_expr (bound_in ss)) (renamed_expr (leaf_in ss)) (renamed_expr-twice variable_of (bound_in ss)) es)

  map-leaf : (m : MapTree Text) → lowered_map known_variable (renamed_map variable_of (renamed_map (bound_in ss) m)) ≡ map_leaves ss m
  map-leaf (BlockMap m) = ap (λ i. block_map (lowered_item known_variable Once i)) (renamed_item-twice variable_of (bound_in ss) m.box)
  map-leaf (CyclicMap m) = ap (λ s. cyclic_map (lowered_start known_variable s)) (start-leaf m.start)
  map-leaf (BlockCyclicMap m) =
      ap (λ s. block_cyclic_map (lowered_start known_variable s) (lowered_start known_variable (renamed_start variable_of (renamed_start (bound_in ss) m.size)))) (start-leaf m.start)
      ∙ ap (λ s. block_cyclic_map (lowered_start known_variable (renamed_start (leaf_in ss) m.start)) (lowered_start known_variable s)) (start-leaf m.size)

  -- ---- A MAP that is named, if one is
  abbrev lowered_maps : Option (MappedTree Text) → Option (MappedTree Variable)
  lowered_maps o = option_map (lowered_mapped known_variable) (mapped_leaves ss o)

  derived-type : (o : Option (MappedTree Text)) (m : Option (Bor MapExpr)) → IsMappedAs ss o m → placed_type (placing_or m Derived) ≡ None
  derived-type None m h = ap (λ m. placed_type (placing_or m Derived)) h
  derived-type (Some w) None h = absurd h
  derived-type (Some w) (Some e) h = refl

  derived-map : (o : Option (MappedTree Text)) (m : Option (Bor MapExpr)) (v : ExprTree Variable) → IsMappedAs ss o m → lowered_maps o ≡ placed_map (placing_or m Derived) v
  derived-map None m v h = sym (ap (λ m. placed_map (placing_or m Derived) v) h)
  derived-map (Some w) None v h = absurd h
  derived-map (Some w) (Some e) v h = ap (λ k. Some (mapped_by k)) (map-leaf w.map ∙ sym h)

  -- of a domain's type, beside no initial value; and beside one that says nothing of a map
  pub root-typed : (o : Option (MappedTree Text)) (m : Option (Bor MapExpr)) → IsMappedAs ss o m → lowered_maps o ≡ typed_map (placing_or m Root)
  root-typed None m h = sym (ap (λ m. typed_map (placing_or m Root)) h)
  root-typed (Some w) None h = absurd h
  root-typed (Some w) (Some e) h = ap (λ k. Some (mapped_by k)) (map-leaf w.map ∙ sym h)

  pub root-beside : (o : Option (MappedTree Text)) (m : Option (Bor MapExpr)) (i : InitTree Variable) → IsMappedAs ss o m → lowered_init_map known_variable i ≡ None
      → root_type (map_by known_variable (mapped_leaves ss o) i) ≡ placed_type (placing_or m Root)
  root-beside None m i h none = ap root_type none ∙ sym (ap (λ m. placed_type (placing_or m Root)) h)
  root-beside (Some w) None i h none = absurd h
  root-beside (Some w) (Some e) i h none = refl

  pub root-map : (o : Option (MappedTree Text)) (m : Option (Bor MapExpr)) (i : InitTree Variable) (v : ExprTree Variable) → IsMappedAs ss o m → lowered_init_map known_variable i ≡ None
      → map_by known_variable (mapped_leaves ss o) i ≡ placed_map (placing_or m Root) v
  root-map None m i v h none = none ∙ sym (ap (λ m. placed_map (placing_or m Root) v) h)
  root-map (Some w) None i v h none = absurd h
  root-map (Some w) (Some e) i v h none = ap (λ k. Some (mapped_by k)) (map-leaf w.map ∙ sym h)

  -- ---- AN INITIAL VALUE of a name without a type
  created-type : (w : CreateWord) → placed_type (created_placing w) ≡ None
  created-type CreateBlock = refl
  created-type CreateCyclic = refl

  created-map : (w : CreateWord) (e : ExprTree Variable) → placed_map (created_placing w) e ≡ Some (created_map w e)
  created-map CreateBlock e = refl
  created-map CreateCyclic e = refl

  pub placing-type : (i : InitTree Text) (p : Placing) → IsPlacing ss i p → placed_type p ≡ None
  placing-type (ItemInit item mapped) p h = ap placed_type h.2 ∙ derived-type mapped h.0 h.1
  placing-type (CreateInit c) p h = ap placed_type h ∙ created-type c.word

  pub placing-map : (i : InitTree Text) (p : Placing) (v : Typed) → IsPlacing ss i p → typed_item Once v ≡ lowered_init known_variable (init_leaves ss i)
      → lowered_init_map known_variable (init_leaves ss i) ≡ placed_map p (typed_view Once v)
  placing-map (ItemInit item mapped) p v h is = derived-map mapped h.0 (typed_view Once v) h.1 ∙ sym (ap (λ p. placed_map p (typed_view Once v)) h.2)
  placing-map (CreateInit c) p v h is =
      ap (λ e. Some (created_map c.word e)) (sym (typed_view-item Once v ∙ ap as_expr is)) ∙ sym (created-map c.word (typed_view Once v)) ∙ sym (ap (λ p. placed_map p (typed_view Once v)) h)
