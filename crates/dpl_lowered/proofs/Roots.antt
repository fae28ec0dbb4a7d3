-- A lowered declaration gives the root that the declaration gives from which it comes.
-- Its map is kept, and its value is derived from the same name.
use Rattle.std.proofs.Common.{◌≡◌, Bool, true, false, List, [], ◌∷◌, map, refl, ap, ◌∙◌, Some, None, Option, Ok, Err, Result}
use Rattle.std.specs.Prelude.{option_map, if◌then◌else◌}
use Rattle.dpl_syntax.specs.declared.place.Place.{Place}
use Rattle.dpl_sets.specs.TextRanges.{TextRange}
use Rattle.dpl_language.specs.Tree.{Placed, IntKind, BoolKind, Kind, ExprTree, Number, TruthWord, Named, LocalesWord, LocaleCount, HereWord, Grouped, DomainLiteral, Prefixed, Reduced, Chain, Postfixed, ItemTree, One, RangeItem, Links, NoLinks, Link, Posts, NoPosts, Post, PostTree, Brackets, Rounds, Dotted, Plainly, Dim, Contains, Expand, CellRead, Low, Items, FirstItem, NoItems, NextItem, Exprs}
use Rattle.dpl_language.specs.Tree.{StartTree, StartExpr, StartTuple, MapTree, BlockMap, CyclicMap, BlockCyclicMap, MappedTree, TypeTree, ScalarType, SyncType, DomainType, ArrayType, DomainTypeTree, CreateWord, CreateBlock, CreateCyclic, CreateTree, InitTree, ItemInit, CreateInit, InitialTree, DeclareTree}
use Rattle.dpl_language.specs.Values.{Value, Domain, Array, Index, ranges_in, coordinates, all_ranges, Fault, fault, PastLimit}
use Rattle.dpl_language.specs.Ranges.{too_many, sized, least_in, tuple_or_end, method_of}
use Rattle.dpl_language.specs.Distributions.{Distribution, CyclicFrom, Root}
use Rattle.dpl_language.specs.Outcome.{with_ok}
use Rattle.dpl_language.specs.Environment.{Environment, Limits}
use Rattle.dpl_language.specs.Phrases.{Base, BaseName, BaseLocales, OtherBase, base_of, bare_name, parts, posts_read}
use Rattle.dpl_language.specs.Expressions.{items_of}
use Rattle.dpl_language.specs.Declarations.{type_of}
use Rattle.dpl_language.specs.Roots.{by_post, by_posts, derived_from, derived_item, derived_over, type_map, is_typed_domain, or_no_map, root_by, cyclic_or_none, created_by, each_value, start_of, map_of, named_by, created, derived_root, init_root, initial_root, domain_root, deal_domain, deal_array, deal_by, dealt}
use Rattle.dpl_agreement.proofs.RunsAlike.{with_ok-same}
use Rattle.dpl_lowered.specs.Known.{Known, Unknown, may_be_array, IsKnown}
use Rattle.dpl_lowered.specs.Shapes.{nowhere, as_expr, as_item, in_brackets, item_in_brackets, hidden_item, grouped, nests, nested, stacked_on, stacked}
use Rattle.dpl_lowered.specs.LoweredExpressions.{Times, Once, rebased, name_base, read_base, rounds_by, told_base, based, rounds_of, lowered_expr, lowered_item, lowered_items, lowered_links, lowered_posts, lowered_post, lowered_exprs}
use Rattle.dpl_lowered.specs.LoweredStatements.{root_type, created_map, default_tree, lowered_side, lowered_over, lowered_array, lowered_start, lowered_map, lowered_mapped, created_tree, lowered_init, lowered_init_map, lowered_with, plain_initial, lowered_initial, map_by, domain_type, domain_initial, declared_type, declared_initial, lowered_declare}
use Rattle.dpl_lowered.proofs.Parts.{parts-relisted, type_of-written}
use Rattle.dpl_lowered.proofs.Values.{value_of-lowered, item_of-lowered, items_of-lowered}

-- THE NAME from which a value is derived, by how a lowered tree is put together
module _ {N : Type 0} where
  as_expr-derived : (i : ItemTree N) → derived_from (as_expr i) ≡ derived_item i
  as_expr-derived (One e) = refl
  as_expr-derived (RangeItem low at dots high by) = refl

  as_item-derived : (e : ExprTree N) → derived_item (as_item e) ≡ derived_from e
  as_item-derived (Number at n) = refl
  as_item-derived _ = refl

  brackets-derived : {B : Type 0} (o : Option B) (e : ExprTree N) → derived_from (in_brackets o e) ≡ derived_from e
  brackets-derived None e = refl
  brackets-derived (Some y) e = refl

  item_brackets-derived : {B : Type 0} (o : Option B) (i : ItemTree N) → derived_item (item_in_brackets o i) ≡ derived_item i
  item_brackets-derived None i = refl
  item_brackets-derived (Some y) i = refl

  hidden_item-derived : {A B : Type 0} (o : Option A) (p : Option B) (i : ItemTree N) → derived_item (hidden_item o p i) ≡ derived_item i
  hidden_item-derived None p i = item_brackets-derived p i
  hidden_item-derived (Some x) p i = refl

  grouped-derived : (a : ExprTree N) (l rest : Links N) → derived_from (grouped (Chain a l) rest) ≡ None
  grouped-derived a l NoLinks = refl
  grouped-derived a l (Link at op b rest) = grouped-derived (Chain a l) (Link at op b NoLinks) rest

  nested-derived : (a : ExprTree N) (rest : Links N) → derived_from (nested a rest) ≡ None
  nested-derived a NoLinks = refl
  nested-derived a (Link at op b rest) =
      elim (nests (Link at op b rest)) as (λ n. derived_from (if n then grouped a (Link at op b rest) else Chain a (Link at op b rest)) ≡ None)
      [ true ↦ grouped-derived a (Link at op b NoLinks) rest | false ↦ refl ]

  stacked_on-derived : (e : ExprTree N) (ps : Posts N) → derived_from (stacked_on e ps) ≡ by_posts ps (derived_from e)
  stacked_on-derived e NoPosts = refl
  stacked_on-derived e (Post p rest) = stacked_on-derived (Postfixed e (Post p NoPosts)) rest

  stacked-derived : (e : ExprTree N) (ps : Posts N) → derived_from (stacked e ps) ≡ by_posts ps (derived_from e)
  stacked-derived e NoPosts = refl
  stacked-derived e (Post p rest) = stacked_on-derived (Postfixed e (Post p NoPosts)) rest

  -- what a base says of it: a name is derived from itself, and `Locales` from none
  abbrev by_base : Base N → Option N → Option N
  by_base (BaseName x) o = Some x.name
  by_base (BaseLocales at) o = None
  by_base OtherBase o = o

  mutual
    base-derived : (e : ExprTree N) → by_base (base_of e) (derived_from e) ≡ derived_from e
    base-derived (Grouped from (One e) upto) = base-derived e
    base-derived _ = refl

  rebased-derived : (b : Base N) (e : ExprTree N) → derived_from (rebased b e) ≡ by_base b (derived_from e)
  rebased-derived (BaseName x) e = refl
  rebased-derived (BaseLocales at) e = refl
  rebased-derived OtherBase e = refl

module _ {N : Type 0} (known : N → Known) where
  name_base-derived : (b : Bool) (x : Placed N) (o : Option N) → Some x.name ≡ o → by_base (name_base b x) o ≡ o
  name_base-derived true x o e = e
  name_base-derived false x o e = refl

  told-derived : (posts : Posts N) (b : Base N) (o : Option N) → by_base b o ≡ o → by_base (told_base known posts b) o ≡ o
  told-derived NoPosts b o e = refl
  told-derived (Post (Brackets from items upto) rest) (BaseName x) o e = name_base-derived (may_be_array (known x.name)) x o e
  told-derived (Post (Brackets from items upto) rest) (BaseLocales at) o e = e
  told-derived (Post (Brackets from items upto) rest) OtherBase o e = refl
  told-derived (Post (Rounds from es upto) rest) (BaseName x) o e = e
  told-derived (Post (Rounds from es upto) rest) (BaseLocales at) o e = refl
  told-derived (Post (Rounds from es upto) rest) OtherBase o e = refl
  told-derived (Post (Dotted dot m) rest) b o e = refl

  read-derived : (op : Option _) (e l : ExprTree N) → derived_from l ≡ derived_from e → derived_from (read_base op (bare_name e) l) ≡ derived_from e
  read-derived None e l p = p
  read-derived (Some op) e l p = by e p
    where
      by : (e : ExprTree N) → derived_from l ≡ derived_from e → derived_from (read_base (Some op) (bare_name e) l) ≡ derived_from e
      by (Number at n) p = brackets-derived (bare_name l) l ∙ p
      by (TruthWord at b) p = brackets-derived (bare_name l) l ∙ p
      by (Named x) p = refl
      by (LocalesWord at) p = brackets-derived (bare_name l) l ∙ p
      by (LocaleCount at) p = brackets-derived (bare_name l) l ∙ p
      by (HereWord at) p = brackets-derived (bare_name l) l ∙ p
      by (Grouped from item upto) p = brackets-derived (bare_name l) l ∙ p
      by (DomainLiteral from items upto) p = brackets-derived (bare_name l) l ∙ p
      by (Prefixed at op e) p = brackets-derived (bare_name l) l ∙ p
      by (Reduced at op word e) p = brackets-derived (bare_name l) l ∙ p
      by (Chain e rest) p = brackets-derived (bare_name l) l ∙ p
      by (Postfixed e posts) p = brackets-derived (bare_name l) l ∙ p

  based-derived : (posts : Posts N) (e l : ExprTree N) → derived_from l ≡ derived_from e → derived_from (based known posts e l) ≡ derived_from e
  based-derived posts e l p =
      read-derived (posts_read posts) e (rebased (told_base known posts (base_of e)) l)
      (rebased-derived (told_base known posts (base_of e)) l ∙ ap (by_base (told_base known posts (base_of e))) p ∙ told-derived posts (base_of e) (derived_from e) (base-derived e))

  rounds_by-derived : (k : Known) (es : Exprs N) (o : Option N) → by_post (rounds_by k es) o ≡ o
  rounds_by-derived Unknown es o = refl
  rounds_by-derived _ es o = refl

  rounds-derived : (b : Base N) (es : Exprs N) (o : Option N) → by_post (rounds_of known b es) o ≡ o
  rounds-derived (BaseName x) es o = rounds_by-derived (known x.name) es o
  rounds-derived (BaseLocales at) es o = refl
  rounds-derived OtherBase es o = refl

  post-derived : (b : Base N) (p : PostTree N) (o : Option N) → by_post (lowered_post known b p) o ≡ by_post p o
  post-derived b (Brackets from items upto) o = refl
  post-derived b (Rounds from es upto) o = rounds-derived b (lowered_exprs known es) o
  post-derived b (Dotted dot (Plainly at w)) o = refl
  post-derived b (Dotted dot (Dim at from rank_at d upto)) o = refl
  post-derived b (Dotted dot (Contains at from es upto)) o = refl
  post-derived b (Dotted dot (Expand at from e upto)) o = refl
  post-derived b (Dotted dot (CellRead at w from upto)) o = refl

  posts-derived : (b : Base N) (ps : Posts N) (o : Option N) → by_posts (lowered_posts known b ps) o ≡ by_posts ps o
  posts-derived b NoPosts o = refl
  posts-derived b (Post p rest) o = posts-derived OtherBase rest (by_post (lowered_post known b p) o) ∙ ap (by_posts rest) (post-derived b p o)

  mutual
    pub derived-lowered : (m : Times) (e : ExprTree N) → derived_from (lowered_expr known m e) ≡ derived_from e
    derived-lowered m (Grouped from item upto) = as_expr-derived (lowered_item known m item) ∙ item-derived m item
    derived-lowered m (Chain e rest) = nested-derived (lowered_expr known m e) (lowered_links known m rest)
    derived-lowered m (Postfixed e posts) =
        stacked-derived (based known posts e (lowered_expr known Once e)) (lowered_posts known (base_of e) posts)
        ∙ posts-derived (base_of e) posts (derived_from (based known posts e (lowered_expr known Once e)))
        ∙ ap (by_posts posts) (based-derived posts e (lowered_expr known Once e) (derived-lowered Once e))
    derived-lowered m _ = refl

    pub item-derived : (m : Times) (i : ItemTree N) → derived_item (lowered_item known m i) ≡ derived_item i
    item-derived m (One e) = as_item-derived (lowered_expr known m e) ∙ derived-lowered m e
    item-derived m (RangeItem low at dots high by) = refl

  side-derived : (m : Times) (i : ItemTree N) → derived_item (lowered_side known m i) ≡ derived_item i
  side-derived m i = hidden_item-derived _ _ (lowered_item known m i) ∙ item-derived m i

  over-derived : (items : Items N) → derived_over (lowered_over known items) ≡ derived_over items
  over-derived (FirstItem i NoItems) = hidden_item-derived _ _ (lowered_item known Once i) ∙ item-derived Once i
  over-derived (FirstItem i (NextItem comma j more)) = refl

module _ {N S : Type 0} (limits : Limits) (env : Environment N S) (known : N → Known) (is : IsKnown known env) where
  -- MAPS
  each_value-lowered : (es : List (ExprTree N)) (s : S) → each_value limits env (map (lowered_expr known Once) es) s ≡ each_value limits env es s
  each_value-lowered [] s = refl
  each_value-lowered (e ∷ es) s = with_ok-same _ _ _ _ (value_of-lowered limits env known is Once e None s tt) (λ v. with_ok-same _ _ _ _ (each_value-lowered es s) (λ vs. refl))

  start-lowered : (t : StartTree N) (s : S) → start_of limits env (lowered_start known t) s ≡ start_of limits env t s
  start-lowered (StartExpr e) s = with_ok-same _ _ _ _ (value_of-lowered limits env known is Once e None s tt) (λ v. refl)
  start-lowered (StartTuple from es upto) s =
      with_ok-same _ _ _ _ (ap (λ es. each_value limits env es s) (parts-relisted (lowered_expr known Once) es) ∙ each_value-lowered (parts es) s) (λ vs. refl)

  map-lowered : (m : MapTree N) (s : S) → map_of limits env (lowered_map known m) s ≡ map_of limits env m s
  map-lowered (BlockMap m) s = with_ok-same _ _ _ _ (item_of-lowered limits env known is Once m.box None s tt) (λ v. refl)
  map-lowered (CyclicMap m) s = with_ok-same _ _ _ _ (start-lowered m.start s) (λ t. refl)
  map-lowered (BlockCyclicMap m) s = with_ok-same _ _ _ _ (start-lowered m.start s) (λ t. with_ok-same _ _ _ _ (start-lowered m.size s) (λ sizes. refl))

  -- a created domain's map is by its value, evaluated once more
  abbrev sized_from : Place → Result (List Value) Fault → Result Value Fault
  sized_from from r = with_ok r (λ vs. sized from (all_ranges vs))

  abbrev low_of_value : Result Value Fault → Distribution
  low_of_value r = or_no_map (with_ok (with_ok (with_ok r (λ v. with_ok (method_of Low nowhere v) (λ v. Ok v))) (λ v. Ok (coordinates v))) (λ t. Ok (CyclicFrom t)))

  low-start : (o : Option Index) → or_no_map (with_ok (with_ok (with_ok (tuple_or_end nowhere o) (λ v. Ok v)) (λ v. Ok (coordinates v))) (λ t. Ok (CyclicFrom t))) ≡ cyclic_or_none o
  low-start None = refl
  low-start (Some t) = refl

  low-sized : (from : Place) (rs : List TextRange) (b : Bool)
      → low_of_value (if b then Err (fault PastLimit from) else Ok (Domain rs)) ≡ or_no_map (with_ok {B = Distribution} (if b then Err (fault PastLimit from) else Ok (Domain rs)) (λ v. Ok (created_by CreateCyclic (ranges_in v))))
  low-sized from rs true = refl
  low-sized from rs false = low-start (least_in rs)

  low-created : (from : Place) (r : Result (List Value) Fault) → low_of_value (sized_from from r) ≡ or_no_map (with_ok (sized_from from r) (λ v. Ok (created_by CreateCyclic (ranges_in v))))
  low-created from (Ok vs) = low-sized from (all_ranges vs) (too_many (all_ranges vs))
  low-created from (Err f) = refl

  created-lowered : (c : CreateTree N) (s : S) → named_by limits env (created_map c.word (created_tree known c)) s ≡ created limits env c s
  created-lowered c s = by c.word ∙ ap (λ r. or_no_map (with_ok (sized_from c.from r) (λ v. Ok (created_by c.word (ranges_in v))))) (items_of-lowered limits env known is c.items s)
    where
      by : (w : CreateWord) → named_by limits env (created_map w (created_tree known c)) s
          ≡ or_no_map (with_ok (sized_from c.from (items_of limits env (lowered_items known c.items) s)) (λ v. Ok (created_by w (ranges_in v))))
      by CreateBlock = refl
      by CreateCyclic = low-created c.from (items_of limits env (lowered_items known c.items) s)

  named-lowered : (m : MappedTree N) (s : S) → named_by limits env (lowered_mapped known m) s ≡ named_by limits env m s
  named-lowered m s = ap or_no_map (map-lowered m.map s)

  -- ROOTS
  init_root-lowered : (i : InitTree N) (rs : List TextRange) (s : S) → init_root limits env false (ItemInit (lowered_init known i) (lowered_init_map known i)) rs s ≡ init_root limits env false i rs s
  init_root-lowered (ItemInit item None) rs s = ap (λ o. derived_root limits env o rs s) (side-derived known Once item)
  init_root-lowered (ItemInit item (Some m)) rs s = ap (λ d. root_by d rs) (named-lowered m s)
  init_root-lowered (CreateInit c) rs s = ap (λ d. root_by d rs) (created-lowered c s)

  plain_root-lowered : (k : Kind) (i : Option (InitialTree N)) (rs : List TextRange) (s : S) → initial_root limits env false (plain_initial known (default_tree k) i) rs s ≡ initial_root limits env false i rs s
  plain_root-lowered IntKind None rs s = refl
  plain_root-lowered BoolKind None rs s = refl
  plain_root-lowered k (Some i) rs s = init_root-lowered i.init rs s

  cell_root-lowered : (i : Option (InitialTree N)) (rs : List TextRange) (s : S) → initial_root limits env false (lowered_initial known i) rs s ≡ initial_root limits env false i rs s
  cell_root-lowered None rs s = refl
  cell_root-lowered (Some i) rs s = init_root-lowered i.init rs s

  -- what a domain's type and initial value give, of which the map goes before the type
  abbrev root_beside : Option (TypeTree N) → Option (InitialTree N) → List TextRange → S → Root
  root_beside type i rs s = domain_root limits env (type_map type) (is_typed_domain type) i rs s

  typed_root-lowered : (m : Option (MappedTree N)) (i : InitTree N) (rs : List TextRange) (s : S)
      → root_beside (root_type (map_by known m i)) (Some (lowered_with known i (map_by known m i))) rs s ≡ domain_root limits env m true (Some (record { equals = nowhere; init = i })) rs s
  typed_root-lowered (Some m) i rs s = ap (λ d. root_by d rs) (named-lowered m s)
  typed_root-lowered None (ItemInit item (Some m)) rs s = ap (λ d. root_by d rs) (named-lowered m s)
  typed_root-lowered None (ItemInit item None) rs s = refl
  typed_root-lowered None (CreateInit c) rs s = ap (λ d. root_by d rs) (created-lowered c s)

  empty_root-lowered : (m : Option (MappedTree N)) (rs : List TextRange) (s : S) → domain_root limits env (option_map (lowered_mapped known) m) true None rs s ≡ domain_root limits env m true None rs s
  empty_root-lowered None rs s = refl
  empty_root-lowered (Some m) rs s = ap (λ d. root_by d rs) (named-lowered m s)

  equals-root : (m : Option (MappedTree N)) (a b : InitialTree N) (rs : List TextRange) (s : S) → a.init ≡ b.init → domain_root limits env m true (Some a) rs s ≡ domain_root limits env m true (Some b) rs s
  equals-root None a b rs s e = ap (λ i. init_root limits env true i rs s) e
  equals-root (Some m) a b rs s e = refl

  domain_root-lowered : (d : DomainTypeTree N) (i : Option (InitialTree N)) (rs : List TextRange) (s : S)
      → root_beside (domain_type known d i) (domain_initial known d i) rs s ≡ root_beside (Some (DomainType d)) i rs s
  domain_root-lowered d None rs s = empty_root-lowered d.mapped rs s
  domain_root-lowered d (Some i) rs s = typed_root-lowered d.mapped i.init rs s ∙ equals-root d.mapped _ i rs s refl

  -- the state behind a declaration
  deal_domain-by : (type : Option (TypeTree N)) (i : Option (InitialTree N)) (kind : Option (TypeTree N)) (j : Option (InitialTree N)) (x : N) (v : Value) (s after : S)
      → ((rs : List TextRange) → root_beside type i rs s ≡ root_beside kind j rs s) → deal_domain limits env type i x v s after ≡ deal_domain limits env kind j x v s after
  deal_domain-by type i kind j x (Domain rs) s after p = ap (λ r. env.deal x r after) (p rs)
  deal_domain-by type i kind j x _ s after p = refl

  deal_array-lowered : (a : _) (x : N) (v : Value) (s after : S) → deal_array limits env (lowered_array known a) x v s after ≡ deal_array limits env a x v s after
  deal_array-lowered a x (Array k rs) s after = ap (λ o. env.deal x (derived_root limits env o rs s) after) (over-derived known a.over)
  deal_array-lowered a x _ s after = refl

  -- a type beside which a root is told is no array's
  root_type-deal : (o : Option (MappedTree N)) (i : Option (InitialTree N)) (x : N) (v : Value) (s after : S) → deal_by limits env (root_type o) i x v s after ≡ deal_domain limits env (root_type o) i x v s after
  root_type-deal None i x v s after = refl
  root_type-deal (Some m) i x v s after = refl

  domain_type-deal : (d : DomainTypeTree N) (i : Option (InitialTree N)) (x : N) (v : Value) (s after : S)
      → deal_by limits env (domain_type known d i) (domain_initial known d i) x v s after ≡ deal_domain limits env (domain_type known d i) (domain_initial known d i) x v s after
  domain_type-deal d None x v s after = refl
  domain_type-deal d (Some i) x v s after = root_type-deal (map_by known d.mapped i.init) (domain_initial known d (Some i)) x v s after

  deal_by-lowered : (type : Option (TypeTree N)) (i : Option (InitialTree N)) (x : N) (v : Value) (s after : S)
      → deal_by limits env (declared_type known type i) (declared_initial known type i) x v s after ≡ deal_by limits env type i x v s after
  deal_by-lowered None i x v s after = deal_domain-by None (plain_initial known (default_tree IntKind) i) None i x v s after (λ rs. plain_root-lowered IntKind i rs s)
  deal_by-lowered (Some (ScalarType at k)) i x v s after =
      deal_domain-by None (plain_initial known (default_tree k) i) (Some (ScalarType at k)) i x v s after (λ rs. plain_root-lowered k i rs s)
  deal_by-lowered (Some (SyncType at kind_at k)) i x v s after =
      deal_domain-by (Some (SyncType nowhere nowhere k)) (lowered_initial known i) (Some (SyncType at kind_at k)) i x v s after (λ rs. cell_root-lowered i rs s)
  deal_by-lowered (Some (DomainType d)) i x v s after =
      domain_type-deal d i x v s after ∙ deal_domain-by (domain_type known d i) (domain_initial known d i) (Some (DomainType d)) i x v s after (λ rs. domain_root-lowered d i rs s)
  deal_by-lowered (Some (ArrayType a)) i x v s after = deal_array-lowered a x v s after

  pub dealt-lowered : (d : DeclareTree N) (s after : S) → dealt limits env (lowered_declare known d) s after ≡ dealt limits env d s after
  dealt-lowered d s after =
      ap (λ type. deal_by limits env type (declared_initial known (type_of d.typed) d.initial) d.name.name (env.get d.name.name after) s after) (type_of-written (declared_type known (type_of d.typed) d.initial))
      ∙ deal_by-lowered (type_of d.typed) d.initial d.name.name (env.get d.name.name after) s after
