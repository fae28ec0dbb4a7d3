-- Expressions and declarations write no array: of all that they do nothing is among the written arrays of a forall.
-- What stands in a list of deeds is looked at in order, so that two lists one behind the other write what the first writes, and then the second.
use Rattle.std.proofs.Common.{◌≡◌, Bool, true, false, List, [], ◌∷◌, ◌++◌, Option, Some, None, refl, sym, ap, ◌∙◌, append_assoc}
use Rattle.std.specs.Prelude.{if◌then◌else◌}
use Rattle.std.specs.Option.{option_or}
use Rattle.dpl_syntax.specs.declared.place.Place.{Place}
use Rattle.dpl_language.specs.Tree.{ExprTree, Named, Grouped, DomainLiteral, Prefixed, Reduced, Chain, Postfixed, ItemTree, One, RangeItem, Stride, NoStride, By, Links, NoLinks, Link, Posts, NoPosts, Post, PostTree, Brackets, Rounds, Dotted, MethodTree, Plainly, Dim, Contains, Expand, CellRead, Items, FirstItem, MoreItems, NoItems, NextItem, Exprs, FirstExpr, MoreExprs, NoExprs, NextExpr}
use Rattle.dpl_language.specs.Tree.{StartTree, StartExpr, StartTuple, MapTree, BlockMap, CyclicMap, BlockCyclicMap, MappedTree, TypeTree, ScalarType, SyncType, DomainType, ArrayType, InitTree, ItemInit, CreateInit, InitialTree, DeclareTree}
use Rattle.dpl_language.specs.Tree.{IntentTree, ReduceIntent, RefIntent, WithTree, CallTree, ReadCall, ResetCall, WriteCall, Placed}
use Rattle.dpl_language.specs.Names.{Text}
use Rattle.dpl_language.specs.Phrases.{Base, BaseName, BaseLocales, OtherBase, base_of, parts}
use Rattle.dpl_language.specs.Declarations.{type_of as written_type}
use Rattle.dpl_rules.specs.Types.{Origin, is_array, is_cell, has}
use Rattle.dpl_rules.specs.Places.{first_of_declaration}
use Rattle.dpl_rules.specs.Sights.{Declared, Scopes, lookup, type_declared}
use Rattle.dpl_rules.specs.Deeds.{Deed, Reads, ReadsAt, Writes, WritesAt, Holds, Holding, ADeclaration, ACellCall, held_if, array_deeds, cell_deeds, items_index, exprs_index, name_deeds, declared_deeds, base_deeds, expr_deeds, item_deeds, stride_deeds, links_deeds, posts_deeds, post_deeds, method_deeds, items_deeds, more_items_deeds, exprs_deeds, more_exprs_deeds, all_deeds, start_deeds, map_deeds, mapped_deeds}
use Rattle.dpl_rules.specs.Doings.{intents_deeds, with_deeds, type_deeds, init_deeds, initial_deeds, declaration_deeds, is_apart, call_argument_deeds, call_deeds}
use Rattle.dpl_rules.specs.Bodies.{ForallScope, written_by, written_arrays}

-- the name of the first
abbrev pub first_name : List Origin → Option Text
first_name [] = None
first_name (o ∷ os) = Some o.name

first_name-both : (os ps : List Origin) → first_name (os ++ ps) ≡ option_or (first_name os) (first_name ps)
first_name-both [] ps = refl
first_name-both (o ∷ os) ps = refl

module _ (loop : ForallScope) where
  pub written-both : (ds es : List Deed) → written_arrays loop (ds ++ es) ≡ written_arrays loop ds ++ written_arrays loop es
  written-both [] es = refl
  written-both (Reads at d ∷ ds) es = written-both ds es
  written-both (ReadsAt at d is ∷ ds) es = written-both ds es
  written-both (Writes at d op ∷ ds) es =
      ap (λ os. written_by loop d ++ os) (written-both ds es) ∙ sym (append_assoc (written_by loop d) (written_arrays loop ds) (written_arrays loop es))
  written-both (WritesAt at d is op ∷ ds) es =
      ap (λ os. written_by loop d ++ os) (written-both ds es) ∙ sym (append_assoc (written_by loop d) (written_arrays loop ds) (written_arrays loop es))
  written-both (Holds at h ∷ ds) es = written-both ds es

  -- what is written first of two lists
  pub first-both : (ds es : List Deed) → first_name (written_arrays loop (ds ++ es)) ≡ option_or (first_name (written_arrays loop ds)) (first_name (written_arrays loop es))
  first-both ds es = ap first_name (written-both ds es) ∙ first_name-both (written_arrays loop ds) (written_arrays loop es)

  abbrev pub ReadsAlone : List Deed → Type 0
  ReadsAlone ds = written_arrays loop ds ≡ []

  pub behind-reads : (ds es : List Deed) → ReadsAlone ds → written_arrays loop (ds ++ es) ≡ written_arrays loop es
  behind-reads ds es r = written-both ds es ∙ ap (λ os. os ++ written_arrays loop es) r

  pub both-read : (ds es : List Deed) → ReadsAlone ds → ReadsAlone es → ReadsAlone (ds ++ es)
  both-read ds es r s = behind-reads ds es r ∙ s

  pub held-reads : (b : Bool) (at : Place) (h : Holding) → ReadsAlone (held_if b at h)
  held-reads true at h = refl
  held-reads false at h = refl

  intents-read : (is : List (IntentTree Text)) → ReadsAlone (intents_deeds is)
  intents-read [] = refl
  intents-read (ReduceIntent at op word x ∷ rest) = intents-read rest
  intents-read (RefIntent at x ∷ rest) = intents-read rest

  pub with-reads : (w : Option (WithTree Text)) → ReadsAlone (with_deeds w)
  with-reads None = refl
  with-reads (Some w) = intents-read (parts w.intents)

  if-reads : (b : Bool) (ds es : List Deed) → ReadsAlone ds → ReadsAlone es → ReadsAlone (if b then ds else es)
  if-reads true ds es r s = r
  if-reads false ds es r s = s

  array-reads : (ss : Scopes) (at : Place) (d : Declared) (posts : Posts Text) → ReadsAlone (array_deeds at d posts (items_index ss) (exprs_index ss))
  array-reads ss at d NoPosts = refl
  array-reads ss at d (Post (Brackets from items upto) rest) = refl
  array-reads ss at d (Post (Rounds from es upto) rest) = refl
  array-reads ss at d (Post (Dotted dot m) rest) = refl

  cell-reads : (at : Place) (posts : Posts Text) → ReadsAlone (cell_deeds at posts)
  cell-reads at NoPosts = refl
  cell-reads at (Post (Brackets from items upto) rest) = refl
  cell-reads at (Post (Rounds from es upto) rest) = refl
  cell-reads at (Post (Dotted dot (Plainly word w)) rest) = refl
  cell-reads at (Post (Dotted dot (Dim word from rank_at d upto)) rest) = refl
  cell-reads at (Post (Dotted dot (Contains word from es upto)) rest) = refl
  cell-reads at (Post (Dotted dot (Expand word from e upto)) rest) = refl
  cell-reads at (Post (Dotted dot (CellRead word w from upto)) rest) = refl

  name-reads : (ss : Scopes) (at : Place) (d : Declared) (posts : Posts Text) → ReadsAlone (name_deeds ss at d posts)
  name-reads ss at d posts =
      if-reads (has is_array d.type) (array_deeds at d posts (items_index ss) (exprs_index ss)) (if has is_cell d.type then cell_deeds at posts else Reads at d ∷ []) (array-reads ss at d posts)
      (if-reads (has is_cell d.type) (cell_deeds at posts) (Reads at d ∷ []) (cell-reads at posts) refl)

  declared-reads : (ss : Scopes) (at : Place) (posts : Posts Text) (o : Option Declared) → ReadsAlone (declared_deeds ss at posts o)
  declared-reads ss at posts None = refl
  declared-reads ss at posts (Some d) = name-reads ss at d posts

  base-reads : (ss : Scopes) (b : Base Text) (posts : Posts Text) (otherwise : List Deed) → ReadsAlone otherwise → ReadsAlone (base_deeds ss b posts otherwise)
  base-reads ss (BaseName x) posts otherwise r = declared-reads ss x.at posts (lookup ss x.name)
  base-reads ss (BaseLocales at) posts otherwise r = r
  base-reads ss OtherBase posts otherwise r = r

  -- ---- expressions
  module _ (ss : Scopes) where
    mutual
      pub expr-reads : (e : ExprTree Text) → ReadsAlone (expr_deeds ss e)
      expr-reads (Named x) = declared-reads ss x.at NoPosts (lookup ss x.name)
      expr-reads (Grouped from item upto) = item-reads item
      expr-reads (DomainLiteral from items upto) = items-read items
      expr-reads (Prefixed at op e) = expr-reads e
      expr-reads (Reduced at op word e) = expr-reads e
      expr-reads (Chain e rest) = both-read (expr_deeds ss e) (links_deeds ss rest) (expr-reads e) (links-read rest)
      expr-reads (Postfixed e posts) =
          both-read (base_deeds ss (base_of e) posts (expr_deeds ss e)) (posts_deeds ss posts)
          (base-reads ss (base_of e) posts (expr_deeds ss e) (expr-reads e)) (posts-read posts)
      expr-reads _ = refl

      pub item-reads : (item : ItemTree Text) → ReadsAlone (item_deeds ss item)
      item-reads (One e) = expr-reads e
      item-reads (RangeItem low at dots high by) =
          both-read (expr_deeds ss low ++ expr_deeds ss high) (stride_deeds ss by)
          (both-read (expr_deeds ss low) (expr_deeds ss high) (expr-reads low) (expr-reads high)) (stride-reads by)

      stride-reads : (by : Stride Text) → ReadsAlone (stride_deeds ss by)
      stride-reads NoStride = refl
      stride-reads (By at e) = expr-reads e

      links-read : (rest : Links Text) → ReadsAlone (links_deeds ss rest)
      links-read NoLinks = refl
      links-read (Link at op e rest) = both-read (expr_deeds ss e) (links_deeds ss rest) (expr-reads e) (links-read rest)

      posts-read : (posts : Posts Text) → ReadsAlone (posts_deeds ss posts)
      posts-read NoPosts = refl
      posts-read (Post p rest) = both-read (post_deeds ss p) (posts_deeds ss rest) (post-reads p) (posts-read rest)

      post-reads : (p : PostTree Text) → ReadsAlone (post_deeds ss p)
      post-reads (Brackets from items upto) = items-read items
      post-reads (Rounds from es upto) = exprs-read es
      post-reads (Dotted dot m) = method-reads m

      method-reads : (m : MethodTree Text) → ReadsAlone (method_deeds ss m)
      method-reads (Plainly at w) = refl
      method-reads (Dim at from rank_at d upto) = refl
      method-reads (Contains at from es upto) = exprs-read es
      method-reads (Expand at from e upto) = expr-reads e
      method-reads (CellRead at w from upto) = refl

      pub items-read : (items : Items Text) → ReadsAlone (items_deeds ss items)
      items-read (FirstItem i more) = both-read (item_deeds ss i) (more_items_deeds ss more) (item-reads i) (more_items-read more)

      more_items-read : (more : MoreItems Text) → ReadsAlone (more_items_deeds ss more)
      more_items-read NoItems = refl
      more_items-read (NextItem comma i more) = both-read (item_deeds ss i) (more_items_deeds ss more) (item-reads i) (more_items-read more)

      pub exprs-read : (es : Exprs Text) → ReadsAlone (exprs_deeds ss es)
      exprs-read (FirstExpr e more) = both-read (expr_deeds ss e) (more_exprs_deeds ss more) (expr-reads e) (more_exprs-read more)

      more_exprs-read : (more : MoreExprs Text) → ReadsAlone (more_exprs_deeds ss more)
      more_exprs-read NoExprs = refl
      more_exprs-read (NextExpr comma e more) = both-read (expr_deeds ss e) (more_exprs_deeds ss more) (expr-reads e) (more_exprs-read more)

    -- ---- declarations
    all-read : (es : List (ExprTree Text)) → ReadsAlone (all_deeds ss es)
    all-read [] = refl
    all-read (e ∷ es) = both-read (expr_deeds ss e) (all_deeds ss es) (expr-reads e) (all-read es)

    start-reads : (s : StartTree Text) → ReadsAlone (start_deeds ss s)
    start-reads (StartExpr e) = expr-reads e
    start-reads (StartTuple from es upto) = all-read (parts es)

    map-reads : (m : MapTree Text) → ReadsAlone (map_deeds ss m)
    map-reads (BlockMap m) = item-reads m.box
    map-reads (CyclicMap m) = start-reads m.start
    map-reads (BlockCyclicMap m) = both-read (start_deeds ss m.start) (start_deeds ss m.size) (start-reads m.start) (start-reads m.size)

    mapped-reads : (mapped : Option (MappedTree Text)) → ReadsAlone (mapped_deeds ss mapped)
    mapped-reads None = refl
    mapped-reads (Some m) = map-reads m.map

    type-reads : (t : Option (TypeTree Text)) → ReadsAlone (type_deeds ss t)
    type-reads None = refl
    type-reads (Some (ScalarType at k)) = refl
    type-reads (Some (SyncType at kind_at k)) = refl
    type-reads (Some (DomainType d)) = mapped-reads d.mapped
    type-reads (Some (ArrayType a)) = items-read a.over

    init-reads : (i : InitTree Text) → ReadsAlone (init_deeds ss i)
    init-reads (ItemInit item mapped) = both-read (item_deeds ss item) (mapped_deeds ss mapped) (item-reads item) (mapped-reads mapped)
    init-reads (CreateInit c) = items-read c.items

    initial-reads : (i : Option (InitialTree Text)) → ReadsAlone (initial_deeds ss i)
    initial-reads None = refl
    initial-reads (Some i) = init-reads i.init

    pub declaration-reads : (d : DeclareTree Text) → ReadsAlone (declaration_deeds ss d)
    declaration-reads d =
        let type = written_type d.typed in
        let held = held_if (is_apart ss type d.initial) (first_of_declaration d) ADeclaration in
        both-read (type_deeds ss type ++ initial_deeds ss d.initial) held
        (both-read (type_deeds ss type) (initial_deeds ss d.initial) (type-reads type) (initial-reads d.initial))
        (held-reads (is_apart ss type d.initial) (first_of_declaration d) ADeclaration)

    -- ---- calls on cells
    call_argument-reads : (call : CallTree Text) → ReadsAlone (call_argument_deeds ss call)
    call_argument-reads (ReadCall at w from upto) = refl
    call_argument-reads (ResetCall at from upto) = refl
    call_argument-reads (WriteCall at w from e upto) = expr-reads e

    pub call-reads : (x : Placed Text) (call : CallTree Text) → ReadsAlone (call_deeds ss x call)
    call-reads x call =
        let b = has is_cell (type_declared (lookup ss x.name)) in
        both-read (held_if b x.at ACellCall) (call_argument_deeds ss call) (held-reads b x.at ACellCall) (call_argument-reads call)
