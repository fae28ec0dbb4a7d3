-- What expressions do that a loop around them may forbid: the names and elements that they read, and what they hold.
-- Each name stands with the declaration that it stands for there; one that isn't known does nothing.
use Rattle.std.specs.Prelude.{ℤ, neg_ℤ, Bool, true, false, if◌then◌else◌, List, [], ◌∷◌, ◌++◌, unwrap_or, option_map, option_and_then, Option, Some, None}
use Rattle.dpl_syntax.specs.declared.place.Place.{Place}
use Rattle.dpl_language.specs.Tree.{Placed, Infix, Add, Subtract, Assign, ExprTree, Number, TruthWord, Named, LocalesWord, LocaleCount, HereWord, Grouped, DomainLiteral, Prefixed, Reduced, Chain, Postfixed, ItemTree, One, RangeItem, Stride, NoStride, By, Links, NoLinks, Link, Posts, NoPosts, Post, PostTree, Brackets, Rounds, Dotted, MethodTree, Contains, Expand, CellRead, Items, FirstItem, MoreItems, NoItems, NextItem, Exprs, FirstExpr, MoreExprs, NoExprs, NextExpr, StartTree, StartExpr, StartTuple, MapTree, BlockMap, CyclicMap, BlockCyclicMap, MappedTree}
use Rattle.dpl_language.specs.Names.{Text}
use Rattle.dpl_language.specs.Phrases.{Base, BaseName, base_of, bare_name, parts}
use Rattle.dpl_rules.specs.Types.{is_array, is_cell, has}
use Rattle.dpl_syntax.specs.declared.refusal.Code.TheVariants.{NotInForall}
use Rattle.dpl_syntax.specs.declared.refusal.Breach.{Breach}
use Rattle.dpl_rules.specs.Verdicts.{breach, where_given}
use Rattle.dpl_rules.specs.Sights.{Declared, Scopes, lookup}

-- An index of an element, as far as the text tells it: a name, a name and what a number adds to it, or anything else.
pub data IndexPart : Type 0 where
  AtName : Declared → IndexPart
  Shifted : Declared → ℤ → IndexPart
  Elsewhere : IndexPart

-- what a body may hold that a loop forbids
pub data Holding : Type 0 where
  APrint : Holding
  AForall : Holding
  ACoforall : Holding
  AReduction : Holding
  ACellCall : Holding
  AnOn : Holding
  AHere : Holding
  ADeclaration : Holding
  AReduceIntent : Holding

-- A name is read, or an element of an array; a name is assigned, or an element; or the text holds something.
pub data Deed : Type 0 where
  Reads : Place → Declared → Deed
  ReadsAt : Place → Declared → List IndexPart → Deed
  Writes : Place → Declared → Assign → Deed
  WritesAt : Place → Declared → List IndexPart → Assign → Deed
  Holds : Place → Holding → Deed

abbrev pub held : Place → Holding → List Deed
held at h = Holds at h ∷ []

abbrev pub held_if : Bool → Place → Holding → List Deed
held_if true at h = Holds at h ∷ []
held_if false at h = []

-- ---- indices. Brackets round an index change nothing; inside it they do.
abbrev pub literal_of : ExprTree Text → Option ℤ
literal_of (Number at n) = Some n
literal_of _ = None

-- what a number behind `+` or `-` adds
abbrev pub added_by : Infix → ℤ → Option ℤ
added_by Add n = Some n
added_by Subtract n = Some (neg_ℤ n)
added_by _ n = None

abbrev pub shifted_by : Option Declared → Option ℤ → IndexPart
shifted_by (Some d) (Some n) = Shifted d n
shifted_by _ _ = Elsewhere

abbrev pub at_name : Option Declared → IndexPart
at_name d = unwrap_or (option_map AtName d) Elsewhere

-- ---- a name before the first of what stands behind it
-- an array before indices reads an element, and before a method nothing
abbrev pub array_deeds : Place → Declared → Posts Text → (Items Text → List IndexPart) → (Exprs Text → List IndexPart) → List Deed
array_deeds at d NoPosts items_index exprs_index = Reads at d ∷ []
array_deeds at d (Post (Brackets from items upto) rest) items_index exprs_index = ReadsAt at d (items_index items) ∷ []
array_deeds at d (Post (Rounds from es upto) rest) items_index exprs_index = ReadsAt at d (exprs_index es) ∷ []
array_deeds at d (Post (Dotted dot m) rest) items_index exprs_index = []

-- a cell before a cell's method is called; by itself it does nothing
abbrev pub cell_deeds : Place → Posts Text → List Deed
cell_deeds at (Post (Dotted dot (CellRead word w from upto)) rest) = held at ACellCall
cell_deeds at _ = []

module _ (scopes : Scopes) where
  abbrev pub name_declared : Option (Placed Text) → Option Declared
  name_declared x = option_and_then {T = Placed Text} {U = Declared} (λ x. lookup scopes x.name) x

  abbrev mutual
    pub index_of : ExprTree Text → IndexPart
    index_of (Named x) = at_name (lookup scopes x.name)
    index_of (Grouped from item upto) = item_index item
    index_of (Chain e (Link at op f NoLinks)) = shifted_by (name_declared (bare_name e)) (option_and_then (added_by op) (literal_of f))
    index_of _ = Elsewhere

    pub item_index : ItemTree Text → IndexPart
    item_index (One e) = index_of e
    item_index (RangeItem low at dots high by) = Elsewhere

  abbrev pub more_items_index : MoreItems Text → List IndexPart
  more_items_index NoItems = []
  more_items_index (NextItem comma i more) = item_index i ∷ more_items_index more

  abbrev pub items_index : Items Text → List IndexPart
  items_index (FirstItem i more) = item_index i ∷ more_items_index more

  abbrev pub more_exprs_index : MoreExprs Text → List IndexPart
  more_exprs_index NoExprs = []
  more_exprs_index (NextExpr comma e more) = index_of e ∷ more_exprs_index more

  abbrev pub exprs_index : Exprs Text → List IndexPart
  exprs_index (FirstExpr e more) = index_of e ∷ more_exprs_index more

  -- a name by itself or before what stands behind it
  abbrev pub name_deeds : Place → Declared → Posts Text → List Deed
  name_deeds at d posts =
      if has is_array d.type then array_deeds at d posts items_index exprs_index
      else (if has is_cell d.type then cell_deeds at posts else Reads at d ∷ [])

  abbrev pub declared_deeds : Place → Posts Text → Option Declared → List Deed
  declared_deeds at posts d = where_given d (λ d. name_deeds at d posts)

  -- what stands before brackets and dots: a name, perhaps in brackets itself, or an expression that does what it does
  abbrev pub base_deeds : Base Text → Posts Text → List Deed → List Deed
  base_deeds (BaseName x) posts otherwise = declared_deeds x.at posts (lookup scopes x.name)
  base_deeds _ posts otherwise = otherwise

  -- what an expression does
  abbrev mutual
    pub expr_deeds : ExprTree Text → List Deed
    expr_deeds (Number at n) = []
    expr_deeds (TruthWord at b) = []
    expr_deeds (Named x) = declared_deeds x.at NoPosts (lookup scopes x.name)
    expr_deeds (LocalesWord at) = []
    expr_deeds (LocaleCount at) = []
    expr_deeds (HereWord at) = held at AHere
    expr_deeds (Grouped from item upto) = item_deeds item
    expr_deeds (DomainLiteral from items upto) = items_deeds items
    expr_deeds (Prefixed at op e) = expr_deeds e
    expr_deeds (Reduced at op word e) = held at AReduction ++ expr_deeds e
    expr_deeds (Chain e rest) = expr_deeds e ++ links_deeds rest
    expr_deeds (Postfixed e posts) = base_deeds (base_of e) posts (expr_deeds e) ++ posts_deeds posts

    pub item_deeds : ItemTree Text → List Deed
    item_deeds (One e) = expr_deeds e
    item_deeds (RangeItem low at dots high by) = expr_deeds low ++ expr_deeds high ++ stride_deeds by

    pub stride_deeds : Stride Text → List Deed
    stride_deeds NoStride = []
    stride_deeds (By at e) = expr_deeds e

    pub links_deeds : Links Text → List Deed
    links_deeds NoLinks = []
    links_deeds (Link at op e rest) = expr_deeds e ++ links_deeds rest

    pub posts_deeds : Posts Text → List Deed
    posts_deeds NoPosts = []
    posts_deeds (Post p rest) = post_deeds p ++ posts_deeds rest

    pub post_deeds : PostTree Text → List Deed
    post_deeds (Brackets from items upto) = items_deeds items
    post_deeds (Rounds from es upto) = exprs_deeds es
    post_deeds (Dotted dot m) = method_deeds m

    pub method_deeds : MethodTree Text → List Deed
    method_deeds (Contains at from es upto) = exprs_deeds es
    method_deeds (Expand at from e upto) = expr_deeds e
    method_deeds _ = []

    pub items_deeds : Items Text → List Deed
    items_deeds (FirstItem i more) = item_deeds i ++ more_items_deeds more

    pub more_items_deeds : MoreItems Text → List Deed
    more_items_deeds NoItems = []
    more_items_deeds (NextItem comma i more) = item_deeds i ++ more_items_deeds more

    pub exprs_deeds : Exprs Text → List Deed
    exprs_deeds (FirstExpr e more) = expr_deeds e ++ more_exprs_deeds more

    pub more_exprs_deeds : MoreExprs Text → List Deed
    more_exprs_deeds NoExprs = []
    more_exprs_deeds (NextExpr comma e more) = expr_deeds e ++ more_exprs_deeds more

  -- ---- maps: what their arguments do
  abbrev pub all_deeds : List (ExprTree Text) → List Deed
  all_deeds [] = []
  all_deeds (e ∷ es) = expr_deeds e ++ all_deeds es

  abbrev pub start_deeds : StartTree Text → List Deed
  start_deeds (StartExpr e) = expr_deeds e
  start_deeds (StartTuple from es upto) = all_deeds (parts es)

  abbrev pub map_deeds : MapTree Text → List Deed
  map_deeds (BlockMap m) = item_deeds m.box
  map_deeds (CyclicMap m) = start_deeds m.start
  map_deeds (BlockCyclicMap m) = start_deeds m.start ++ start_deeds m.size

  abbrev pub mapped_deeds : Option (MappedTree Text) → List Deed
  mapped_deeds mapped = where_given mapped (λ m. map_deeds m.map)

-- ---- what deeds break, one by one
abbrev pub each : (Deed → List Breach) → List Deed → List Breach
each f [] = []
each f (d ∷ ds) = f d ++ each f ds

-- C9: a reduction where none may stand, in a promoted expression or in a map's argument
abbrev pub inner_reduction : Deed → List Breach
inner_reduction (Holds at AReduction) = breach at NotInForall
inner_reduction _ = []

abbrev pub inner_reductions : List Deed → List Breach
inner_reductions ds = each inner_reduction ds
