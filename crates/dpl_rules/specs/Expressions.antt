-- The types of expressions, and where they break the rules on names, types and ranks.
-- A part's breaches are its own and those of its parts; each form's own come from the one verdict of its rule, and a chain's from C9 as well.
use Rattle.std.specs.Prelude.{Bool, true, false, ◌||◌, if◌then◌else◌, List, [], ◌∷◌, ◌++◌, is_some, option_map, option_and_then, Option, Some, None}
use Rattle.std.specs.Option.{option_or}
use Rattle.dpl_syntax.specs.declared.place.Place.{Place}
use Rattle.dpl_language.specs.Tree.{Kind, Infix, ExprTree, Number, TruthWord, Named, LocalesWord, LocaleCount, HereWord, Grouped, DomainLiteral, Prefixed, Reduced, Chain, Postfixed, ItemTree, One, RangeItem, Stride, NoStride, By, Links, NoLinks, Link, Posts, NoPosts, Post, PostTree, Brackets, Rounds, Dotted, MethodTree, Plainly, Dim, Contains, Expand, CellRead, Items, FirstItem, MoreItems, NoItems, NextItem, Exprs, FirstExpr, MoreExprs, NoExprs, NextExpr}
use Rattle.dpl_language.specs.Names.{Text}
use Rattle.dpl_language.specs.Phrases.{ReadTree, item_read}
use Rattle.dpl_rules.specs.Types.{ValueType, Scalar, Locale, AllLocales, an_int, a_bool, domain_of, cell_of, is_cell, is_promoted, has}
use Rattle.dpl_syntax.specs.declared.refusal.Code.TheVariants.{UnknownName, WrongType, CellMisused}
use Rattle.dpl_syntax.specs.declared.refusal.Breach.{Breach}
use Rattle.dpl_rules.specs.Verdicts.{Part, part, Verdict, Has, Breaks, type_by, broken_by, breach, mistyped, with_type}
use Rattle.dpl_rules.specs.Places.{first_of, first_of_item, last_of, last_of_post}
use Rattle.dpl_rules.specs.Sights.{Declared, Scopes, lookup, type_declared}
use Rattle.dpl_rules.specs.Deeds.{Deed, expr_deeds, inner_reductions}
use Rattle.dpl_rules.specs.Operators.{prefix_verdict, reduction_verdict, infix_verdict, range_verdict, ranges_verdict, square_verdict, round_verdict, index_rank, word_verdict, dim_verdict, contains_verdict, expand_verdict}

-- ---- names: known ones alone (C1), and no cell as a plain variable (C12)
abbrev pub plain_name : Place → ValueType → Verdict
plain_name at t = if is_cell t then Breaks (breach at CellMisused) else Has t

abbrev pub name_verdict : Place → Option Declared → Verdict
name_verdict at None = Breaks (breach at UnknownName)
name_verdict at (Some d) = with_type d.type (plain_name at)

-- ---- the bare word `Locales`, which is no expression: it stands before brackets, and as what a loop runs over
module _ {N : Type 0} where
  abbrev pub bare_locales : ExprTree N → Option Place
  bare_locales (LocalesWord at) = Some at
  bare_locales _ = None

abbrev pub locales_or : Option Place → Option ValueType → Option ValueType
locales_or at t = if is_some at then Some AllLocales else t

abbrev pub none_where : {A : Type 0} → Option A → List Breach → List Breach
none_where x bs = if is_some x then [] else bs

-- what a name's cell holds, where it is a cell; a read of it has that type, and breaks nothing
abbrev pub cell_declared : Option ValueType → Option Kind
cell_declared t = option_and_then cell_of t

abbrev pub read_or_type : Option Kind → Option ValueType → Option ValueType
read_or_type k t = option_or (option_map Scalar k) t

-- ---- types
module _ (scopes : Scopes) where
  abbrev mutual
    pub type_of : ExprTree Text → Option ValueType
    type_of (Number at n) = Some an_int
    type_of (TruthWord at b) = Some a_bool
    type_of (Named x) = type_by (name_verdict x.at (lookup scopes x.name))
    type_of (LocalesWord at) = None
    type_of (LocaleCount at) = Some an_int
    type_of (HereWord at) = Some Locale
    type_of (Grouped from item upto) = item_type item
    type_of (DomainLiteral from items upto) = type_by (ranges_verdict from (item_parts items))
    type_of (Prefixed at op e) = type_by (prefix_verdict at op (type_of e))
    type_of (Reduced at op word e) = type_by (reduction_verdict at op (type_of e))
    type_of (Chain e rest) = chain_type (type_of e) rest
    type_of (Postfixed e posts) = posts_type (last_of e) (locales_or (bare_locales e) (type_of e)) posts

    pub item_type : ItemTree Text → Option ValueType
    item_type (One e) = type_of e
    item_type (RangeItem low at dots high by) = type_by (range_item_verdict (part (first_of low) (type_of low)) (part (first_of high) (type_of high)) by)

    -- the ends of a range, or its low end and its count, and its stride
    pub range_item_verdict : Part → Part → Stride Text → Verdict
    range_item_verdict low high NoStride = range_verdict (low ∷ high ∷ []) false
    range_item_verdict low high (By at e) = range_verdict (low ∷ high ∷ part (first_of e) (type_of e) ∷ []) true

    -- of a chain, the type of its operands so far
    pub chain_type : Option ValueType → Links Text → Option ValueType
    chain_type t NoLinks = t
    chain_type t (Link at op e rest) = chain_type (type_by (infix_verdict at op t (type_of e))) rest

    pub posts_type : Place → Option ValueType → Posts Text → Option ValueType
    posts_type last t NoPosts = t
    posts_type last t (Post p rest) = posts_type (last_of_post p) (type_by (post_verdict last p t)) rest

    pub post_verdict : Place → PostTree Text → Option ValueType → Verdict
    post_verdict last (Brackets from items upto) t = with_type t (square_verdict last from (item_parts items))
    post_verdict last (Rounds from es upto) t = with_type t (round_verdict last from (expr_parts es))
    post_verdict last (Dotted dot m) t = with_type t (method_verdict m)

    -- a cell read is no method of a value
    pub method_verdict : MethodTree Text → ValueType → Verdict
    method_verdict (Plainly at w) t = word_verdict at w t
    method_verdict (Dim at from rank_at d upto) t = dim_verdict at rank_at d (domain_of t)
    method_verdict (Contains at from es upto) t = contains_verdict at (expr_parts es) (index_rank t)
    method_verdict (Expand at from e upto) t = expand_verdict at (part (first_of e) (type_of e)) (domain_of t)
    method_verdict (CellRead at w from upto) t = mistyped at

    pub item_parts : Items Text → List Part
    item_parts (FirstItem i more) = part (first_of_item i) (item_type i) ∷ more_item_parts more

    pub more_item_parts : MoreItems Text → List Part
    more_item_parts NoItems = []
    more_item_parts (NextItem comma i more) = part (first_of_item i) (item_type i) ∷ more_item_parts more

    pub expr_parts : Exprs Text → List Part
    expr_parts (FirstExpr e more) = part (first_of e) (type_of e) ∷ more_expr_parts more

    pub more_expr_parts : MoreExprs Text → List Part
    more_expr_parts NoExprs = []
    more_expr_parts (NextExpr comma e more) = part (first_of e) (type_of e) ∷ more_expr_parts more

  -- ---- promoted expressions. A chain is read in pairs: what stands before the next operand is one operand with it, and behind a refused
  -- pair none has a type. An operand stands in its own pair and in those behind it.
  abbrev pub pair_type : Option ValueType → Place → Infix → ExprTree Text → Option ValueType
  pair_type t at op e = chain_type t (Link at op e NoLinks)

  -- whether a pair from here on is promoted, where what stands before has this type
  abbrev pub has_promoted_pair : Option ValueType → Links Text → Bool
  has_promoted_pair t NoLinks = false
  has_promoted_pair t (Link at op e rest) = has is_promoted (pair_type t at op e) || has_promoted_pair (pair_type t at op e) rest

  -- what an operand does, if it stands in a promoted pair; the further operands that do; and all of a chain
  abbrev pub inner_deeds : Bool → ExprTree Text → List Deed
  inner_deeds inner e = if inner then expr_deeds scopes e else []

  abbrev pub inner_links : Option ValueType → Links Text → List Deed
  inner_links t NoLinks = []
  inner_links t (Link at op e rest) = inner_deeds (has_promoted_pair t (Link at op e rest)) e ++ inner_links (pair_type t at op e) rest

  abbrev pub inner_chain : ExprTree Text → Links Text → List Deed
  inner_chain e rest = inner_deeds (has_promoted_pair (type_of e) rest) e ++ inner_links (type_of e) rest

  -- ---- breaches
  abbrev mutual
    pub expr_breaches : ExprTree Text → List Breach
    expr_breaches (Number at n) = []
    expr_breaches (TruthWord at b) = []
    expr_breaches (Named x) = broken_by (name_verdict x.at (lookup scopes x.name))
    expr_breaches (LocalesWord at) = breach at WrongType
    expr_breaches (LocaleCount at) = []
    expr_breaches (HereWord at) = []
    expr_breaches (Grouped from item upto) = item_breaches item
    expr_breaches (DomainLiteral from items upto) = items_breaches items ++ broken_by (ranges_verdict from (item_parts items))
    expr_breaches (Prefixed at op e) = expr_breaches e ++ broken_by (prefix_verdict at op (type_of e))
    expr_breaches (Reduced at op word e) = expr_breaches e ++ broken_by (reduction_verdict at op (type_of e))
    expr_breaches (Chain e rest) = expr_breaches e ++ chain_breaches (type_of e) rest ++ inner_reductions (inner_chain e rest)
    expr_breaches (Postfixed e posts) =
        none_where (bare_locales e) (expr_breaches e) ++ posts_breaches (last_of e) (locales_or (bare_locales e) (type_of e)) posts

    pub item_breaches : ItemTree Text → List Breach
    item_breaches (One e) = expr_breaches e
    item_breaches (RangeItem low at dots high by) =
        expr_breaches low ++ expr_breaches high ++ stride_breaches by
        ++ broken_by (range_item_verdict (part (first_of low) (type_of low)) (part (first_of high) (type_of high)) by)

    pub stride_breaches : Stride Text → List Breach
    stride_breaches NoStride = []
    stride_breaches (By at e) = expr_breaches e

    pub chain_breaches : Option ValueType → Links Text → List Breach
    chain_breaches t NoLinks = []
    chain_breaches t (Link at op e rest) =
        expr_breaches e ++ broken_by (infix_verdict at op t (type_of e)) ++ chain_breaches (type_by (infix_verdict at op t (type_of e))) rest

    pub posts_breaches : Place → Option ValueType → Posts Text → List Breach
    posts_breaches last t NoPosts = []
    posts_breaches last t (Post p rest) =
        post_breaches p ++ broken_by (post_verdict last p t) ++ posts_breaches (last_of_post p) (type_by (post_verdict last p t)) rest

    pub post_breaches : PostTree Text → List Breach
    post_breaches (Brackets from items upto) = items_breaches items
    post_breaches (Rounds from es upto) = exprs_breaches es
    post_breaches (Dotted dot m) = method_breaches m

    pub method_breaches : MethodTree Text → List Breach
    method_breaches (Contains at from es upto) = exprs_breaches es
    method_breaches (Expand at from e upto) = expr_breaches e
    method_breaches _ = []

    pub items_breaches : Items Text → List Breach
    items_breaches (FirstItem i more) = item_breaches i ++ more_items_breaches more

    pub more_items_breaches : MoreItems Text → List Breach
    more_items_breaches NoItems = []
    more_items_breaches (NextItem comma i more) = item_breaches i ++ more_items_breaches more

    pub exprs_breaches : Exprs Text → List Breach
    exprs_breaches (FirstExpr e more) = expr_breaches e ++ more_exprs_breaches more

    pub more_exprs_breaches : MoreExprs Text → List Breach
    more_exprs_breaches NoExprs = []
    more_exprs_breaches (NextExpr comma e more) = expr_breaches e ++ more_exprs_breaches more

  -- ---- right sides, which may be a cell read as a whole; it gives what the cell holds
  abbrev pub kind_read : Option (ReadTree Text) → Option Kind
  kind_read r =
      option_and_then {T = ReadTree Text} {U = Kind} (λ r. cell_declared (type_declared (lookup scopes r.name.name))) r

  abbrev pub side_part : ItemTree Text → Part
  side_part item = record { at = first_of_item item; type = read_or_type (kind_read (item_read item)) (item_type item) }

  abbrev pub side_breaches : ItemTree Text → List Breach
  side_breaches item = none_where (kind_read (item_read item)) (item_breaches item)
