-- What reductions stand in an expression doesn't hang on what its names stand for: in any two sights it does the same ones.
-- A name does nothing that is a reduction.
use Rattle.std.proofs.Common.{◌≡◌, ◌++◌, Bool, true, false, List, [], ◌∷◌, Option, Some, None, refl, sym, ap, ◌∙◌, append_assoc}
use Rattle.std.specs.Prelude.{if◌then◌else◌}
use Rattle.dpl_syntax.specs.declared.place.Place.{Place}
use Rattle.dpl_language.specs.Names.{Text}
use Rattle.dpl_language.specs.Phrases.{Base, BaseName, BaseLocales, OtherBase, base_of}
use Rattle.dpl_language.specs.Tree.{ExprTree, Named, Grouped, DomainLiteral, Prefixed, Reduced, Chain, Postfixed, ItemTree, One, RangeItem, Stride, NoStride, By, Links, NoLinks, Link, Posts, NoPosts, Post, PostTree, Brackets, Rounds, Dotted, MethodTree, Plainly, Dim, Contains, Expand, CellRead, Items, FirstItem, MoreItems, NoItems, NextItem, Exprs, FirstExpr, MoreExprs, NoExprs, NextExpr}
use Rattle.dpl_rules.specs.Types.{is_array, is_cell, has}
use Rattle.dpl_rules.specs.Sights.{Declared, Scopes, lookup}
use Rattle.dpl_rules.specs.Deeds.{Deed, Reads, AReduction, held, array_deeds, cell_deeds, items_index, exprs_index, name_deeds, declared_deeds, base_deeds, inner_reduction, inner_reductions}
use Rattle.dpl_rules.specs.Deeds.{expr_deeds, item_deeds, stride_deeds, links_deeds, posts_deeds, post_deeds, method_deeds, items_deeds, more_items_deeds, exprs_deeds, more_exprs_deeds}

-- ---- two lists one behind the other
reductions-both : (ds es : List Deed) → inner_reductions (ds ++ es) ≡ inner_reductions ds ++ inner_reductions es
reductions-both [] es = refl
reductions-both (d ∷ ds) es =
    ap (λ bs. inner_reduction d ++ bs) (reductions-both ds es) ∙ sym (append_assoc (inner_reduction d) (inner_reductions ds) (inner_reductions es))

abbrev pub AreAlike : List Deed → List Deed → Type 0
AreAlike ds es = inner_reductions ds ≡ inner_reductions es

pub both-alike : (ds es fs gs : List Deed) → AreAlike ds es → AreAlike fs gs → AreAlike (ds ++ fs) (es ++ gs)
both-alike ds es fs gs h g =
    reductions-both ds fs ∙ ap (λ bs. bs ++ inner_reductions fs) h ∙ ap (λ bs. inner_reductions es ++ bs) g ∙ sym (reductions-both es gs)

-- ---- names
if-none : (b : Bool) (ds es : List Deed) → AreAlike ds [] → AreAlike es [] → AreAlike (if b then ds else es) []
if-none true ds es h g = h
if-none false ds es h g = g

array-none : (ss : Scopes) (at : Place) (d : Declared) (posts : Posts Text) → AreAlike (array_deeds at d posts (items_index ss) (exprs_index ss)) []
array-none ss at d NoPosts = refl
array-none ss at d (Post (Brackets from items upto) rest) = refl
array-none ss at d (Post (Rounds from es upto) rest) = refl
array-none ss at d (Post (Dotted dot m) rest) = refl

cell-none : (at : Place) (posts : Posts Text) → AreAlike (cell_deeds at posts) []
cell-none at NoPosts = refl
cell-none at (Post (Brackets from items upto) rest) = refl
cell-none at (Post (Rounds from es upto) rest) = refl
cell-none at (Post (Dotted dot (Plainly word w)) rest) = refl
cell-none at (Post (Dotted dot (Dim word from rank_at d upto)) rest) = refl
cell-none at (Post (Dotted dot (Contains word from es upto)) rest) = refl
cell-none at (Post (Dotted dot (Expand word from e upto)) rest) = refl
cell-none at (Post (Dotted dot (CellRead word w from upto)) rest) = refl

name-none : (ss : Scopes) (at : Place) (d : Declared) (posts : Posts Text) → AreAlike (name_deeds ss at d posts) []
name-none ss at d posts =
    if-none (has is_array d.type) (array_deeds at d posts (items_index ss) (exprs_index ss)) (if has is_cell d.type then cell_deeds at posts else Reads at d ∷ []) (array-none ss at d posts)
    (if-none (has is_cell d.type) (cell_deeds at posts) (Reads at d ∷ []) (cell-none at posts) refl)

declared-none : (ss : Scopes) (at : Place) (posts : Posts Text) (o : Option Declared) → AreAlike (declared_deeds ss at posts o) []
declared-none ss at posts None = refl
declared-none ss at posts (Some d) = name-none ss at d posts

-- ---- expressions
module _ (us ss : Scopes) where
  declared-alike : (at : Place) (posts : Posts Text) (o p : Option Declared) → AreAlike (declared_deeds us at posts o) (declared_deeds ss at posts p)
  declared-alike at posts o p = declared-none us at posts o ∙ sym (declared-none ss at posts p)

  base-alike : (b : Base Text) (posts : Posts Text) (ds es : List Deed) → AreAlike ds es → AreAlike (base_deeds us b posts ds) (base_deeds ss b posts es)
  base-alike (BaseName x) posts ds es h = declared-alike x.at posts (lookup us x.name) (lookup ss x.name)
  base-alike (BaseLocales at) posts ds es h = h
  base-alike OtherBase posts ds es h = h

  mutual
    pub expr-alike : (e : ExprTree Text) → AreAlike (expr_deeds us e) (expr_deeds ss e)
    expr-alike (Named x) = declared-alike x.at NoPosts (lookup us x.name) (lookup ss x.name)
    expr-alike (Grouped from item upto) = item-alike item
    expr-alike (DomainLiteral from items upto) = items-alike items
    expr-alike (Prefixed at op e) = expr-alike e
    expr-alike (Reduced at op word e) = both-alike (held at AReduction) (held at AReduction) (expr_deeds us e) (expr_deeds ss e) refl (expr-alike e)
    expr-alike (Chain e rest) = both-alike (expr_deeds us e) (expr_deeds ss e) (links_deeds us rest) (links_deeds ss rest) (expr-alike e) (links-alike rest)
    expr-alike (Postfixed e posts) =
        both-alike (base_deeds us (base_of e) posts (expr_deeds us e)) (base_deeds ss (base_of e) posts (expr_deeds ss e)) (posts_deeds us posts) (posts_deeds ss posts)
        (base-alike (base_of e) posts (expr_deeds us e) (expr_deeds ss e) (expr-alike e)) (posts-alike posts)
    expr-alike _ = refl

    item-alike : (i : ItemTree Text) → AreAlike (item_deeds us i) (item_deeds ss i)
    item-alike (One e) = expr-alike e
    item-alike (RangeItem low at dots high by) =
        both-alike (expr_deeds us low ++ expr_deeds us high) (expr_deeds ss low ++ expr_deeds ss high) (stride_deeds us by) (stride_deeds ss by)
        (both-alike (expr_deeds us low) (expr_deeds ss low) (expr_deeds us high) (expr_deeds ss high) (expr-alike low) (expr-alike high)) (stride-alike by)

    stride-alike : (by : Stride Text) → AreAlike (stride_deeds us by) (stride_deeds ss by)
    stride-alike NoStride = refl
    stride-alike (By at e) = expr-alike e

    links-alike : (rest : Links Text) → AreAlike (links_deeds us rest) (links_deeds ss rest)
    links-alike NoLinks = refl
    links-alike (Link at op e rest) = both-alike (expr_deeds us e) (expr_deeds ss e) (links_deeds us rest) (links_deeds ss rest) (expr-alike e) (links-alike rest)

    posts-alike : (posts : Posts Text) → AreAlike (posts_deeds us posts) (posts_deeds ss posts)
    posts-alike NoPosts = refl
    posts-alike (Post p rest) = both-alike (post_deeds us p) (post_deeds ss p) (posts_deeds us rest) (posts_deeds ss rest) (post-alike p) (posts-alike rest)

    post-alike : (p : PostTree Text) → AreAlike (post_deeds us p) (post_deeds ss p)
    post-alike (Brackets from items upto) = items-alike items
    post-alike (Rounds from es upto) = exprs-alike es
    post-alike (Dotted dot m) = method-alike m

    method-alike : (m : MethodTree Text) → AreAlike (method_deeds us m) (method_deeds ss m)
    method-alike (Plainly at w) = refl
    method-alike (Dim at from rank_at d upto) = refl
    method-alike (Contains at from es upto) = exprs-alike es
    method-alike (Expand at from e upto) = expr-alike e
    method-alike (CellRead at w from upto) = refl

    items-alike : (is : Items Text) → AreAlike (items_deeds us is) (items_deeds ss is)
    items-alike (FirstItem i more) = both-alike (item_deeds us i) (item_deeds ss i) (more_items_deeds us more) (more_items_deeds ss more) (item-alike i) (more_items-alike more)

    more_items-alike : (is : MoreItems Text) → AreAlike (more_items_deeds us is) (more_items_deeds ss is)
    more_items-alike NoItems = refl
    more_items-alike (NextItem comma i more) =
        both-alike (item_deeds us i) (item_deeds ss i) (more_items_deeds us more) (more_items_deeds ss more) (item-alike i) (more_items-alike more)

    exprs-alike : (es : Exprs Text) → AreAlike (exprs_deeds us es) (exprs_deeds ss es)
    exprs-alike (FirstExpr e more) = both-alike (expr_deeds us e) (expr_deeds ss e) (more_exprs_deeds us more) (more_exprs_deeds ss more) (expr-alike e) (more_exprs-alike more)

    more_exprs-alike : (es : MoreExprs Text) → AreAlike (more_exprs_deeds us es) (more_exprs_deeds ss es)
    more_exprs-alike NoExprs = refl
    more_exprs-alike (NextExpr comma e more) =
        both-alike (expr_deeds us e) (expr_deeds ss e) (more_exprs_deeds us more) (more_exprs_deeds ss more) (expr-alike e) (more_exprs-alike more)
