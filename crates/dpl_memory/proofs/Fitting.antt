-- An expression fits where each of its names has the leaf of its innermost declaration.
-- So it fits evaluated once and at an index, and as the right side of an assignment.
use Rattle.std.proofs.Common.{Option, Some, None}
use Rattle.dpl_language.specs.Tree.{ExprTree, Number, TruthWord, Named, LocalesWord, LocaleCount, HereWord, Grouped, DomainLiteral, Prefixed, Reduced, Chain, Postfixed, ItemTree, One, RangeItem, Stride, NoStride, By, Links, NoLinks, Link, Posts, NoPosts, Post, PostTree, Brackets, Rounds, Dotted, MethodTree, Plainly, Dim, Contains, Expand, CellRead, Items, FirstItem, MoreItems, NoItems, NextItem, Exprs, FirstExpr, MoreExprs, NoExprs, NextExpr}
use Rattle.dpl_language.specs.Values.{Index}
use Rattle.dpl_language.specs.Phrases.{Base, BaseName, BaseLocales, OtherBase, base_of, item_base}
use Rattle.dpl_agreement.specs.Scopes.{items_in, fits_name, fits_element, fits_expr, fits_item, fits_stride, fits_links, fits_posts, fits_post, fits_method, fits_items, fits_more_items, fits_exprs, fits_more_exprs}
use Rattle.dpl_memory.specs.Resolved.{Bound, Seen, Resolves, Start, resolving}

-- something is true of each name of an expression
module _ {N : Type 0} (P : N → Type 0) where
  abbrev mutual
    pub NamesAre : ExprTree N → Type 0
    NamesAre (Number at n) = Unit {0}
    NamesAre (TruthWord at b) = Unit {0}
    NamesAre (Named x) = P x.name
    NamesAre (LocalesWord at) = Unit {0}
    NamesAre (LocaleCount at) = Unit {0}
    NamesAre (HereWord at) = Unit {0}
    NamesAre (Grouped from item upto) = ItemNamesAre item
    NamesAre (DomainLiteral from items upto) = ItemsNamesAre items
    NamesAre (Prefixed at op e) = NamesAre e
    NamesAre (Reduced at op word e) = NamesAre e
    NamesAre (Chain e rest) = NamesAre e × LinksNamesAre rest
    NamesAre (Postfixed e posts) = NamesAre e × PostsNamesAre posts

    pub ItemNamesAre : ItemTree N → Type 0
    ItemNamesAre (One e) = NamesAre e
    ItemNamesAre (RangeItem low at dots high by) = NamesAre low × NamesAre high × StrideNamesAre by

    pub StrideNamesAre : Stride N → Type 0
    StrideNamesAre NoStride = Unit {0}
    StrideNamesAre (By at e) = NamesAre e

    pub LinksNamesAre : Links N → Type 0
    LinksNamesAre NoLinks = Unit {0}
    LinksNamesAre (Link at op e rest) = NamesAre e × LinksNamesAre rest

    pub PostsNamesAre : Posts N → Type 0
    PostsNamesAre NoPosts = Unit {0}
    PostsNamesAre (Post p rest) = PostNamesAre p × PostsNamesAre rest

    pub PostNamesAre : PostTree N → Type 0
    PostNamesAre (Brackets from items upto) = ItemsNamesAre items
    PostNamesAre (Rounds from es upto) = ExprsNamesAre es
    PostNamesAre (Dotted dot m) = MethodNamesAre m

    pub MethodNamesAre : MethodTree N → Type 0
    MethodNamesAre (Plainly at w) = Unit {0}
    MethodNamesAre (Dim at from rank_at d upto) = Unit {0}
    MethodNamesAre (Contains at from es upto) = ExprsNamesAre es
    MethodNamesAre (Expand at from e upto) = NamesAre e
    MethodNamesAre (CellRead at w from upto) = Unit {0}

    pub ItemsNamesAre : Items N → Type 0
    ItemsNamesAre (FirstItem i more) = ItemNamesAre i × MoreItemsNamesAre more

    pub MoreItemsNamesAre : MoreItems N → Type 0
    MoreItemsNamesAre NoItems = Unit {0}
    MoreItemsNamesAre (NextItem comma i more) = ItemNamesAre i × MoreItemsNamesAre more

    pub ExprsNamesAre : Exprs N → Type 0
    ExprsNamesAre (FirstExpr e more) = NamesAre e × MoreExprsNamesAre more

    pub MoreExprsNamesAre : MoreExprs N → Type 0
    MoreExprsNamesAre NoExprs = Unit {0}
    MoreExprsNamesAre (NextExpr comma e more) = NamesAre e × MoreExprsNamesAre more

module _ (start : Start) (g : Seen) where
  abbrev Is : Bound → Type 0
  Is x = Resolves x g

  -- a base that is a name
  abbrev BaseIs : Base Bound → Type 0
  BaseIs (BaseName x) = Resolves x.name g
  BaseIs (BaseLocales at) = Unit {0}
  BaseIs OtherBase = Unit {0}

  mutual
    base_is : (e : ExprTree Bound) → NamesAre Is e → BaseIs (base_of e)
    base_is (Named x) h = h
    base_is (Grouped from item upto) h = item_base_is item h
    base_is _ h = tt

    item_base_is : (i : ItemTree Bound) → ItemNamesAre Is i → BaseIs (item_base i)
    item_base_is (One e) h = base_is e h
    item_base_is (RangeItem low at dots high by) h = tt

  name_fits : (t : Option Index) (x : Bound) → Resolves x g → fits_name (resolving start) t x g
  name_fits None x h = h
  name_fits (Some t) x h = (h, h)

  element_fits : (b : Base Bound) (items : Items Bound) → BaseIs b → fits_element (resolving start) b items g
  element_fits (BaseName x) items h = h
  element_fits (BaseLocales at) items h = tt
  element_fits OtherBase items h = tt

  mutual
    pub expr_fits : (t : Option Index) (e : ExprTree Bound) → NamesAre Is e → fits_expr (resolving start) t e g
    expr_fits t (Named x) h = name_fits t x.name h
    expr_fits t (Grouped from item upto) h = item_fits t item h
    expr_fits t (DomainLiteral from items upto) h = items_fit items h
    expr_fits t (Prefixed at op e) h = expr_fits t e h
    expr_fits t (Reduced at op word e) h = λ i. expr_fits (Some i) e h
    expr_fits t (Chain e rest) h = (expr_fits t e h.0, links_fit t rest h.1)
    expr_fits t (Postfixed e posts) h = (expr_fits None e h.0, posts_fit posts (base_of e) (base_is e h.0) h.1)
    expr_fits t _ h = tt

    pub item_fits : (t : Option Index) (i : ItemTree Bound) → ItemNamesAre Is i → fits_item (resolving start) t i g
    item_fits t (One e) h = expr_fits t e h
    item_fits t (RangeItem low at dots high by) h = (expr_fits None low h.0, expr_fits None high h.1, stride_fits by h.2)

    stride_fits : (by : Stride Bound) → StrideNamesAre Is by → fits_stride (resolving start) by g
    stride_fits NoStride h = tt
    stride_fits (By at e) h = expr_fits None e h

    links_fit : (t : Option Index) (l : Links Bound) → LinksNamesAre Is l → fits_links (resolving start) t l g
    links_fit t NoLinks h = tt
    links_fit t (Link at op e rest) h = (expr_fits t e h.0, links_fit t rest h.1)

    posts_fit : (ps : Posts Bound) (b : Base Bound) → BaseIs b → PostsNamesAre Is ps → fits_posts (resolving start) ps b g
    posts_fit NoPosts b k h = tt
    posts_fit (Post p rest) b k h = (post_fits p b k h.0, posts_fit rest OtherBase tt h.1)

    post_fits : (p : PostTree Bound) (b : Base Bound) → BaseIs b → PostNamesAre Is p → fits_post (resolving start) p b g
    post_fits (Brackets from items upto) b k h = (items_fit items h, element_fits b items k)
    post_fits (Rounds from es upto) b k h = (exprs_fit es h, element_fits b (items_in es) k)
    post_fits (Dotted dot m) b k h = method_fits m h

    method_fits : (m : MethodTree Bound) → MethodNamesAre Is m → fits_method (resolving start) m g
    method_fits (Plainly at w) h = tt
    method_fits (Dim at from rank_at d upto) h = tt
    method_fits (Contains at from es upto) h = exprs_fit es h
    method_fits (Expand at from e upto) h = expr_fits None e h
    method_fits (CellRead at w from upto) h = tt

    items_fit : (is : Items Bound) → ItemsNamesAre Is is → fits_items (resolving start) is g
    items_fit (FirstItem i more) h = (item_fits None i h.0, more_items_fit more h.1)

    more_items_fit : (is : MoreItems Bound) → MoreItemsNamesAre Is is → fits_more_items (resolving start) is g
    more_items_fit NoItems h = tt
    more_items_fit (NextItem comma i more) h = (item_fits None i h.0, more_items_fit more h.1)

    exprs_fit : (es : Exprs Bound) → ExprsNamesAre Is es → fits_exprs (resolving start) es g
    exprs_fit (FirstExpr e more) h = (expr_fits None e h.0, more_exprs_fit more h.1)

    more_exprs_fit : (es : MoreExprs Bound) → MoreExprsNamesAre Is es → fits_more_exprs (resolving start) es g
    more_exprs_fit NoExprs h = tt
    more_exprs_fit (NextExpr comma e more) h = (expr_fits None e h.0, more_exprs_fit more h.1)
