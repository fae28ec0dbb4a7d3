-- Simple expressions are formed: a chain has an operator, and something stands behind each base.
-- So what the check gives them a type for evaluates to a fault or to a value of that type.
use Rattle.std.proofs.Common.{◌≡◌, true, false}
use Rattle.dpl_language.specs.Tree.{ExprTree, Number, TruthWord, Named, LocalesWord, LocaleCount, HereWord, Grouped, DomainLiteral, Prefixed, Reduced, Chain, Postfixed, ItemTree, One, RangeItem, Stride, NoStride, By, Links, NoLinks, Link, Posts, NoPosts, Post, PostTree, Brackets, Rounds, Dotted, MethodTree, Plainly, Dim, Contains, Expand, CellRead, Items, FirstItem, MoreItems, NoItems, NextItem, Exprs, FirstExpr, MoreExprs, NoExprs, NextExpr}
use Rattle.dpl_sound.specs.Formed.{HasLinks, ExprFormed, ItemFormed, StrideFormed, LinksFormed, PostsFormed, PostFormed, MethodFormed, ItemsFormed, MoreItemsFormed, ExprsFormed, MoreExprsFormed}
use Rattle.dpl_lowered.specs.Shapes.{nests}
use Rattle.dpl_typed.specs.Simple.{IsSimple, IsSimpleItem, IsSimpleStride, AreSimpleLinks, AreSimplePosts, IsSimplePost, IsSimpleMethod, AreSimpleItems, AreSimpleMoreItems, AreSimpleExprs, AreSimpleMoreExprs}

module _ {N : Type 0} (Holds : N → Type 0) where
  nests-links : (rest : Links N) → nests rest ≡ true → HasLinks rest
  nests-links NoLinks e = absurd (let f : false ≡ true = e in cc)
  nests-links (Link at op e rest) n = tt

  mutual
    pub expr-formed : (e : ExprTree N) → IsSimple Holds e → ExprFormed e
    expr-formed (Number at n) h = tt
    expr-formed (TruthWord at b) h = tt
    expr-formed (Named x) h = tt
    expr-formed (LocalesWord at) h = absurd h
    expr-formed (LocaleCount at) h = absurd h
    expr-formed (HereWord at) h = absurd h
    expr-formed (Grouped from item upto) h = item-formed item h
    expr-formed (DomainLiteral from items upto) h = items-formed items h
    expr-formed (Prefixed at op e) h = expr-formed e h
    expr-formed (Reduced at op word e) h = expr-formed e h
    expr-formed (Chain e rest) h = (nests-links rest h.2, expr-formed e h.0, links-formed rest h.1)
    expr-formed (Postfixed e posts) h = (h.2, expr-formed e h.0, posts-formed posts h.1)

    pub item-formed : (i : ItemTree N) → IsSimpleItem Holds i → ItemFormed i
    item-formed (One e) h = expr-formed e h
    item-formed (RangeItem low at dots high by) h = (expr-formed low h.0, expr-formed high h.1, stride-formed by h.2)

    stride-formed : (by : Stride N) → IsSimpleStride Holds by → StrideFormed by
    stride-formed NoStride h = tt
    stride-formed (By at e) h = expr-formed e h

    links-formed : (rest : Links N) → AreSimpleLinks Holds rest → LinksFormed rest
    links-formed NoLinks h = tt
    links-formed (Link at op e rest) h = (expr-formed e h.0, links-formed rest h.1)

    posts-formed : (ps : Posts N) → AreSimplePosts Holds ps → PostsFormed ps
    posts-formed NoPosts h = tt
    posts-formed (Post p rest) h = (post-formed p h.0, posts-formed rest h.1)

    post-formed : (p : PostTree N) → IsSimplePost Holds p → PostFormed p
    post-formed (Brackets from items upto) h = items-formed items h
    post-formed (Rounds from es upto) h = exprs-formed es h
    post-formed (Dotted dot m) h = method-formed m h

    method-formed : (m : MethodTree N) → IsSimpleMethod Holds m → MethodFormed m
    method-formed (Plainly at w) h = tt
    method-formed (Dim at from rank_at d upto) h = tt
    method-formed (Contains at from es upto) h = exprs-formed es h
    method-formed (Expand at from e upto) h = expr-formed e h
    method-formed (CellRead at w from upto) h = absurd h

    pub items-formed : (is : Items N) → AreSimpleItems Holds is → ItemsFormed is
    items-formed (FirstItem i more) h = (item-formed i h.0, more-items-formed more h.1)

    more-items-formed : (is : MoreItems N) → AreSimpleMoreItems Holds is → MoreItemsFormed is
    more-items-formed NoItems h = tt
    more-items-formed (NextItem comma i more) h = (item-formed i h.0, more-items-formed more h.1)

    exprs-formed : (es : Exprs N) → AreSimpleExprs Holds es → ExprsFormed es
    exprs-formed (FirstExpr e more) h = (expr-formed e h.0, more-exprs-formed more h.1)

    more-exprs-formed : (es : MoreExprs N) → AreSimpleMoreExprs Holds es → MoreExprsFormed es
    more-exprs-formed NoExprs h = tt
    more-exprs-formed (NextExpr comma e more) h = (expr-formed e h.0, more-exprs-formed more h.1)
