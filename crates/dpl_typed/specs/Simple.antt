-- The expressions of a data-parallel program on one locale: all but what tells of locales, and reads of cells.
-- What its names are is asked of each.
use Rattle.std.specs.Prelude.{◌≡◌, true}
use Rattle.dpl_language.specs.Tree.{ExprTree, Number, TruthWord, Named, LocalesWord, LocaleCount, HereWord, Grouped, DomainLiteral, Prefixed, Reduced, Chain, Postfixed, ItemTree, One, RangeItem, Stride, NoStride, By, Links, NoLinks, Link, Posts, NoPosts, Post, PostTree, Brackets, Rounds, Dotted, MethodTree, Plainly, Dim, Contains, Expand, CellRead, Items, FirstItem, MoreItems, NoItems, NextItem, Exprs, FirstExpr, MoreExprs, NoExprs, NextExpr}
use Rattle.dpl_language.specs.Spelled.{HasPosts}
use Rattle.dpl_lowered.specs.Shapes.{nests}

module _ {N : Type 0} (Holds : N → Type 0) where
  abbrev mutual
    pub IsSimple : ExprTree N → Type 0
    IsSimple (Number at n) = Unit {0}
    IsSimple (TruthWord at b) = Unit {0}
    IsSimple (Named x) = Holds x.name
    IsSimple (LocalesWord at) = ⊥
    IsSimple (LocaleCount at) = ⊥
    IsSimple (HereWord at) = ⊥
    IsSimple (Grouped from item upto) = IsSimpleItem item
    IsSimple (DomainLiteral from items upto) = AreSimpleItems items
    IsSimple (Prefixed at op e) = IsSimple e
    IsSimple (Reduced at op word e) = IsSimple e
    -- a chain of operators that nest, as those that a text spells do
    IsSimple (Chain e rest) = IsSimple e × AreSimpleLinks rest × (nests rest ≡ true)
    -- a base with something behind it, as each that a text spells has
    IsSimple (Postfixed e posts) = IsSimple e × AreSimplePosts posts × HasPosts posts

    pub IsSimpleItem : ItemTree N → Type 0
    IsSimpleItem (One e) = IsSimple e
    IsSimpleItem (RangeItem low at dots high by) = IsSimple low × IsSimple high × IsSimpleStride by

    pub IsSimpleStride : Stride N → Type 0
    IsSimpleStride NoStride = Unit {0}
    IsSimpleStride (By at e) = IsSimple e

    pub AreSimpleLinks : Links N → Type 0
    AreSimpleLinks NoLinks = Unit {0}
    AreSimpleLinks (Link at op e rest) = IsSimple e × AreSimpleLinks rest

    pub AreSimplePosts : Posts N → Type 0
    AreSimplePosts NoPosts = Unit {0}
    AreSimplePosts (Post p rest) = IsSimplePost p × AreSimplePosts rest

    pub IsSimplePost : PostTree N → Type 0
    IsSimplePost (Brackets from items upto) = AreSimpleItems items
    IsSimplePost (Rounds from es upto) = AreSimpleExprs es
    IsSimplePost (Dotted dot m) = IsSimpleMethod m

    pub IsSimpleMethod : MethodTree N → Type 0
    IsSimpleMethod (Plainly at w) = Unit {0}
    IsSimpleMethod (Dim at from rank_at d upto) = Unit {0}
    IsSimpleMethod (Contains at from es upto) = AreSimpleExprs es
    IsSimpleMethod (Expand at from e upto) = IsSimple e
    IsSimpleMethod (CellRead at w from upto) = ⊥

    pub AreSimpleItems : Items N → Type 0
    AreSimpleItems (FirstItem i more) = IsSimpleItem i × AreSimpleMoreItems more

    pub AreSimpleMoreItems : MoreItems N → Type 0
    AreSimpleMoreItems NoItems = Unit {0}
    AreSimpleMoreItems (NextItem comma i more) = IsSimpleItem i × AreSimpleMoreItems more

    pub AreSimpleExprs : Exprs N → Type 0
    AreSimpleExprs (FirstExpr e more) = IsSimple e × AreSimpleMoreExprs more

    pub AreSimpleMoreExprs : MoreExprs N → Type 0
    AreSimpleMoreExprs NoExprs = Unit {0}
    AreSimpleMoreExprs (NextExpr comma e more) = IsSimple e × AreSimpleMoreExprs more
