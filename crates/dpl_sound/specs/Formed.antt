-- Trees as texts spell them: a chain has an operator, and something stands behind the base of a postfix expression.
-- The type of trees has others, of which types and values go apart (see proofs/Rows): `A` in a chain without an operator
-- has A's type and is no name, so brackets behind it index no array and give 0, of an array of bools too; and `A` with
-- nothing behind it has A's type, and is the whole array at an index too.
use Rattle.std.specs.Prelude.{Option, Some, None}
use Rattle.dpl_language.specs.Spelled.{HasPosts}
use Rattle.dpl_language.specs.Tree.{ExprTree, Number, TruthWord, Named, LocalesWord, LocaleCount, HereWord, Grouped, DomainLiteral, Prefixed, Reduced, Chain, Postfixed, ItemTree, One, RangeItem, Stride, NoStride}
use Rattle.dpl_language.specs.Tree.{By, Links, NoLinks, Link, Posts, NoPosts, Post, PostTree, Brackets, Rounds, Dotted, MethodTree, Plainly, Dim, Contains, Expand, CellRead, Items}
use Rattle.dpl_language.specs.Tree.{FirstItem, MoreItems, NoItems, NextItem, Exprs, FirstExpr, MoreExprs, NoExprs, NextExpr}
use Rattle.dpl_language.specs.Tree.{TypeTree, ScalarType, SyncType, DomainType, ArrayType, InitTree, ItemInit, CreateInit, InitialTree}

module _ {N : Type 0} where
  -- an operator and an operand
  abbrev pub HasLinks : Links N → Type 0
  HasLinks NoLinks = ⊥
  HasLinks (Link at op e rest) = Unit {0}

  -- so in each part of the tree
  abbrev mutual
    pub ExprFormed : ExprTree N → Type 0
    ExprFormed (Number at n) = Unit {0}
    ExprFormed (TruthWord at b) = Unit {0}
    ExprFormed (Named x) = Unit {0}
    ExprFormed (LocalesWord at) = Unit {0}
    ExprFormed (LocaleCount at) = Unit {0}
    ExprFormed (HereWord at) = Unit {0}
    ExprFormed (Grouped from item upto) = ItemFormed item
    ExprFormed (DomainLiteral from items upto) = ItemsFormed items
    ExprFormed (Prefixed at op e) = ExprFormed e
    ExprFormed (Reduced at op word e) = ExprFormed e
    ExprFormed (Chain e rest) = HasLinks rest × ExprFormed e × LinksFormed rest
    ExprFormed (Postfixed e posts) = HasPosts posts × ExprFormed e × PostsFormed posts

    pub ItemFormed : ItemTree N → Type 0
    ItemFormed (One e) = ExprFormed e
    ItemFormed (RangeItem low at dots high by) = ExprFormed low × ExprFormed high × StrideFormed by

    pub StrideFormed : Stride N → Type 0
    StrideFormed NoStride = Unit {0}
    StrideFormed (By at e) = ExprFormed e

    pub LinksFormed : Links N → Type 0
    LinksFormed NoLinks = Unit {0}
    LinksFormed (Link at op e rest) = ExprFormed e × LinksFormed rest

    pub PostsFormed : Posts N → Type 0
    PostsFormed NoPosts = Unit {0}
    PostsFormed (Post p rest) = PostFormed p × PostsFormed rest

    pub PostFormed : PostTree N → Type 0
    PostFormed (Brackets from items upto) = ItemsFormed items
    PostFormed (Rounds from es upto) = ExprsFormed es
    PostFormed (Dotted dot m) = MethodFormed m

    pub MethodFormed : MethodTree N → Type 0
    MethodFormed (Plainly at w) = Unit {0}
    MethodFormed (Dim at from rank_at d upto) = Unit {0}
    MethodFormed (Contains at from es upto) = ExprsFormed es
    MethodFormed (Expand at from e upto) = ExprFormed e
    MethodFormed (CellRead at w from upto) = Unit {0}

    pub ItemsFormed : Items N → Type 0
    ItemsFormed (FirstItem i more) = ItemFormed i × MoreItemsFormed more

    pub MoreItemsFormed : MoreItems N → Type 0
    MoreItemsFormed NoItems = Unit {0}
    MoreItemsFormed (NextItem comma i more) = ItemFormed i × MoreItemsFormed more

    pub ExprsFormed : Exprs N → Type 0
    ExprsFormed (FirstExpr e more) = ExprFormed e × MoreExprsFormed more

    pub MoreExprsFormed : MoreExprs N → Type 0
    MoreExprsFormed NoExprs = Unit {0}
    MoreExprsFormed (NextExpr comma e more) = ExprFormed e × MoreExprsFormed more

  -- an initial value, and a written type; a map is not looked at
  abbrev pub InitFormed : InitTree N → Type 0
  InitFormed (ItemInit item mapped) = ItemFormed item
  InitFormed (CreateInit c) = ItemsFormed c.items

  abbrev pub InitialFormed : Option (InitialTree N) → Type 0
  InitialFormed None = Unit {0}
  InitialFormed (Some i) = InitFormed i.init

  abbrev pub TypeFormed : Option (TypeTree N) → Type 0
  TypeFormed None = Unit {0}
  TypeFormed (Some (ScalarType at k)) = Unit {0}
  TypeFormed (Some (SyncType at kind_at k)) = Unit {0}
  TypeFormed (Some (DomainType d)) = Unit {0}
  TypeFormed (Some (ArrayType a)) = ItemsFormed a.over
