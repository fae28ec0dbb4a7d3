-- A tree whose names are replaced twice is the tree whose names are replaced once by what comes of both.
-- One lemma for each kind of expression.
use Rattle.std.proofs.Common.{◌≡◌, refl, ap, ◌∙◌}
use Rattle.dpl_language.specs.Tree.{ExprTree, Grouped, DomainLiteral, Prefixed, Reduced, Chain, Postfixed, ItemTree, One, RangeItem, Stride, NoStride, By, Links, NoLinks, Link, Posts, NoPosts, Post, PostTree, Brackets, Rounds, Dotted, MethodTree, Plainly, Dim, Contains, Expand, CellRead, Items, FirstItem, MoreItems, NoItems, NextItem, Exprs, FirstExpr, MoreExprs, NoExprs, NextExpr}
use Rattle.dpl_agreement.specs.Renamed.{renamed_expr, renamed_item, renamed_stride, renamed_links, renamed_posts, renamed_post, renamed_method, renamed_items, renamed_more_items, renamed_exprs, renamed_more_exprs}

both : {A B C : Type 0} (make : A → B → C) {a c : A} {b d : B} → a ≡ c → b ≡ d → make a b ≡ make c d
both make {a = a} {d = d} p q = ap (make a) q ∙ ap (λ x. make x d) p

module _ {L M N : Type 0} (f : M → N) (g : L → M) where
  -- by both
  abbrev twice : L → N
  twice x = f (g x)

  mutual
    pub renamed_expr-twice : (e : ExprTree L) → renamed_expr f (renamed_expr g e) ≡ renamed_expr twice e
    renamed_expr-twice (Grouped from item upto) = ap (λ i. Grouped from i upto) (renamed_item-twice item)
    renamed_expr-twice (DomainLiteral from items upto) = ap (λ is. DomainLiteral from is upto) (renamed_items-twice items)
    renamed_expr-twice (Prefixed at op e) = ap (Prefixed at op) (renamed_expr-twice e)
    renamed_expr-twice (Reduced at op word e) = ap (Reduced at op word) (renamed_expr-twice e)
    renamed_expr-twice (Chain e rest) = both Chain (renamed_expr-twice e) (renamed_links-twice rest)
    renamed_expr-twice (Postfixed e posts) = both Postfixed (renamed_expr-twice e) (renamed_posts-twice posts)
    renamed_expr-twice _ = refl

    pub renamed_item-twice : (i : ItemTree L) → renamed_item f (renamed_item g i) ≡ renamed_item twice i
    renamed_item-twice (One e) = ap One (renamed_expr-twice e)
    renamed_item-twice (RangeItem low at dots high by) =
        ap (λ l. RangeItem l at dots (renamed_expr f (renamed_expr g high)) (renamed_stride f (renamed_stride g by))) (renamed_expr-twice low)
        ∙ both (RangeItem (renamed_expr twice low) at dots) (renamed_expr-twice high) (renamed_stride-twice by)

    renamed_stride-twice : (by : Stride L) → renamed_stride f (renamed_stride g by) ≡ renamed_stride twice by
    renamed_stride-twice NoStride = refl
    renamed_stride-twice (By at e) = ap (By at) (renamed_expr-twice e)

    pub renamed_links-twice : (l : Links L) → renamed_links f (renamed_links g l) ≡ renamed_links twice l
    renamed_links-twice NoLinks = refl
    renamed_links-twice (Link at op e rest) = both (Link at op) (renamed_expr-twice e) (renamed_links-twice rest)

    renamed_posts-twice : (ps : Posts L) → renamed_posts f (renamed_posts g ps) ≡ renamed_posts twice ps
    renamed_posts-twice NoPosts = refl
    renamed_posts-twice (Post p rest) = both Post (renamed_post-twice p) (renamed_posts-twice rest)

    renamed_post-twice : (p : PostTree L) → renamed_post f (renamed_post g p) ≡ renamed_post twice p
    renamed_post-twice (Brackets from items upto) = ap (λ is. Brackets from is upto) (renamed_items-twice items)
    renamed_post-twice (Rounds from es upto) = ap (λ es. Rounds from es upto) (renamed_exprs-twice es)
    renamed_post-twice (Dotted dot m) = ap (Dotted dot) (renamed_method-twice m)

    renamed_method-twice : (m : MethodTree L) → renamed_method f (renamed_method g m) ≡ renamed_method twice m
    renamed_method-twice (Plainly at w) = refl
    renamed_method-twice (Dim at from rank_at d upto) = refl
    renamed_method-twice (Contains at from es upto) = ap (λ es. Contains at from es upto) (renamed_exprs-twice es)
    renamed_method-twice (Expand at from e upto) = ap (λ e. Expand at from e upto) (renamed_expr-twice e)
    renamed_method-twice (CellRead at w from upto) = refl

    pub renamed_items-twice : (is : Items L) → renamed_items f (renamed_items g is) ≡ renamed_items twice is
    renamed_items-twice (FirstItem i more) = both FirstItem (renamed_item-twice i) (renamed_more_items-twice more)

    renamed_more_items-twice : (is : MoreItems L) → renamed_more_items f (renamed_more_items g is) ≡ renamed_more_items twice is
    renamed_more_items-twice NoItems = refl
    renamed_more_items-twice (NextItem comma i more) = both (NextItem comma) (renamed_item-twice i) (renamed_more_items-twice more)

    pub renamed_exprs-twice : (es : Exprs L) → renamed_exprs f (renamed_exprs g es) ≡ renamed_exprs twice es
    renamed_exprs-twice (FirstExpr e more) = both FirstExpr (renamed_expr-twice e) (renamed_more_exprs-twice more)

    renamed_more_exprs-twice : (es : MoreExprs L) → renamed_more_exprs f (renamed_more_exprs g es) ≡ renamed_more_exprs twice es
    renamed_more_exprs-twice NoExprs = refl
    renamed_more_exprs-twice (NextExpr comma e more) = both (NextExpr comma) (renamed_expr-twice e) (renamed_more_exprs-twice more)
