-- Expressions in two sights in which their names stand for the same declarations: they have the same types and the same breaches.
-- Each lemma is stated of a part of an expression, with both.
use Rattle.std.proofs.Common.{◌≡◌, ◌++◌, Bool, true, false, List, [], ◌∷◌, Option, Some, None, refl, ap, ◌∙◌}
use Rattle.std.specs.Prelude.{◌||◌}
use Rattle.dpl_syntax.specs.declared.place.Place.{Place}
use Rattle.dpl_syntax.specs.declared.refusal.Breach.{Breach}
use Rattle.dpl_language.specs.Names.{Text}
use Rattle.dpl_language.specs.Tree.{ExprTree, Number, TruthWord, Named, LocalesWord, LocaleCount, HereWord, Grouped, DomainLiteral, Prefixed, Reduced, Chain, Postfixed, ItemTree, One, RangeItem, Stride, NoStride, By, Links, NoLinks, Link, Posts, NoPosts, Post, PostTree, Brackets, Rounds, Dotted, MethodTree, Plainly, Dim, Contains, Expand, CellRead, Items, FirstItem, MoreItems, NoItems, NextItem, Exprs, FirstExpr, MoreExprs, NoExprs, NextExpr}
use Rattle.dpl_rules.specs.Types.{ValueType, domain_of, is_promoted, has}
use Rattle.dpl_rules.specs.Verdicts.{Part, part, Verdict, type_by, broken_by, with_type}
use Rattle.dpl_rules.specs.Places.{first_of, first_of_item, last_of, last_of_post}
use Rattle.dpl_rules.specs.Sights.{Scopes, lookup}
use Rattle.dpl_rules.specs.Operators.{prefix_verdict, reduction_verdict, infix_verdict, range_verdict, ranges_verdict, square_verdict, round_verdict, index_rank, contains_verdict, expand_verdict}
use Rattle.dpl_rules.specs.Expressions.{name_verdict, bare_locales, locales_or, none_where, type_of, item_type, range_item_verdict, chain_type, posts_type, post_verdict, method_verdict}
use Rattle.dpl_rules.specs.Deeds.{inner_reductions}
use Rattle.dpl_rules.specs.Expressions.{pair_type, has_promoted_pair, inner_deeds, inner_links, inner_chain}
use Rattle.dpl_rules.specs.Expressions.{item_parts, more_item_parts, expr_parts, more_expr_parts, expr_breaches, item_breaches, stride_breaches, chain_breaches, posts_breaches, post_breaches, method_breaches}
use Rattle.dpl_rules.specs.Expressions.{items_breaches, more_items_breaches, exprs_breaches, more_exprs_breaches}
use Rattle.dpl_typed.specs.Simple.{IsSimple, IsSimpleItem, IsSimpleStride, AreSimpleLinks, AreSimplePosts, IsSimplePost, IsSimpleMethod, AreSimpleItems, AreSimpleMoreItems, AreSimpleExprs, AreSimpleMoreExprs}
use Rattle.dpl_mapped.proofs.Reductions.{AreAlike, both-alike, expr-alike}

joined : (xs ys cs ds : List Breach) → xs ≡ ys → cs ≡ ds → xs ++ cs ≡ ys ++ ds
joined xs ys cs ds e f = ap (λ zs. zs ++ cs) e ∙ ap (λ zs. ys ++ zs) f

-- a verdict of whatever has a type
with-same : (t : Option ValueType) (f g : ValueType → Verdict) → ((t : ValueType) → f t ≡ g t) → with_type t f ≡ with_type t g
with-same None f g e = refl
with-same (Some t) f g e = e t

module _ (Holds : Text → Type 0) (ss us : Scopes) (same : (x : Text) → Holds x → lookup us x ≡ lookup ss x) where
  abbrev SameExpr : ExprTree Text → Type 0
  SameExpr e = (type_of us e ≡ type_of ss e) × (expr_breaches us e ≡ expr_breaches ss e)

  abbrev SameItem : ItemTree Text → Type 0
  SameItem i = (item_type us i ≡ item_type ss i) × (item_breaches us i ≡ item_breaches ss i)

  abbrev SameStride : Stride Text → Type 0
  SameStride by = ((p q : Part) → range_item_verdict us p q by ≡ range_item_verdict ss p q by) × (stride_breaches us by ≡ stride_breaches ss by)

  abbrev SameLinks : Option ValueType → Links Text → Type 0
  SameLinks t ls =
      (chain_type us t ls ≡ chain_type ss t ls) × (chain_breaches us t ls ≡ chain_breaches ss t ls)
      × (has_promoted_pair us t ls ≡ has_promoted_pair ss t ls) × AreAlike (inner_links us t ls) (inner_links ss t ls)

  abbrev SamePosts : Place → Option ValueType → Posts Text → Type 0
  SamePosts last t ps = (posts_type us last t ps ≡ posts_type ss last t ps) × (posts_breaches us last t ps ≡ posts_breaches ss last t ps)

  abbrev SamePost : PostTree Text → Type 0
  SamePost p = ((last : Place) (t : Option ValueType) → post_verdict us last p t ≡ post_verdict ss last p t) × (post_breaches us p ≡ post_breaches ss p)

  abbrev SameMethod : MethodTree Text → Type 0
  SameMethod m = ((t : ValueType) → method_verdict us m t ≡ method_verdict ss m t) × (method_breaches us m ≡ method_breaches ss m)

  abbrev SameItems : Items Text → Type 0
  SameItems is = (item_parts us is ≡ item_parts ss is) × (items_breaches us is ≡ items_breaches ss is)

  abbrev SameMoreItems : MoreItems Text → Type 0
  SameMoreItems is = (more_item_parts us is ≡ more_item_parts ss is) × (more_items_breaches us is ≡ more_items_breaches ss is)

  abbrev SameExprs : Exprs Text → Type 0
  SameExprs es = (expr_parts us es ≡ expr_parts ss es) × (exprs_breaches us es ≡ exprs_breaches ss es)

  abbrev SameMoreExprs : MoreExprs Text → Type 0
  SameMoreExprs es = (more_expr_parts us es ≡ more_expr_parts ss es) × (more_exprs_breaches us es ≡ more_exprs_breaches ss es)

  postfixed-by : (e : ExprTree Text) (ps : Posts Text) → SameExpr e → SamePosts (last_of e) (locales_or (bare_locales e) (type_of ss e)) ps → SameExpr (Postfixed e ps)
  postfixed-by e ps s r = (
    ap (λ t. posts_type us (last_of e) (locales_or (bare_locales e) t) ps) s.0 ∙ r.0,
    joined (none_where (bare_locales e) (expr_breaches us e)) (none_where (bare_locales e) (expr_breaches ss e))
        (posts_breaches us (last_of e) (locales_or (bare_locales e) (type_of us e)) ps) (posts_breaches ss (last_of e) (locales_or (bare_locales e) (type_of ss e)) ps)
        (ap (none_where (bare_locales e)) s.1) (ap (λ t. posts_breaches us (last_of e) (locales_or (bare_locales e) t) ps) s.0 ∙ r.1),
  )

  -- an operand does the same reductions in a pair that is promoted in both sights, and in one that is promoted in neither
  inner-same : (b c : Bool) (e : ExprTree Text) → b ≡ c → AreAlike (inner_deeds us b e) (inner_deeds ss c e)
  inner-same b true e h = ap (λ b. inner_reductions (inner_deeds us b e)) h ∙ expr-alike us ss e
  inner-same b false e h = ap (λ b. inner_reductions (inner_deeds us b e)) h

  mutual
    pub expr-same : (e : ExprTree Text) → IsSimple Holds e → SameExpr e
    expr-same (Number at n) h = (refl, refl)
    expr-same (TruthWord at b) h = (refl, refl)
    expr-same (Named x) h =
        (ap (λ d. type_by (name_verdict x.at d)) (same x.name h), ap (λ d. broken_by (name_verdict x.at d)) (same x.name h))
    expr-same (LocalesWord at) h = absurd h
    expr-same (LocaleCount at) h = absurd h
    expr-same (HereWord at) h = absurd h
    expr-same (Grouped from item upto) h = item-same item h
    expr-same (DomainLiteral from items upto) h =
        let s = items-same items h in (
          ap (λ ps. type_by (ranges_verdict from ps)) s.0,
          joined (items_breaches us items) (items_breaches ss items) (broken_by (ranges_verdict from (item_parts us items))) (broken_by (ranges_verdict from (item_parts ss items)))
              s.1 (ap (λ ps. broken_by (ranges_verdict from ps)) s.0),
        )
    expr-same (Prefixed at op e) h =
        let s = expr-same e h in (
          ap (λ t. type_by (prefix_verdict at op t)) s.0,
          joined (expr_breaches us e) (expr_breaches ss e) (broken_by (prefix_verdict at op (type_of us e))) (broken_by (prefix_verdict at op (type_of ss e)))
              s.1 (ap (λ t. broken_by (prefix_verdict at op t)) s.0),
        )
    expr-same (Reduced at op word e) h =
        let s = expr-same e h in (
          ap (λ t. type_by (reduction_verdict at op t)) s.0,
          joined (expr_breaches us e) (expr_breaches ss e) (broken_by (reduction_verdict at op (type_of us e))) (broken_by (reduction_verdict at op (type_of ss e)))
              s.1 (ap (λ t. broken_by (reduction_verdict at op t)) s.0),
        )
    expr-same (Chain e rest) h =
        let s = expr-same e h.0 in
        let r = links-same rest (type_of ss e) h.1 in (
          ap (λ t. chain_type us t rest) s.0 ∙ r.0,
          joined (expr_breaches us e ++ chain_breaches us (type_of us e) rest) (expr_breaches ss e ++ chain_breaches ss (type_of ss e) rest)
              (inner_reductions (inner_chain us e rest)) (inner_reductions (inner_chain ss e rest))
              (joined (expr_breaches us e) (expr_breaches ss e) (chain_breaches us (type_of us e) rest) (chain_breaches ss (type_of ss e) rest)
              s.1 (ap (λ t. chain_breaches us t rest) s.0 ∙ r.1))
              (both-alike (inner_deeds us (has_promoted_pair us (type_of us e) rest) e) (inner_deeds ss (has_promoted_pair ss (type_of ss e) rest) e)
              (inner_links us (type_of us e) rest) (inner_links ss (type_of ss e) rest)
              (inner-same (has_promoted_pair us (type_of us e) rest) (has_promoted_pair ss (type_of ss e) rest) e (ap (λ t. has_promoted_pair us t rest) s.0 ∙ r.2))
              (ap (λ t. inner_reductions (inner_links us t rest)) s.0 ∙ r.3)),
        )
    expr-same (Postfixed e posts) h =
        postfixed-by e posts (expr-same e h.0) (posts-same posts (last_of e) (locales_or (bare_locales e) (type_of ss e)) h.1)

    pub item-same : (i : ItemTree Text) → IsSimpleItem Holds i → SameItem i
    item-same (One e) h = expr-same e h
    item-same (RangeItem low at dots high by) h =
        let l = expr-same low h.0 in
        let g = expr-same high h.1 in
        let b = stride-same by h.2 in
        let verdict = ap (λ t. range_item_verdict us (part (first_of low) t) (part (first_of high) (type_of us high)) by) l.0
        ∙ ap (λ t. range_item_verdict us (part (first_of low) (type_of ss low)) (part (first_of high) t) by) g.0
        ∙ b.0 (part (first_of low) (type_of ss low)) (part (first_of high) (type_of ss high)) in (
          ap type_by verdict,
          joined (expr_breaches us low ++ expr_breaches us high ++ stride_breaches us by) (expr_breaches ss low ++ expr_breaches ss high ++ stride_breaches ss by)
              (broken_by (range_item_verdict us (part (first_of low) (type_of us low)) (part (first_of high) (type_of us high)) by))
              (broken_by (range_item_verdict ss (part (first_of low) (type_of ss low)) (part (first_of high) (type_of ss high)) by))
              (joined (expr_breaches us low ++ expr_breaches us high) (expr_breaches ss low ++ expr_breaches ss high) (stride_breaches us by) (stride_breaches ss by)
              (joined (expr_breaches us low) (expr_breaches ss low) (expr_breaches us high) (expr_breaches ss high) l.1 g.1) b.1) (ap broken_by verdict),
        )

    stride-same : (by : Stride Text) → IsSimpleStride Holds by → SameStride by
    stride-same NoStride h = (λ p q. refl, refl)
    stride-same (By at e) h =
        let s = expr-same e h in
        (λ p q. ap (λ t. range_verdict (p ∷ q ∷ part (first_of e) t ∷ []) true) s.0, s.1)

    links-same : (ls : Links Text) (t : Option ValueType) → AreSimpleLinks Holds ls → SameLinks t ls
    links-same NoLinks t h = (refl, refl, refl, refl)
    links-same (Link at op e rest) t h =
        let s = expr-same e h.0 in
        let v = infix_verdict at op t (type_of ss e) in
        let verdict = ap (infix_verdict at op t) s.0 in
        let r = links-same rest (type_by v) h.1 in
        let promoted = ap (λ v. has is_promoted (type_by v) || has_promoted_pair us (type_by v) rest) verdict ∙ ap (λ b. has is_promoted (type_by v) || b) r.2 in (
          ap (λ v. chain_type us (type_by v) rest) verdict ∙ r.0,
          joined (expr_breaches us e ++ broken_by (infix_verdict at op t (type_of us e))) (expr_breaches ss e ++ broken_by v)
              (chain_breaches us (type_by (infix_verdict at op t (type_of us e))) rest) (chain_breaches ss (type_by v) rest)
              (joined (expr_breaches us e) (expr_breaches ss e) (broken_by (infix_verdict at op t (type_of us e))) (broken_by v) s.1 (ap broken_by verdict))
              (ap (λ v. chain_breaches us (type_by v) rest) verdict ∙ r.1),
          promoted,
          both-alike (inner_deeds us (has_promoted_pair us t (Link at op e rest)) e) (inner_deeds ss (has_promoted_pair ss t (Link at op e rest)) e)
              (inner_links us (pair_type us t at op e) rest) (inner_links ss (pair_type ss t at op e) rest)
              (inner-same (has_promoted_pair us t (Link at op e rest)) (has_promoted_pair ss t (Link at op e rest)) e promoted)
              (ap (λ v. inner_reductions (inner_links us (type_by v) rest)) verdict ∙ r.3),
        )

    posts-same : (ps : Posts Text) (last : Place) (t : Option ValueType) → AreSimplePosts Holds ps → SamePosts last t ps
    posts-same NoPosts last t h = (refl, refl)
    posts-same (Post p rest) last t h =
        let s = post-same p h.0 in
        let v = post_verdict ss last p t in
        let verdict = s.0 last t in
        let r = posts-same rest (last_of_post p) (type_by v) h.1 in (
          ap (λ v. posts_type us (last_of_post p) (type_by v) rest) verdict ∙ r.0,
          joined (post_breaches us p ++ broken_by (post_verdict us last p t)) (post_breaches ss p ++ broken_by v)
              (posts_breaches us (last_of_post p) (type_by (post_verdict us last p t)) rest) (posts_breaches ss (last_of_post p) (type_by v) rest)
              (joined (post_breaches us p) (post_breaches ss p) (broken_by (post_verdict us last p t)) (broken_by v) s.1 (ap broken_by verdict))
              (ap (λ v. posts_breaches us (last_of_post p) (type_by v) rest) verdict ∙ r.1),
        )

    post-same : (p : PostTree Text) → IsSimplePost Holds p → SamePost p
    post-same (Brackets from items upto) h =
        let s = items-same items h in
        (λ last t. ap (λ ps. with_type t (square_verdict last from ps)) s.0, s.1)
    post-same (Rounds from es upto) h =
        let s = exprs-same es h in
        (λ last t. ap (λ ps. with_type t (round_verdict last from ps)) s.0, s.1)
    post-same (Dotted dot m) h =
        let s = method-same m h in
        (λ last t. with-same t (method_verdict us m) (method_verdict ss m) s.0, s.1)

    method-same : (m : MethodTree Text) → IsSimpleMethod Holds m → SameMethod m
    method-same (Plainly at w) h = (λ t. refl, refl)
    method-same (Dim at from rank_at d upto) h = (λ t. refl, refl)
    method-same (Contains at from es upto) h =
        let s = exprs-same es h in
        (λ t. ap (λ ps. contains_verdict at ps (index_rank t)) s.0, s.1)
    method-same (Expand at from e upto) h =
        let s = expr-same e h in
        (λ t. ap (λ u. expand_verdict at (part (first_of e) u) (domain_of t)) s.0, s.1)
    method-same (CellRead at w from upto) h = absurd h

    items-same : (is : Items Text) → AreSimpleItems Holds is → SameItems is
    items-same (FirstItem i more) h =
        let s = item-same i h.0 in
        let r = more_items-same more h.1 in (
          ap (λ t. part (first_of_item i) t ∷ more_item_parts us more) s.0 ∙ ap (λ ps. part (first_of_item i) (item_type ss i) ∷ ps) r.0,
          joined (item_breaches us i) (item_breaches ss i) (more_items_breaches us more) (more_items_breaches ss more) s.1 r.1,
        )

    more_items-same : (is : MoreItems Text) → AreSimpleMoreItems Holds is → SameMoreItems is
    more_items-same NoItems h = (refl, refl)
    more_items-same (NextItem comma i more) h =
        let s = item-same i h.0 in
        let r = more_items-same more h.1 in (
          ap (λ t. part (first_of_item i) t ∷ more_item_parts us more) s.0 ∙ ap (λ ps. part (first_of_item i) (item_type ss i) ∷ ps) r.0,
          joined (item_breaches us i) (item_breaches ss i) (more_items_breaches us more) (more_items_breaches ss more) s.1 r.1,
        )

    pub exprs-same : (es : Exprs Text) → AreSimpleExprs Holds es → SameExprs es
    exprs-same (FirstExpr e more) h =
        let s = expr-same e h.0 in
        let r = more_exprs-same more h.1 in (
          ap (λ t. part (first_of e) t ∷ more_expr_parts us more) s.0 ∙ ap (λ ps. part (first_of e) (type_of ss e) ∷ ps) r.0,
          joined (expr_breaches us e) (expr_breaches ss e) (more_exprs_breaches us more) (more_exprs_breaches ss more) s.1 r.1,
        )

    more_exprs-same : (es : MoreExprs Text) → AreSimpleMoreExprs Holds es → SameMoreExprs es
    more_exprs-same NoExprs h = (refl, refl)
    more_exprs-same (NextExpr comma e more) h =
        let s = expr-same e h.0 in
        let r = more_exprs-same more h.1 in (
          ap (λ t. part (first_of e) t ∷ more_expr_parts us more) s.0 ∙ ap (λ ps. part (first_of e) (type_of ss e) ∷ ps) r.0,
          joined (expr_breaches us e) (expr_breaches ss e) (more_exprs_breaches us more) (more_exprs_breaches ss more) s.1 r.1,
        )

  -- also where nothing stands behind the base
  pub postfixed-same : (e : ExprTree Text) (ps : Posts Text) → IsSimple Holds e → AreSimplePosts Holds ps → SameExpr (Postfixed e ps)
  postfixed-same e ps h g = postfixed-by e ps (expr-same e h) (posts-same ps (last_of e) (locales_or (bare_locales e) (type_of ss e)) g)
