-- Each form of an expression, by its parts.
use Rattle.std.proofs.Common.{[], ◌∷◌, Some, None, refl, sym, subst, ap, ◌∙◌}
use Rattle.dpl_syntax.proofs.Walks.{drop-end}
use Rattle.dpl_language.specs.Tree.{One}
use Rattle.dpl_lowered.specs.LoweredExpressions.{EachTurn}
use Rattle.dpl_nodes.specs.declared.tree.IntExpr.{IntExpr}
use Rattle.dpl_nodes.specs.declared.tree.PromotedInt.{PromotedInt}
use Rattle.dpl_nodes.specs.declared.tree.RangeExpr.{RangeExpr}
use Rattle.dpl_nodes.specs.declared.tree.RangesExpr.{RangesExpr}
use Rattle.dpl_nodes.specs.declared.tree.Stride.{Stride}
use Rattle.dpl_nodes.specs.declared.tree.IndexExpr.{IndexExpr}
use Rattle.dpl_nodes.specs.declared.tree.DomainExpr.{DomainExpr}
use Rattle.dpl_nodes.specs.Typed.{bracketed, int_view, int_links_of, range_item, range_view, range_cuts_of, stride_view, ranges_items, index_items, domain_view, domain_posts_of, promoted_int, promoted_int_links_of}
use Rattle.dpl_nodes.proofs.Chains.{int_view-chain, int_links-from, promoted_int-chain, promoted_int_links-from, range_view-slice, range_cuts-from, domain_view-posts, domain_posts-from}
use Rattle.dpl_turns.proofs.Typed.{int_view-fits}
use Rattle.dpl_dependence.specs.declared.turn.TurnRules.{TurnRules}
use Rattle.dpl_dependence.specs.Turns.{own_in, changes_by, MayEvaluate, MayEvaluateEach, MayLink, MayLinkEach, MayPost, MayEvaluateItem, MayEvaluateItems, MayStride}
use Rattle.dpl_dependence.proofs.Expressions.{grouped-fits, stacked-fits, range-fits, range-base_fits, domain-base_fits}
use Rattle.dpl_dependence.proofs.expression.+ints.Goals as goal

abbrev OfInt : TurnRules → IntExpr → Type 0
OfInt rules e = MayEvaluate rules (int_view e)

abbrev OfInts : TurnRules → PromotedInt → Type 0
OfInts rules e = MayEvaluateEach rules (promoted_int EachTurn e)

abbrev OfRange : TurnRules → RangeExpr → Type 0
OfRange rules r = MayEvaluateItem rules (range_item r)

abbrev OfStride : TurnRules → Stride → Type 0
OfStride rules s = MayStride rules (stride_view s)

abbrev OfRanges : TurnRules → RangesExpr → Type 0
OfRanges rules rs = MayEvaluateItems rules (ranges_items rs)

abbrev OfIndex : TurnRules → IndexExpr → Type 0
OfIndex rules x = MayEvaluateItems rules (index_items x)

abbrev OfDomain : TurnRules → DomainExpr → Type 0
OfDomain rules d = MayEvaluate rules (domain_view d)

pub may_int-returns-in-Negative : goal.may_int-returns-in-Negative
may_int-returns-in-Negative t c h = subst (OfInt c.args.rules.now) (sym c.in-Negative.is) (c.may_int.ensures h)

pub may_int-returns-then-may_int : goal.may_int-returns-then-may_int
may_int-returns-then-may_int t c h = subst (OfInt c.args.rules.now) (sym c.in-Sum.is) (λ i. (c.may_int-in-Sum.ensures c.if-may_int.true i, (c.may_int-then-may_int.ensures h i, tt)))

pub may_int-returns-then-may_int-2 : goal.may_int-returns-then-may_int-2
may_int-returns-then-may_int-2 t c h = subst (OfInt c.args.rules.now) (sym c.in-Difference.is) (λ i. (c.may_int-in-Difference.ensures c.if-may_int-2.true i, (c.may_int-then-may_int-2.ensures h i, tt)))

pub may_int-returns-then-may_int-3 : goal.may_int-returns-then-may_int-3
may_int-returns-then-may_int-3 t c h = subst (OfInt c.args.rules.now) (sym c.in-Product.is) (λ i. (c.may_int-in-Product.ensures c.if-may_int-3.true i, (c.may_int-then-may_int-3.ensures h i, tt)))

pub may_int-returns-then-may_int-4 : goal.may_int-returns-then-may_int-4
may_int-returns-then-may_int-4 t c h = subst (OfInt c.args.rules.now) (sym c.in-Quotient.is) (λ i. (c.may_int-in-Quotient.ensures c.if-may_int-4.true i, (c.may_int-then-may_int-4.ensures h i, tt)))

pub may_int-returns-then-may_int-5 : goal.may_int-returns-then-may_int-5
may_int-returns-then-may_int-5 t c h = subst (OfInt c.args.rules.now) (sym c.in-Remainder.is) (λ i. (c.may_int-in-Remainder.ensures c.if-may_int-5.true i, (c.may_int-then-may_int-5.ensures h i, tt)))

pub may_int-returns-then-may_int-6 : goal.may_int-returns-then-may_int-6
may_int-returns-then-may_int-6 t c h =
    let first = c.in-Chain.first in
    let links = c.in-Chain.links in
    subst (MayEvaluate c.args.rules.now) (sym (ap int_view c.in-Chain.is ∙ int_view-chain first links))
    (λ i. grouped-fits (changes_by c.args.rules.now) (own_in c.args.rules.now) i None (int_view first.now) (int_links_of links.now) (c.may_int-in-Chain.ensures c.if-may_int-6.true i) (c.may_links.ensures h i))

pub may_links-loop-link-preserved : goal.may_links-loop-link-preserved
may_links-loop-link-preserved t c all =
    let rules = c.args.rules.now in
    let l = c.link-item.result in
    c.loop-link.invariant
    (subst (MayLink rules) (sym (int_links-from c.args.links.now c.loop-link.link-index l c.loop-link-test.true c.link-item.is)) (λ i. (c.may_int.ensures c.if-not-may_int.false i, all i)))

pub may_links-returns : goal.may_links-returns
may_links-returns t c h = c.loop-link.invariant (subst (λ ls. MayLink c.args.rules.now (int_links_of ls)) (sym (drop-end c.args.links.now c.loop-link.link-index c.loop-link-test.false)) (λ i. tt))

pub may_int-returns-in-OfRange : goal.may_int-returns-in-OfRange
may_int-returns-in-OfRange t c h = subst (OfInt c.args.rules.now) (sym c.in-OfRange.is) (λ i. (range-fits (changes_by c.args.rules.now) (own_in c.args.rules.now) i c.in-OfRange.r.now (c.may_range.ensures h i), (tt, tt)))

pub may_int-returns-in-OfDomain : goal.may_int-returns-in-OfDomain
may_int-returns-in-OfDomain t c h = subst (OfInt c.args.rules.now) (sym c.in-OfDomain.is) (λ i. (c.may_domain.ensures h i, (tt, tt)))

pub may_int-returns-then-may_read_at : goal.may_int-returns-then-may_read_at
may_int-returns-then-may_read_at t c h = subst (OfInt c.args.rules.now) (sym c.in-Element.is) (λ i. (refl, ((c.may_index.ensures h i, c.may_read_at.ensures c.if-may_read_at.true), tt)))

pub may_int-returns-in-Reduced : goal.may_int-returns-in-Reduced
may_int-returns-in-Reduced t c h = subst (OfInt c.args.rules.now) (sym c.in-Reduced.is) (c.may_ints.ensures h)

pub may_ints-returns-in-Scalar : goal.may_ints-returns-in-Scalar
may_ints-returns-in-Scalar t c h = subst (OfInts c.args.rules.now) (sym c.in-Scalar.is) (λ i j. int_view-fits (changes_by c.args.rules.now) (own_in c.args.rules.now) i j c.in-Scalar.a.now (c.may_int.ensures h i))

pub may_ints-returns-in-Negative : goal.may_ints-returns-in-Negative
may_ints-returns-in-Negative t c h = subst (OfInts c.args.rules.now) (sym c.in-Negative.is) (c.may_ints.ensures h)

pub may_ints-returns-then-may_ints : goal.may_ints-returns-then-may_ints
may_ints-returns-then-may_ints t c h =
    let rules = c.args.rules.now in
    let first = c.in-Chain.first in
    let links = c.in-Chain.links in
    subst (MayEvaluateEach rules) (sym (ap (promoted_int EachTurn) c.in-Chain.is ∙ promoted_int-chain EachTurn first links))
    (λ i j. grouped-fits (changes_by rules) (own_in rules) i (Some j) (promoted_int EachTurn first.now) (promoted_int_links_of EachTurn links.now) (c.may_ints-in-Chain.ensures c.if-may_ints.true i j) (c.may_ints_links.ensures h i j))

pub may_ints_links-loop-link-preserved : goal.may_ints_links-loop-link-preserved
may_ints_links-loop-link-preserved t c all =
    let rules = c.args.rules.now in
    let l = c.link-item.result in
    c.loop-link.invariant
    (subst (MayLinkEach rules) (sym (promoted_int_links-from EachTurn c.args.links.now c.loop-link.link-index l c.loop-link-test.true c.link-item.is))
    (λ i j. (c.may_ints.ensures c.if-not-may_ints.false i j, all i j)))

pub may_ints_links-returns : goal.may_ints_links-returns
may_ints_links-returns t c h =
    c.loop-link.invariant (subst (λ ls. MayLinkEach c.args.rules.now (promoted_int_links_of EachTurn ls)) (sym (drop-end c.args.links.now c.loop-link.link-index c.loop-link-test.false)) (λ i j. tt))

pub may_range-returns-then-may_range-2 : goal.may_range-returns-then-may_range-2
may_range-returns-then-may_range-2 t c h =
    let rules = c.args.rules.now in
    let r = c.in-Slice.a.now in
    let cut = c.in-Slice.b.now in
    let cuts = c.in-Slice.cuts in
    subst (MayEvaluateItem rules) (sym (ap range_item c.in-Slice.is ∙ ap One (range_view-slice c.in-Slice.a c.in-Slice.b cuts)))
    (λ i. stacked-fits (changes_by rules) (own_in rules) i (bracketed (range_view r) (range_item cut)) (range_cuts_of cuts.now)
    (range-fits (changes_by rules) (own_in rules) i r (c.may_range.ensures c.if-may_range.true i), (((c.may_range-then-may_range.ensures c.if-may_range-2.true i, tt), range-base_fits (changes_by rules) (own_in rules) i r _), tt))
    (λ items. tt) (c.may_cuts.ensures h i))

pub may_cuts-loop-cut-preserved : goal.may_cuts-loop-cut-preserved
may_cuts-loop-cut-preserved t c all =
    let rules = c.args.rules.now in
    let r = c.cut-item.result in
    c.loop-cut.invariant
    (subst (MayPost rules) (sym (range_cuts-from c.args.cuts.now c.loop-cut.cut-index r c.loop-cut-test.true c.cut-item.is)) (λ i. (((c.may_range.ensures c.if-not-may_range.false i, tt), tt), all i)))

pub may_cuts-returns : goal.may_cuts-returns
may_cuts-returns t c h = c.loop-cut.invariant (subst (λ cs. MayPost c.args.rules.now (range_cuts_of cs)) (sym (drop-end c.args.cuts.now c.loop-cut.cut-index c.loop-cut-test.false)) (λ i. tt))

pub may_range-returns-in-Dimension : goal.may_range-returns-in-Dimension
may_range-returns-in-Dimension t c h = subst (OfRange c.args.rules.now) (sym c.in-Dimension.is) (λ i. (c.may_domain.ensures h i, (tt, tt)))

pub may_ranges-returns-in-Line : goal.may_ranges-returns-in-Line
may_ranges-returns-in-Line t c h = subst (OfRanges c.args.rules.now) (sym c.in-Line.is) (λ i. (c.may_range.ensures h i, tt))

pub may_ranges-returns-then-may_range : goal.may_ranges-returns-then-may_range
may_ranges-returns-then-may_range t c h = subst (OfRanges c.args.rules.now) (sym c.in-Plane.is) (λ i. (c.may_range-in-Plane.ensures c.if-may_range.true i, (c.may_range-then-may_range.ensures h i, tt)))

pub may_stride-returns-in-By : goal.may_stride-returns-in-By
may_stride-returns-in-By t c h = subst (OfStride c.args.rules.now) (sym c.in-By.is) (c.may_int.ensures h)

pub may_index-returns-in-Line : goal.may_index-returns-in-Line
may_index-returns-in-Line t c h = subst (OfIndex c.args.rules.now) (sym c.in-Line.is) (λ i. (c.may_int.ensures h i, tt))

pub may_index-returns-then-may_int : goal.may_index-returns-then-may_int
may_index-returns-then-may_int t c h = subst (OfIndex c.args.rules.now) (sym c.in-Plane.is) (λ i. (c.may_int-in-Plane.ensures c.if-may_int.true i, (c.may_int-then-may_int.ensures h i, tt)))

pub may_domain-returns-in-Literal : goal.may_domain-returns-in-Literal
may_domain-returns-in-Literal t c h = subst (OfDomain c.args.rules.now) (sym c.in-Literal.is) (c.may_ranges.ensures h)

pub may_domain-returns-then-may_domain : goal.may_domain-returns-then-may_domain
may_domain-returns-then-may_domain t c h =
    let rules = c.args.rules.now in
    let d = c.in-Posts.a in
    let posts = c.in-Posts.posts in
    subst (MayEvaluate rules) (sym (ap domain_view c.in-Posts.is ∙ domain_view-posts d posts))
    (λ i. stacked-fits (changes_by rules) (own_in rules) i (domain_view d.now) (domain_posts_of posts.now) (c.may_domain.ensures c.if-may_domain.true i)
    (domain-base_fits (changes_by rules) (own_in rules) i d.now) (c.may_posts.ensures h i))

pub may_post-returns-in-Slice : goal.may_post-returns-in-Slice
may_post-returns-in-Slice t c h = subst (λ p. MayPost c.args.rules.now (domain_posts_of (p ∷ []))) (sym c.in-Slice.is) (λ i. ((c.may_ranges.ensures h i, tt), tt))

pub may_post-returns-in-Expanded : goal.may_post-returns-in-Expanded
may_post-returns-in-Expanded t c h = subst (λ p. MayPost c.args.rules.now (domain_posts_of (p ∷ []))) (sym c.in-Expanded.is) (λ i. (c.may_int.ensures h i, tt))

pub may_posts-loop-post-preserved : goal.may_posts-loop-post-preserved
may_posts-loop-post-preserved t c all =
    let rules = c.args.rules.now in
    let p = c.post-item.result in
    c.loop-post.invariant
    (subst (MayPost rules) (sym (domain_posts-from c.args.posts.now c.loop-post.post-index p c.loop-post-test.true c.post-item.is)) (λ i. ((c.may_post.ensures c.if-not-may_post.false i).0, all i)))

pub may_posts-returns : goal.may_posts-returns
may_posts-returns t c h = c.loop-post.invariant (subst (λ ps. MayPost c.args.rules.now (domain_posts_of ps)) (sym (drop-end c.args.posts.now c.loop-post.post-index c.loop-post-test.false)) (λ i. tt))

pub may_domain-returns-in-Created : goal.may_domain-returns-in-Created
may_domain-returns-in-Created t c h = subst (OfDomain c.args.rules.now) (sym c.in-Created.is) (λ i. (c.may_domain-in-Created.ensures h i, tt))

pub may_index-returns-then-may_int-3 : goal.may_index-returns-then-may_int-3
may_index-returns-then-may_int-3 t c h =
    subst (OfIndex c.args.rules.now) (sym c.in-Space.is)
    (λ i. (c.may_int-in-Space.ensures c.if-may_int-2.true i, (c.may_int-then-may_int-2.ensures c.if-may_int-3.true i, (c.may_int-then-may_int-3.ensures h i, tt))))

pub may_range-returns-then-may_int-2 : goal.may_range-returns-then-may_int-2
may_range-returns-then-may_int-2 t c h =
    subst (OfRange c.args.rules.now) (sym c.in-Between.is) (λ i. (c.may_int.ensures c.if-may_int.true i, c.may_int-then-may_int.ensures c.if-may_int-2.true i, c.may_stride.ensures h i))

pub may_ranges-returns-then-may_range-3 : goal.may_ranges-returns-then-may_range-3
may_ranges-returns-then-may_range-3 t c h =
    subst (OfRanges c.args.rules.now) (sym c.in-Space.is)
    (λ i. (c.may_range-in-Space.ensures c.if-may_range-2.true i, (c.may_range-then-may_range-2.ensures c.if-may_range-3.true i, (c.may_range-then-may_range-3.ensures h i, tt))))
