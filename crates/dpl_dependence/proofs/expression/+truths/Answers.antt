-- Each form of an expression, by its parts.
use Rattle.std.proofs.Common.{Some, None, refl, sym, subst, ap, ◌∙◌}
use Rattle.dpl_syntax.proofs.Walks.{drop-end}
use Rattle.dpl_lowered.specs.LoweredExpressions.{EachTurn}
use Rattle.dpl_nodes.specs.declared.tree.BoolExpr.{BoolExpr}
use Rattle.dpl_nodes.specs.declared.tree.PromotedTruth.{PromotedTruth}
use Rattle.dpl_nodes.specs.Typed.{truth_view, truth_links_of, promoted_truth, promoted_truth_links_of}
use Rattle.dpl_nodes.proofs.Chains.{truth_view-chain, truth_links-from, promoted_truth-chain, promoted_truth_links-from}
use Rattle.dpl_turns.proofs.Typed.{truth_view-fits}
use Rattle.dpl_dependence.specs.declared.turn.TurnRules.{TurnRules}
use Rattle.dpl_dependence.specs.Turns.{own_in, changes_by, MayEvaluate, MayEvaluateEach, MayLink, MayLinkEach}
use Rattle.dpl_dependence.proofs.Expressions.{grouped-fits, range-fits, index-exprs_fit}
use Rattle.dpl_dependence.proofs.expression.+truths.Goals as goal

abbrev OfTruth : TurnRules → BoolExpr → Type 0
OfTruth rules e = MayEvaluate rules (truth_view e)

abbrev OfTruths : TurnRules → PromotedTruth → Type 0
OfTruths rules e = MayEvaluateEach rules (promoted_truth EachTurn e)

pub may_truth-returns-in-Not : goal.may_truth-returns-in-Not
may_truth-returns-in-Not t c h = subst (OfTruth c.args.rules.now) (sym c.in-Not.is) (c.may_truth.ensures h)

pub may_truth-returns-then-may_truth : goal.may_truth-returns-then-may_truth
may_truth-returns-then-may_truth t c h =
    let rules = c.args.rules.now in
    let first = c.in-Chain.first in
    let links = c.in-Chain.links in
    subst (MayEvaluate rules) (sym (ap truth_view c.in-Chain.is ∙ truth_view-chain first links))
    (λ i. grouped-fits (changes_by rules) (own_in rules) i None (truth_view first.now) (truth_links_of links.now) (c.may_truth-in-Chain.ensures c.if-may_truth.true i) (c.may_truth_links.ensures h i))

pub may_truth_links-loop-link-preserved : goal.may_truth_links-loop-link-preserved
may_truth_links-loop-link-preserved t c all =
    let rules = c.args.rules.now in
    let l = c.link-item.result in
    c.loop-link.invariant
    (subst (MayLink rules) (sym (truth_links-from c.args.links.now c.loop-link.link-index l c.loop-link-test.true c.link-item.is)) (λ i. (c.may_truth.ensures c.if-not-may_truth.false i, all i)))

pub may_truth_links-returns : goal.may_truth_links-returns
may_truth_links-returns t c h = c.loop-link.invariant (subst (λ ls. MayLink c.args.rules.now (truth_links_of ls)) (sym (drop-end c.args.links.now c.loop-link.link-index c.loop-link-test.false)) (λ i. tt))

pub may_truth-returns-then-may_int : goal.may_truth-returns-then-may_int
may_truth-returns-then-may_int t c h = subst (OfTruth c.args.rules.now) (sym c.in-Compare.is) (λ i. (c.may_int.ensures c.if-may_int.true i, (c.may_int-then-may_int.ensures h i, tt)))

pub may_truth-returns-then-may_range : goal.may_truth-returns-then-may_range
may_truth-returns-then-may_range t c h = subst (OfTruth c.args.rules.now) (sym c.in-Contains.is) (λ i. (range-fits (changes_by c.args.rules.now) (own_in c.args.rules.now) i c.in-Contains.r.now (c.may_range.ensures c.if-may_range.true i), ((c.may_int-then-may_range.ensures h i, tt), tt)))

pub may_truth-returns-then-may_domain : goal.may_truth-returns-then-may_domain
may_truth-returns-then-may_domain t c h = subst (OfTruth c.args.rules.now) (sym c.in-HasIndex.is) (λ i. (c.may_domain.ensures c.if-may_domain.true i, (index-exprs_fit (changes_by c.args.rules.now) (own_in c.args.rules.now) i c.in-HasIndex.index.now (c.may_index.ensures h i), tt)))

pub may_truth-returns-then-may_read_at : goal.may_truth-returns-then-may_read_at
may_truth-returns-then-may_read_at t c h = subst (OfTruth c.args.rules.now) (sym c.in-Element.is) (λ i. (refl, ((c.may_index-then-may_read_at.ensures h i, c.may_read_at.ensures c.if-may_read_at.true), tt)))

pub may_truth-returns-in-Reduced : goal.may_truth-returns-in-Reduced
may_truth-returns-in-Reduced t c h = subst (OfTruth c.args.rules.now) (sym c.in-Reduced.is) (c.may_truths.ensures h)

pub may_truths-returns-in-Scalar : goal.may_truths-returns-in-Scalar
may_truths-returns-in-Scalar t c h = subst (OfTruths c.args.rules.now) (sym c.in-Scalar.is) (λ i j. truth_view-fits (changes_by c.args.rules.now) (own_in c.args.rules.now) i j c.in-Scalar.a.now (c.may_truth.ensures h i))

pub may_truths-returns-in-Not : goal.may_truths-returns-in-Not
may_truths-returns-in-Not t c h = subst (OfTruths c.args.rules.now) (sym c.in-Not.is) (c.may_truths.ensures h)

pub may_truths-returns-then-may_truths : goal.may_truths-returns-then-may_truths
may_truths-returns-then-may_truths t c h =
    let rules = c.args.rules.now in
    let first = c.in-Chain.first in
    let links = c.in-Chain.links in
    subst (MayEvaluateEach rules) (sym (ap (promoted_truth EachTurn) c.in-Chain.is ∙ promoted_truth-chain EachTurn first links))
    (λ i j. grouped-fits (changes_by rules) (own_in rules) i (Some j) (promoted_truth EachTurn first.now) (promoted_truth_links_of EachTurn links.now) (c.may_truths-in-Chain.ensures c.if-may_truths.true i j) (c.may_truths_links.ensures h i j))

pub may_truths_links-loop-link-preserved : goal.may_truths_links-loop-link-preserved
may_truths_links-loop-link-preserved t c all =
    let rules = c.args.rules.now in
    let l = c.link-item.result in
    c.loop-link.invariant
    (subst (MayLinkEach rules) (sym (promoted_truth_links-from EachTurn c.args.links.now c.loop-link.link-index l c.loop-link-test.true c.link-item.is))
    (λ i j. (c.may_truths.ensures c.if-not-may_truths.false i j, all i j)))

pub may_truths_links-returns : goal.may_truths_links-returns
may_truths_links-returns t c h =
    c.loop-link.invariant (subst (λ ls. MayLinkEach c.args.rules.now (promoted_truth_links_of EachTurn ls)) (sym (drop-end c.args.links.now c.loop-link.link-index c.loop-link-test.false)) (λ i j. tt))

pub may_truths-returns-then-may_ints : goal.may_truths-returns-then-may_ints
may_truths-returns-then-may_ints t c h = subst (OfTruths c.args.rules.now) (sym c.in-Compare.is) (λ i j. (c.may_ints.ensures c.if-may_ints.true i j, (c.may_ints-then-may_ints.ensures h i j, tt)))
