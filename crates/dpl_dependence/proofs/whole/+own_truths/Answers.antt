-- Each form of a promoted expression, by its parts.
use Rattle.std.proofs.Common.{Some, refl, sym, subst, ap, ◌∙◌}
use Rattle.dpl_syntax.proofs.Walks.{drop-end}
use Rattle.dpl_lowered.specs.LoweredExpressions.{EachTurn}
use Rattle.dpl_nodes.specs.declared.tree.PromotedTruth.{PromotedTruth}
use Rattle.dpl_nodes.specs.Typed.{promoted_truth, promoted_truth_links_of}
use Rattle.dpl_nodes.proofs.Chains.{promoted_truth-chain, promoted_truth_links-from}
use Rattle.dpl_turns.proofs.Typed.{truth_view-fits}
use Rattle.dpl_dependence.specs.declared.turn.TurnRules.{TurnRules}
use Rattle.dpl_dependence.specs.Turns.{own_in, changes_by, MayEvaluateOwn, MayLinkOwn}
use Rattle.dpl_dependence.proofs.Expressions.{grouped-fits}
use Rattle.dpl_dependence.proofs.whole.+own_truths.Goals as goal

abbrev Own : TurnRules → PromotedTruth → Type 0
Own rules e = MayEvaluateOwn rules (promoted_truth EachTurn e)

pub may_own_truths-returns-in-Scalar : goal.may_own_truths-returns-in-Scalar
may_own_truths-returns-in-Scalar t c h = subst (Own c.args.rules.now) (sym c.in-Scalar.is) (λ i. truth_view-fits (changes_by c.args.rules.now) (own_in c.args.rules.now) i i c.in-Scalar.a.now (c.may_truth.ensures h i))

pub may_own_truths-returns-in-Element : goal.may_own_truths-returns-in-Element
may_own_truths-returns-in-Element t c h = subst (Own c.args.rules.now) (sym c.in-Element.is) (λ i. (refl, λ written. refl))

pub may_own_truths-returns-in-Not : goal.may_own_truths-returns-in-Not
may_own_truths-returns-in-Not t c h = subst (Own c.args.rules.now) (sym c.in-Not.is) (c.may_own_truths.ensures h)

pub may_own_truths-returns-then-may_own_truths : goal.may_own_truths-returns-then-may_own_truths
may_own_truths-returns-then-may_own_truths t c h =
    let rules = c.args.rules.now in
    let first = c.in-Chain.first in
    let links = c.in-Chain.links in
    subst (MayEvaluateOwn rules) (sym (ap (promoted_truth EachTurn) c.in-Chain.is ∙ promoted_truth-chain EachTurn first links))
    (λ i. grouped-fits (changes_by rules) (own_in rules) i (Some i) (promoted_truth EachTurn first.now) (promoted_truth_links_of EachTurn links.now) (c.may_own_truths-in-Chain.ensures c.if-may_own_truths.true i) (c.may_own_truths_links.ensures h i))

pub may_own_truths_links-loop-link-preserved : goal.may_own_truths_links-loop-link-preserved
may_own_truths_links-loop-link-preserved t c all =
    let rules = c.args.rules.now in
    let l = c.link-item.result in
    c.loop-link.invariant
    (subst (MayLinkOwn rules) (sym (promoted_truth_links-from EachTurn c.args.links.now c.loop-link.link-index l c.loop-link-test.true c.link-item.is)) (λ i. (c.may_own_truths.ensures c.if-not-may_own_truths.false i, all i)))

pub may_own_truths_links-returns : goal.may_own_truths_links-returns
may_own_truths_links-returns t c h =
    c.loop-link.invariant (subst (λ ls. MayLinkOwn c.args.rules.now (promoted_truth_links_of EachTurn ls)) (sym (drop-end c.args.links.now c.loop-link.link-index c.loop-link-test.false)) (λ i. tt))

pub may_own_truths-returns-then-may_own_ints : goal.may_own_truths-returns-then-may_own_ints
may_own_truths-returns-then-may_own_ints t c h = subst (Own c.args.rules.now) (sym c.in-Compare.is) (λ i. (c.may_own_ints.ensures c.if-may_own_ints.true i, (c.may_own_ints-then-may_own_ints.ensures h i, tt)))
