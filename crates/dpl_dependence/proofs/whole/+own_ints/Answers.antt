-- Each form of a promoted expression, by its parts.
use Rattle.std.proofs.Common.{Some, refl, sym, subst, ap, ◌∙◌}
use Rattle.dpl_syntax.proofs.Walks.{drop-end}
use Rattle.dpl_lowered.specs.LoweredExpressions.{EachTurn}
use Rattle.dpl_nodes.specs.declared.tree.PromotedInt.{PromotedInt}
use Rattle.dpl_nodes.specs.Typed.{promoted_int, promoted_int_links_of}
use Rattle.dpl_nodes.proofs.Chains.{promoted_int-chain, promoted_int_links-from}
use Rattle.dpl_turns.proofs.Typed.{int_view-fits}
use Rattle.dpl_dependence.specs.declared.turn.TurnRules.{TurnRules}
use Rattle.dpl_dependence.specs.Turns.{own_in, changes_by, MayEvaluateOwn, MayLinkOwn}
use Rattle.dpl_dependence.proofs.Expressions.{grouped-fits}
use Rattle.dpl_dependence.proofs.whole.+own_ints.Goals as goal

abbrev Own : TurnRules → PromotedInt → Type 0
Own rules e = MayEvaluateOwn rules (promoted_int EachTurn e)

pub may_own_ints-returns-in-Scalar : goal.may_own_ints-returns-in-Scalar
may_own_ints-returns-in-Scalar t c h = subst (Own c.args.rules.now) (sym c.in-Scalar.is) (λ i. int_view-fits (changes_by c.args.rules.now) (own_in c.args.rules.now) i i c.in-Scalar.a.now (c.may_int.ensures h i))

pub may_own_ints-returns-in-Element : goal.may_own_ints-returns-in-Element
may_own_ints-returns-in-Element t c h = subst (Own c.args.rules.now) (sym c.in-Element.is) (λ i. (refl, λ written. refl))

pub may_own_ints-returns-in-Negative : goal.may_own_ints-returns-in-Negative
may_own_ints-returns-in-Negative t c h = subst (Own c.args.rules.now) (sym c.in-Negative.is) (c.may_own_ints.ensures h)

pub may_own_ints-returns-then-may_own_ints : goal.may_own_ints-returns-then-may_own_ints
may_own_ints-returns-then-may_own_ints t c h =
    let rules = c.args.rules.now in
    let first = c.in-Chain.first in
    let links = c.in-Chain.links in
    subst (MayEvaluateOwn rules) (sym (ap (promoted_int EachTurn) c.in-Chain.is ∙ promoted_int-chain EachTurn first links))
    (λ i. grouped-fits (changes_by rules) (own_in rules) i (Some i) (promoted_int EachTurn first.now) (promoted_int_links_of EachTurn links.now) (c.may_own_ints-in-Chain.ensures c.if-may_own_ints.true i) (c.may_own_ints_links.ensures h i))

pub may_own_ints_links-loop-link-preserved : goal.may_own_ints_links-loop-link-preserved
may_own_ints_links-loop-link-preserved t c all =
    let rules = c.args.rules.now in
    let l = c.link-item.result in
    c.loop-link.invariant
    (subst (MayLinkOwn rules) (sym (promoted_int_links-from EachTurn c.args.links.now c.loop-link.link-index l c.loop-link-test.true c.link-item.is)) (λ i. (c.may_own_ints.ensures c.if-not-may_own_ints.false i, all i)))

pub may_own_ints_links-returns : goal.may_own_ints_links-returns
may_own_ints_links-returns t c h =
    c.loop-link.invariant (subst (λ ls. MayLinkOwn c.args.rules.now (promoted_int_links_of EachTurn ls)) (sym (drop-end c.args.links.now c.loop-link.link-index c.loop-link-test.false)) (λ i. tt))
