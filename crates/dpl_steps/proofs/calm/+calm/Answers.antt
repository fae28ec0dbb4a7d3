-- Each form of a statement, by its parts.
use Rattle.std.proofs.Common.{None, sym, ap, subst, ◌∙◌, ◌∷◌, drop}
use Rattle.dpl_syntax.proofs.Walks.{drop-at, drop-end}
use Rattle.dpl_nodes.specs.Typed.{truth_view}
use Rattle.dpl_readings.specs.Readings.{step_in, steps_in}
use Rattle.dpl_readings.proofs.Views.{block_in, if_in}
use Rattle.dpl_coming.specs.Calm.{IsCalm, AreCalm}
use Rattle.dpl_coming.proofs.CalmTrees.{expr-calm}
use Rattle.dpl_steps.proofs.CalmForms.{form-calm}
use Rattle.dpl_steps.proofs.calm.+calm.Goals as goal

pub is_calm-returns-in-Int : goal.is_calm-returns-in-Int
is_calm-returns-in-Int t c h w = form-calm w _ _ c.in-Int.is tt

pub is_calm-returns-in-Truth : goal.is_calm-returns-in-Truth
is_calm-returns-in-Truth t c h w = form-calm w _ _ c.in-Truth.is tt

pub is_calm-returns-in-SetElement : goal.is_calm-returns-in-SetElement
is_calm-returns-in-SetElement t c h w = form-calm w _ _ c.in-SetElement.is tt

pub is_calm-returns-in-Block : goal.is_calm-returns-in-Block
is_calm-returns-in-Block t c h w = subst IsCalm (sym (ap (step_in w) c.in-Block.is ∙ block_in w c.in-Block.body)) (c.are_calm.ensures h w)

pub is_calm-returns-then-are_calm : goal.is_calm-returns-then-are_calm
is_calm-returns-then-are_calm t c h w =
    let i = c.in-If in
    subst IsCalm (sym (ap (step_in w) i.is ∙ if_in w i.condition i.body i.otherwise))
    (expr-calm ⊥ (truth_view i.condition.now) None, c.are_calm-in-If.ensures c.if-are_calm.true w, c.else_is_calm.ensures h w)

pub are_calm-loop-step-preserved : goal.are_calm-loop-step-preserved
are_calm-loop-step-preserved t c w rest =
    c.loop-step.invariant w
    (subst (λ ss. AreCalm (steps_in w ss)) (sym (drop-at c.args.steps.now c.loop-step.step-index c.step-item.result c.loop-step-test.true c.step-item.is))
    (c.is_calm.ensures c.if-not-is_calm.false w, rest))

pub are_calm-returns : goal.are_calm-returns
are_calm-returns t c h w =
    c.loop-step.invariant w (subst (λ ss. AreCalm (steps_in w ss)) (sym (drop-end c.args.steps.now c.loop-step.step-index c.loop-step-test.false)) tt)
