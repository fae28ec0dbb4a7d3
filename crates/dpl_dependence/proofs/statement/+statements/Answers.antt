-- Each form of a statement, by its parts.
use Rattle.std.proofs.Common.{sym, ap, subst, ◌∙◌}
use Rattle.dpl_standing.specs.Standing.{InTurn}
use Rattle.dpl_nodes.specs.declared.step.Else.{Else}
use Rattle.dpl_nodes.specs.Typed.{truth_view}
use Rattle.dpl_readings.specs.Readings.{step_in, else_in, steps_in}
use Rattle.dpl_readings.proofs.Views.{block_in, if_in, headed_in}
use Rattle.dpl_turns.specs.Bodies.{IsOwn}
use Rattle.dpl_turns.proofs.Steps.{int-element, block-stands, else-stands, if-stands, headed-stands}
use Rattle.dpl_dependence.specs.Turns.{own_in, changes_by, MayStand, ElseMayStand}
use Rattle.dpl_dependence.proofs.Expressions.{index-same, index-exprs_fit}
use Rattle.dpl_dependence.proofs.Statements.{steps-next, steps-end}
use Rattle.dpl_dependence.proofs.statement.+statements.Goals as goal

pub all_may_stand-loop-step-preserved : goal.all_may_stand-loop-step-preserved
all_may_stand-loop-step-preserved t c all =
    c.loop-step.invariant
    (steps-next c.args.rules.now c.args.steps.now c.loop-step.step-index c.step-item.result c.loop-step-test.true c.step-item.is (c.may_stand.ensures c.if-not-may_stand.false) all)

pub all_may_stand-returns : goal.all_may_stand-returns
all_may_stand-returns t c h = c.loop-step.invariant (steps-end c.args.rules.now c.args.steps.now c.loop-step.step-index c.loop-step-test.false)

pub else_may_stand-returns-in-Do : goal.else_may_stand-returns-in-Do
else_may_stand-returns-in-Do t c h =
    subst (λ (o : Else). ElseMayStand c.args.rules.now (else_in InTurn o)) (sym c.in-Do.is)
    (λ i. else-stands (changes_by c.args.rules.now) (own_in c.args.rules.now) i (step_in InTurn c.in-Do.step.now) (c.may_stand.ensures h i))

pub may_stand-returns-then-may_take_int : goal.may_stand-returns-then-may_take_int
may_stand-returns-then-may_take_int t c h =
    subst (λ s. MayStand c.args.rules.now (step_in InTurn s)) (sym c.in-Int.is) (c.may_take_int.ensures c.if-may_take_int.true c.in-Int.e.now (c.may_int.ensures h))

pub may_stand-returns-then-may_take_truth : goal.may_stand-returns-then-may_take_truth
may_stand-returns-then-may_take_truth t c h =
    subst (λ s. MayStand c.args.rules.now (step_in InTurn s)) (sym c.in-Truth.is) (c.may_take_truth.ensures c.if-may_take_truth.true c.in-Truth.e.now (c.may_truth.ensures h))

pub may_stand-returns-then-may_index : goal.may_stand-returns-then-may_index
may_stand-returns-then-may_index t c h =
    let rules = c.args.rules.now in
    let s = c.in-SetElement in
    subst (λ s. MayStand rules (step_in InTurn s)) (sym s.is)
    (λ i. int-element (changes_by rules) (own_in rules) i s.name.now s.index.now s.field-2 s.field-3.now s.e.now
    (c.may_write_at.ensures.written c.if-may_write_at.true)
    (subst (IsOwn (own_in rules)) (sym (index-same s.index.now)) (c.may_write_at.ensures.own c.if-may_write_at.true))
    (index-exprs_fit (changes_by rules) (own_in rules) i s.index.now (c.may_index.ensures c.if-may_index.true i))
    (c.may_int-then-may_index.ensures h i))

pub may_stand-returns-in-Block : goal.may_stand-returns-in-Block
may_stand-returns-in-Block t c h =
    let rules = c.args.rules.now in
    let body = c.in-Block.body in
    subst (MayStand rules) (sym (ap (step_in InTurn) c.in-Block.is ∙ block_in InTurn body))
    (λ i. block-stands (changes_by rules) (own_in rules) i (steps_in InTurn body.now) (c.all_may_stand.ensures h i))

pub may_stand-returns-then-all_may_stand : goal.may_stand-returns-then-all_may_stand
may_stand-returns-then-all_may_stand t c h =
    let rules = c.args.rules.now in
    let s = c.in-If in
    subst (MayStand rules) (sym (ap (step_in InTurn) s.is ∙ if_in InTurn s.condition s.body s.otherwise))
    (λ i. if-stands (changes_by rules) (own_in rules) i (truth_view s.condition.now) (steps_in InTurn s.body.now) (else_in InTurn s.otherwise)
    (c.may_truth-in-If.ensures c.if-may_truth.true i) (c.all_may_stand-then-may_truth.ensures c.if-all_may_stand.true i) (c.else_may_stand.ensures h i))

pub may_stand-returns-then-may_truth-2 : goal.may_stand-returns-then-may_truth-2
may_stand-returns-then-may_truth-2 t c h =
    let rules = c.args.rules.now in
    let s = c.in-Headed in
    subst (MayStand rules) (sym (ap (step_in InTurn) s.is ∙ headed_in InTurn s.word s.at s.condition s.body))
    (λ i. headed-stands (changes_by rules) (own_in rules) i s.word s.at.now (truth_view s.condition.now) (steps_in InTurn s.body.now)
    (c.may_truth-in-Headed.ensures c.if-may_truth-2.true i) (c.all_may_stand-then-may_truth-2.ensures h i))
