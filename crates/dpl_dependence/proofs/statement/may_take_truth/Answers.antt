-- By what the truth value is put to.
use Rattle.std.proofs.Common.{◌≡◌, sym, ap, subst, ◌∙◌}
use Rattle.dpl_language.specs.Tree.{Set, SetReduce}
use Rattle.dpl_lowered.specs.Shapes.{nowhere}
use Rattle.dpl_nodes.specs.declared.step.TruthTarget.{TruthTarget}
use Rattle.dpl_nodes.specs.declared.step.TruthTarget.TheVariants.{Slot}
use Rattle.dpl_nodes.specs.declared.step.TruthDeed.TheVariants.{Reduce}
use Rattle.dpl_nodes.specs.Steps.{truth_stated}
use Rattle.dpl_turns.specs.Bodies.{IsOwn}
use Rattle.dpl_turns.proofs.Steps.{truth-assigned, truth-element}
use Rattle.dpl_dependence.specs.Turns.{own_in, changes_by, MayTakeTruths}
use Rattle.dpl_dependence.proofs.Expressions.{index-same, index-exprs_fit}
use Rattle.dpl_dependence.proofs.statement.may_take_truth.Goals as goal

pub returns-in-Slot-Reduce-default : goal.returns-in-Slot-Reduce-default
returns-in-Slot-Reduce-default c h =
    let rules = c.args.rules.now in
    let slot = c.in-Slot-Reduce-default.slot in
    let deed = rw c.in-Slot-Reduce-default.is at c.in-Slot-Reduce-default.field-0-is in
    let is : c.args.target.now ≡ Slot Reduce slot = c.in-Slot-Reduce-default.is ∙ ap (λ d. Slot d slot) deed in
    subst (λ (g : TruthTarget). MayTakeTruths rules (truth_stated g)) (sym is)
    (λ e may t. truth-assigned (changes_by rules) (own_in rules) t slot SetReduce nowhere e (c.may_add_truth.ensures h) (may t))

pub returns-then-may_write_at : goal.returns-then-may_write_at
returns-then-may_write_at c h =
    let rules = c.args.rules.now in
    let g = c.in-Element in
    subst (λ (g : TruthTarget). MayTakeTruths rules (truth_stated g)) (sym g.is)
    (λ e may t. truth-element (changes_by rules) (own_in rules) t g.name.now g.index.now Set nowhere e
    (c.may_write_at.ensures.written c.if-may_write_at.true)
    (subst (IsOwn (own_in rules)) (sym (index-same g.index.now)) (c.may_write_at.ensures.own c.if-may_write_at.true))
    (index-exprs_fit (changes_by rules) (own_in rules) t g.index.now (c.may_index.ensures h t))
    (may t))
