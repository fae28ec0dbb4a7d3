-- By what is done to the int.
use Rattle.std.proofs.Common.{sym, subst}
use Rattle.dpl_language.specs.Tree.{SetAdd, SetMultiply, SetReduce}
use Rattle.dpl_lowered.specs.Shapes.{nowhere}
use Rattle.dpl_nodes.specs.declared.step.IntDeed.{IntDeed}
use Rattle.dpl_nodes.specs.Steps.{int_changed}
use Rattle.dpl_turns.proofs.Steps.{int-assigned}
use Rattle.dpl_dependence.specs.Turns.{own_in, changes_by, MayTakeInts}
use Rattle.dpl_dependence.proofs.statement.may_take_int.Goals as goal

pub returns-in-Add : goal.returns-in-Add
returns-in-Add c h =
    subst (λ (d : IntDeed). MayTakeInts c.args.rules.now (int_changed d c.args.slot)) (sym c.in-Add.is)
    (λ e may t. int-assigned (changes_by c.args.rules.now) (own_in c.args.rules.now) t c.args.slot SetAdd nowhere e (c.may_add.ensures h) (may t))

pub returns-in-Multiply : goal.returns-in-Multiply
returns-in-Multiply c h =
    subst (λ (d : IntDeed). MayTakeInts c.args.rules.now (int_changed d c.args.slot)) (sym c.in-Multiply.is)
    (λ e may t. int-assigned (changes_by c.args.rules.now) (own_in c.args.rules.now) t c.args.slot SetMultiply nowhere e (c.may_add-in-Multiply.ensures h) (may t))

pub returns-in-Reduce : goal.returns-in-Reduce
returns-in-Reduce c h =
    subst (λ (d : IntDeed). MayTakeInts c.args.rules.now (int_changed d c.args.slot)) (sym c.in-Reduce.is)
    (λ e may t. int-assigned (changes_by c.args.rules.now) (own_in c.args.rules.now) t c.args.slot SetReduce nowhere e (c.may_add-in-Reduce.ensures h) (may t))
