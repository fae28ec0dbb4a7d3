-- A right side with a whole array is evaluated at each index, and one without once.
use Rattle.std.proofs.Common.{◌⊎◌, inl, Some, None, subst}
use Rattle.dpl_language.specs.Tree.{IntKind}
use Rattle.dpl_lowered.specs.LoweredExpressions.{EachTurn}
use Rattle.dpl_nodes.specs.Typed.{promoted_int}
use Rattle.dpl_frame.specs.Frames.{owned_by}
use Rattle.dpl_loop.specs.Entries.{MayRefuse}
use Rattle.dpl_values.specs.Reductions.{MayRefuseReduction, EachInInts}
use Rattle.dpl_elements.proofs.Dealing.{ends-wider}
use Rattle.dpl_elements.proofs.Wholes.{exec-whole_set}
use Rattle.dpl_elements.proofs.whole.set_array.Goals as goal

pub returns-in-None-clause-ends : goal.returns-in-None-clause-ends
returns-in-None-clause-ends g c done =
    let may = g.C.Gate.may_refuse c.args.crew.now in
    let f = c.args.frame.now in
    let map = owned_by f c.args.name.now.slot in
    ends-wider _ _ c.set_once.result c.set_once.new.frame.memory done _ _ (subst (λ rs. MayRefuse may map rs ⊎ MayRefuseReduction may f (EachInInts c.args.e.now)) c.array_domain-domain.ensures)
    (exec-whole_set c.args.frame.now.limits IntKind c.args.name.now c.args.op c.args.sign.now (promoted_int EachTurn c.args.e.now) c.args.frame.now.memory done c.array_domain-domain.result None
    c.array_domain-domain.ensures c.in-None.ensures)
    (c.set_once.ensures.ends done)

pub returns-in-Some-clause-ends : goal.returns-in-Some-clause-ends
returns-in-Some-clause-ends g c done =
    let may = g.C.Gate.may_refuse c.args.crew.now in
    let f = c.args.frame.now in
    let map = owned_by f c.args.name.now.slot in
    ends-wider _ _ c.set_each.result c.set_each.new.frame.memory done _ _ (λ entry. inl (subst (MayRefuse may map) c.array_domain-domain.ensures entry))
    (exec-whole_set c.args.frame.now.limits IntKind c.args.name.now c.args.op c.args.sign.now (promoted_int EachTurn c.args.e.now) c.args.frame.now.memory done c.array_domain-domain.result (Some c.in-Some.field-0)
    c.array_domain-domain.ensures c.in-Some.ensures)
    (c.set_each.ensures.ends c.in-Some.field-0 done)
