-- The elements, by what is said of them.
use Rattle.std.proofs.Common.{sym, ap, subst}
use Rattle.dpl_language.specs.Tree.{IntKind, BoolKind}
use Rattle.dpl_language.specs.Declarations.{array_of}
use Rattle.dpl_memory.specs.Memory.{in_memory}
use Rattle.dpl_nodes.specs.declared.step.Initial.{Initial}
use Rattle.dpl_nodes.specs.Steps.{initial_kind, initial_view}
use Rattle.dpl_elements.specs.Arrays.{shell_over, array_declared_as}
use Rattle.dpl_loop.proofs.Ends.{ends-within}
use Rattle.dpl_elements.proofs.Dealing.{ends-wider}
use Rattle.dpl_simple.specs.Refusals.{EachInInitial, MayRefuseElements}
use Rattle.dpl_simple.proofs.declare.declare_over.Goals as goal

pub returns-in-Zeros-clause-ends : goal.returns-in-Zeros-clause-ends
returns-in-Zeros-clause-ends g c done =
    let d = c.args.d.now in
    ends-within _ c.declare_zeros.result c.declare_zeros.new.frame.memory done _ _
    (ap (λ (i : Initial). array_of c.args.frame.now.limits in_memory (array_declared_as (initial_kind i) d) (shell_over d.over (initial_kind i) c.args.domain) (initial_view i) c.args.frame.now.memory done) c.in-Zeros.is)
    (c.declare_zeros.ensures.ends IntKind done)

pub returns-in-Falses-clause-ends : goal.returns-in-Falses-clause-ends
returns-in-Falses-clause-ends g c done =
    let d = c.args.d.now in
    ends-within _ c.declare_zeros-in-Falses.result c.declare_zeros-in-Falses.new.frame.memory done _ _
    (ap (λ (i : Initial). array_of c.args.frame.now.limits in_memory (array_declared_as (initial_kind i) d) (shell_over d.over (initial_kind i) c.args.domain) (initial_view i) c.args.frame.now.memory done) c.in-Falses.is)
    (c.declare_zeros-in-Falses.ensures.ends BoolKind done)

pub returns-in-Ints-clause-ends : goal.returns-in-Ints-clause-ends
returns-in-Ints-clause-ends g c done =
    let d = c.args.d.now in
    ends-wider _ _ c.declare_ints.result c.declare_ints.new.frame.memory done _ _
    (subst (λ i. MayRefuseElements (g.G.Gate.may_refuse c.args.gate.now) c.args.frame.now c.args.map.now c.args.domain (EachInInitial i)) (sym c.in-Ints.is))
    (ap (λ (i : Initial). array_of c.args.frame.now.limits in_memory (array_declared_as (initial_kind i) d) (shell_over d.over (initial_kind i) c.args.domain) (initial_view i) c.args.frame.now.memory done) c.in-Ints.is)
    (c.declare_ints.ensures.ends done)

pub returns-in-Truths-clause-ends : goal.returns-in-Truths-clause-ends
returns-in-Truths-clause-ends g c done =
    let d = c.args.d.now in
    ends-wider _ _ c.declare_truths.result c.declare_truths.new.frame.memory done _ _
    (subst (λ i. MayRefuseElements (g.G.Gate.may_refuse c.args.gate.now) c.args.frame.now c.args.map.now c.args.domain (EachInInitial i)) (sym c.in-Truths.is))
    (ap (λ (i : Initial). array_of c.args.frame.now.limits in_memory (array_declared_as (initial_kind i) d) (shell_over d.over (initial_kind i) c.args.domain) (initial_view i) c.args.frame.now.memory done) c.in-Truths.is)
    (c.declare_truths.ensures.ends done)
