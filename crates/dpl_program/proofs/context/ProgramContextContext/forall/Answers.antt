-- The turns of the body over the domain, between its reduce variables, as the closure makes them.
use Rattle.std.proofs.Common.{inl, inr, map, subst}
use Rattle.std.proofs.lemmas.Result.{err_from_is_err_and}
use Rattle.dpl_language.specs.Tree.{One}
use Rattle.dpl_language.specs.Values.{Domain}
use Rattle.dpl_standing.specs.Standing.{InTurn}
use Rattle.dpl_nodes.specs.Typed.{domain_view}
use Rattle.dpl_nodes.specs.Steps.{intent_view, names_view}
use Rattle.dpl_loop.specs.Entries.{MayRefuse}
use Rattle.dpl_readings.specs.Readings.{forall_of, steps_in}
use Rattle.dpl_coming.specs.Walks.{Outside}
use Rattle.dpl_coming.proofs.CalmSteps.{forall_of-calm, steps-calm}
use Rattle.dpl_coming.proofs.Walking.{walks-unseen}
use Rattle.dpl_steps.specs.Contexts.{looped_over}
use Rattle.dpl_steps.proofs.Contexts.{ends-wider}
use Rattle.dpl_frame.specs.Dealt.{dealt_by}
use Rattle.dpl_readings.specs.Written.{written_among}
use Rattle.dpl_steps.proofs.Looping.{forall-fault, forall-domain}
use Rattle.dpl_steps.proofs.Walked.{walks-unfound, looped_over-unseen}
use Rattle.dpl_program.proofs.context.ProgramContextContext.forall.Goals as goal

pub returns-clause-ends : goal.returns-clause-ends
returns-clause-ends g c =
    let f = c.args.frame.now in
    let body = steps_in InTurn c.args.body.now in
    let rs = c.in_ok-indices.indices in
    let may = g.G.Gate.may_refuse c.args.self.now.gate.now in
    walks-unseen Outside _ _ f.limits (forall_of c.args.at.now (names_view c.args.names.now) (One (domain_view c.args.over.now)) c.args.changed.now.reduced.now (steps_in InTurn c.args.body.now)) c.make.result _ f.memory c.make.new.arg3.memory
    (λ done.
    ends-wider _ _ c.make.result c.make.new.arg3.memory done _ _
    (λ entry. inl (Domain rs, c.in_ok-indices.ensures, subst (λ o. MayRefuse may (dealt_by f o (written_among body)) rs) c.origin.ensures entry))
    (forall-domain f.limits c.args.names.now body (map intent_view c.args.changed.now.reduced.now) c.args.at.now (One (domain_view c.args.over.now)) f.memory done rs c.in_ok-indices.ensures)
    ((c.requires.ready.3 _ _ _ _ c.make.ensures).0 done))
    (Unit {0}) (forall_of-calm (Unit {0}) tt c.args.at.now (names_view c.args.names.now) (One (domain_view c.args.over.now)) c.args.changed.now.reduced.now (steps_in InTurn c.args.body.now) (steps-calm (Unit {0}) InTurn absurd c.args.body.now))

pub returns-in_err-indices-clause-ends : goal.returns-in_err-indices-clause-ends
returns-in_err-indices-clause-ends g c =
    let f = c.args.frame.now in
    let item = One (domain_view c.args.over.now) in
    let p = err_from_is_err_and c.from_residual.result c.from_residual.ensures.1 in
    rw (p.1, p.2)
    (walks-unfound _ _ Domain Outside _ c.in_err-indices.field-0.0 (looped_over f.limits c.args.at.now item) _ f.memory f.memory _ inr (λ rest. looped_over-unseen Outside rest f.limits c.args.at.now item f.memory)
    (λ m d fault is. forall-fault f.limits (names_view c.args.names.now) (steps_in InTurn c.args.body.now) (map intent_view c.args.changed.now.reduced.now) c.args.at.now item m d fault is)
    c.in_err-indices.ensures)
