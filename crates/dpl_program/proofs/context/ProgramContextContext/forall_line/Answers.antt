-- The turns of the body over the range, between its reduce variables: as the closure makes them over the domain of this range, or by the caller.
use Rattle.std.proofs.Common.{◌≡◌, None, [], ◌∷◌, inl, inr, map, sym, subst, ap, ◌∙◌}
use Rattle.std.proofs.lemmas.Result.{err_from_is_err_and}
use Rattle.dpl_language.specs.Values.{Range}
use Rattle.dpl_language.specs.Ranges.{indices_in}
use Rattle.dpl_standing.specs.Standing.{InTurn}
use Rattle.dpl_nodes.specs.Typed.{range_item}
use Rattle.dpl_nodes.specs.Steps.{intent_view, variable_in}
use Rattle.dpl_nodes.specs.declared.step.Names.TheVariants.{Int as IntName}
use Rattle.dpl_contents.specs.Range.{range_word}
use Rattle.dpl_frame.specs.Faults.{as_range}
use Rattle.dpl_loop.specs.Entries.{MayRefuse}
use Rattle.dpl_readings.specs.Readings.{forall_of, steps_in}
use Rattle.dpl_coming.specs.Walks.{Outside}
use Rattle.dpl_coming.proofs.CalmSteps.{forall_of-calm, steps-calm}
use Rattle.dpl_coming.proofs.Walking.{walks-unseen}
use Rattle.dpl_steps.specs.Contexts.{index_turn, intended_turns, looped_over}
use Rattle.dpl_steps.proofs.Contexts.{ends-wider}
use Rattle.dpl_frame.specs.Dealt.{dealt_by}
use Rattle.dpl_readings.specs.Written.{written_among}
use Rattle.dpl_steps.proofs.Looping.{forall-fault, forall-range}
use Rattle.dpl_steps.proofs.Walked.{walks-unfound, looped_over-unseen}
use Rattle.dpl_program.proofs.context.ProgramContextContext.forall_line.Goals as goal

pub returns-in_default-clause-ends : goal.returns-in_default-clause-ends
returns-in_default-clause-ends g c =
    let f = c.args.frame.now in
    let r = range_word c.in_ok-range.range in
    walks-unseen Outside _ _ f.limits (forall_of c.args.at.now (variable_in c.args.slot) (range_item c.args.over.now) c.args.changed.now.reduced.now (steps_in InTurn c.args.body.now)) c.turns_of_line.result _ f.memory c.turns_of_line.new.frame.memory
    (λ done.
    ends-wider _ _ c.turns_of_line.result c.turns_of_line.new.frame.memory done _ _ (λ entry. inl (Range r, c.in_ok-range.ensures, entry))
    (forall-range f.limits (IntName c.args.slot) (steps_in InTurn c.args.body.now) (map intent_view c.args.changed.now.reduced.now) c.args.at.now (range_item c.args.over.now) f.memory done r c.in_ok-range.ensures)
    (c.turns_of_line.ensures.ends done))
    (Unit {0}) (forall_of-calm (Unit {0}) tt c.args.at.now (variable_in c.args.slot) (range_item c.args.over.now) c.args.changed.now.reduced.now (steps_in InTurn c.args.body.now) (steps-calm (Unit {0}) InTurn absurd c.args.body.now))

pub returns-clause-ends : goal.returns-clause-ends
returns-clause-ends g c =
    let f = c.args.frame.now in
    let body = steps_in InTurn c.args.body.now in
    let intents = map intent_view c.args.changed.now.reduced.now in
    let r = range_word c.in_ok-range.range in
    let may = g.G.Gate.may_refuse c.args.self.now.gate.now in
    let same : c.in-Some.indices ≡ r ∷ [] = c.in-Some.ensures.held in
    walks-unseen Outside _ _ f.limits (forall_of c.args.at.now (variable_in c.args.slot) (range_item c.args.over.now) c.args.changed.now.reduced.now (steps_in InTurn c.args.body.now)) c.make.result _ f.memory c.make.new.arg3.memory
    (λ done.
    ends-wider _ _ c.make.result c.make.new.arg3.memory done _ _
    (λ entry. inl (Range r, c.in_ok-range.ensures, subst (λ rs. MayRefuse may (dealt_by f None (written_among body)) rs) same entry))
    (forall-range f.limits (IntName c.args.slot) body intents c.args.at.now (range_item c.args.over.now) f.memory done r c.in_ok-range.ensures
    ∙ ap (λ rs. intended_turns intents (index_turn f.limits (IntName c.args.slot) body) (indices_in rs) f.memory done) (sym same))
    ((c.requires.ready.3 _ _ _ _ c.make.ensures).0 done))
    (Unit {0}) (forall_of-calm (Unit {0}) tt c.args.at.now (variable_in c.args.slot) (range_item c.args.over.now) c.args.changed.now.reduced.now (steps_in InTurn c.args.body.now) (steps-calm (Unit {0}) InTurn absurd c.args.body.now))

pub returns-in_err-range-clause-ends : goal.returns-in_err-range-clause-ends
returns-in_err-range-clause-ends g c =
    let f = c.args.frame.now in
    let item = range_item c.args.over.now in
    let p = err_from_is_err_and c.from_residual.result c.from_residual.ensures.1 in
    rw (p.1, p.2)
    (walks-unfound _ _ as_range Outside _ c.in_err-range.field-0.0 (looped_over f.limits c.args.at.now item) _ f.memory f.memory _ inr (λ rest. looped_over-unseen Outside rest f.limits c.args.at.now item f.memory)
    (λ m d fault is. forall-fault f.limits (variable_in c.args.slot) (steps_in InTurn c.args.body.now) (map intent_view c.args.changed.now.reduced.now) c.args.at.now item m d fault is)
    c.in_err-range.ensures)
