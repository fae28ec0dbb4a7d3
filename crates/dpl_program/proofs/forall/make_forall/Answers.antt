-- The turns of the body, between its reduce variables.
use Rattle.std.proofs.Common.{[], sym, subst, ap, ◌∙◌}
use Rattle.std.proofs.lemmas.Result.{err_from_is_err_and}
use Rattle.dpl_language.specs.Outcome.{Done, then_do, in_order}
use Rattle.dpl_language.specs.Ranges.{indices_in}
use Rattle.dpl_language.specs.Environment.{Limits}
use Rattle.dpl_language.specs.Loops.{named_turn}
use Rattle.dpl_memory.specs.Memory.{in_memory}
use Rattle.dpl_standing.specs.Standing.{InTurn}
use Rattle.dpl_frame.specs.Frames.{Framed}
use Rattle.dpl_loop.specs.Entries.{MayRefuse}
use Rattle.dpl_loop.proofs.Ends.{halts-where, halts-alike, then_do-halts}
use Rattle.dpl_readings.specs.Readings.{steps_in}
use Rattle.dpl_steps.specs.Contexts.{index_turn}
use Rattle.dpl_program.proofs.forall.make_forall.Goals as goal

pub returns-clause-ends : goal.returns-clause-ends
returns-clause-ends g c done =
    let made = c.args.made.now in
    let turn = λ (limits : Limits). named_turn (index_turn limits made.names (steps_in InTurn made.body.now)) in
    ap (λ (f : Framed). then_do (in_order (turn f.limits) (indices_in made.indices) f.memory done) (λ s done. Done (in_memory.intend [] s) done)) (sym c.in_ok-intend.ensures.intended)
    ∙ ap (λ o. then_do o (λ s done. Done (in_memory.intend [] s) done)) (c.in_ok-turns_of.ensures.ends done)
    ∙ ap (λ (f : Framed). Done f.memory done) (sym c.intend_none.ensures)

pub returns-in_err-turns_of-clause-ends : goal.returns-in_err-turns_of-clause-ends
returns-in_err-turns_of-clause-ends g c done =
    let made = c.args.made.now in
    let turn = λ (limits : Limits). named_turn (index_turn limits made.names (steps_in InTurn made.body.now)) in
    let next = c.turns_of.new.frame.memory in
    let h = c.in_err-turns_of.field-0.0 in
    let may = g.G.Gate.may_refuse c.args.gate.now in
    let p = err_from_is_err_and c.from_residual-in_err-turns_of.result c.from_residual-in_err-turns_of.ensures.1 in
    rw (p.1, p.2)
    (halts-where (MayRefuse may c.dealt-map.result made.indices) _ h next done _ (subst (λ map. MayRefuse may map made.indices) c.dealt-map.ensures)
    (halts-alike _ h next next done _ _
    (ap (λ (f : Framed). then_do (in_order (turn f.limits) (indices_in made.indices) f.memory done) (λ s done. Done (in_memory.intend [] s) done)) (sym c.in_ok-intend.ensures.intended))
    (then_do-halts _ h next next done _ (λ s done. Done (in_memory.intend [] s) done) (c.in_err-turns_of.ensures.ends done))))
