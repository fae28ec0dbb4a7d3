-- The turns of the body, between its reduce variables.
use Rattle.std.proofs.Common.{[], ◌∷◌, sym, subst, ap, ◌∙◌}
use Rattle.std.proofs.lemmas.Result.{err_from_is_err_and}
use Rattle.dpl_language.specs.Outcome.{Done, then_do, in_order}
use Rattle.dpl_language.specs.Ranges.{indices_in}
use Rattle.dpl_language.specs.Loops.{named_turn}
use Rattle.dpl_memory.specs.Memory.{in_memory}
use Rattle.dpl_standing.specs.Standing.{InTurn}
use Rattle.dpl_frame.specs.Frames.{Framed}
use Rattle.dpl_contents.specs.Range.{range_word}
use Rattle.dpl_nodes.specs.declared.step.Names.TheVariants.{Int as IntName}
use Rattle.dpl_loop.specs.Entries.{MayRefuse}
use Rattle.dpl_loop.proofs.Ends.{halts-where, halts-alike, then_do-halts}
use Rattle.dpl_readings.specs.Readings.{steps_in}
use Rattle.dpl_steps.specs.Contexts.{index_turn}
use Rattle.dpl_program.proofs.context.turns_of_line.Goals as goal

pub returns-clause-ends : goal.returns-clause-ends
returns-clause-ends g c done =
    let names = (IntName c.args.slot) in
    let body = steps_in InTurn c.args.body.now in
    let rs = (range_word c.args.indices.now ∷ []) in
    ap (λ (f : Framed). then_do (in_order (named_turn (index_turn f.limits names body)) (indices_in rs) f.memory done) (λ s done. Done (in_memory.intend [] s) done)) (sym c.in_ok-intend.ensures.intended)
    ∙ ap (λ o. then_do o (λ s done. Done (in_memory.intend [] s) done)) (c.in_ok-forall_line.ensures.ends done)
    ∙ ap (λ (f : Framed). Done f.memory done) (sym c.intend_none.ensures)

pub returns-in_err-forall_line-clause-ends : goal.returns-in_err-forall_line-clause-ends
returns-in_err-forall_line-clause-ends g c done =
    let names = (IntName c.args.slot) in
    let body = steps_in InTurn c.args.body.now in
    let rs = (range_word c.args.indices.now ∷ []) in
    let next = c.forall_line.new.frame.memory in
    let h = c.in_err-forall_line.field-0.0 in
    let may = g.G.Gate.may_refuse c.args.gate.now in
    let p = err_from_is_err_and c.from_residual-in_err-forall_line.result c.from_residual-in_err-forall_line.ensures.1 in
    rw (p.1, p.2)
    (halts-where (MayRefuse may c.dealt-map.result rs) _ h next done _ (subst (λ map. MayRefuse may map rs) c.dealt-map.ensures)
    (halts-alike _ h next next done _ _
    (ap (λ (f : Framed). then_do (in_order (named_turn (index_turn f.limits names body)) (indices_in rs) f.memory done) (λ s done. Done (in_memory.intend [] s) done)) (sym c.in_ok-intend.ensures.intended))
    (then_do-halts _ h next next done _ (λ s done. Done (in_memory.intend [] s) done) (c.in_err-forall_line.ensures.ends done))))
