-- Truth values put side by side are the turns one after another; the variables hold the index of the last one.
-- These are the answers to the goals of `truth_row`.
use Rattle.std.proofs.Common.{◌≡◌, ◌-◌, suc, ℕ, arith, refl, ap, sym, subst, ◌∙◌}
use Rattle.dpl_array.specs.Elements.{behind}
use Rattle.dpl_language.specs.Tree.{Set, NoStmts, Then}
use Rattle.dpl_memory.specs.Memory.{Memory}
use Rattle.dpl_nodes.specs.Typed.{truth_view}
use Rattle.dpl_nodes.specs.Steps.{truth_stated}
use Rattle.dpl_frame.specs.Frames.{Framed}
use Rattle.dpl_loop.specs.Runs.{AreDone}
use Rattle.dpl_readings.specs.Readings.{step_in}
use Rattle.dpl_elements.specs.Turns.{bound_at, index_turn}
use Rattle.dpl_elements.proofs.BoundAgain.{bound_at-over}
use Rattle.dpl_elements.proofs.RowTurns.{none-done, truths-done, truths-made}
use Rattle.dpl_batches.proofs.turn.truth_row.Goals as goal

pub returns-then-not-has_room-clause-done : goal.returns-then-not-has_room-clause-done
returns-then-not-has_room-clause-done g c w = none-done _ c.args.row c.args.frame.now.memory

pub returns-in_default-clause-done : goal.returns-in_default-clause-done
returns-in_default-clause-done g c w = none-done _ c.args.row c.args.frame.now.memory

pub returns-in_default-target-clause-done : goal.returns-in_default-target-clause-done
returns-in_default-target-clause-done g c w = none-done _ c.args.row c.args.frame.now.memory

pub returns-in_default-element_row-clause-done : goal.returns-in_default-element_row-clause-done
returns-in_default-element_row-clause-done g c w = none-done _ c.args.row c.args.frame.now.memory

pub returns-then-made-gt0-clause-done : goal.returns-then-made-gt0-clause-done
returns-then-made-gt0-clause-done g c w =
    let f = c.args.frame.now in
    let names = c.args.names.now in
    let first = c.args.row in
    let made = c.put_row-made.result in
    let last : ℕ = made - 1 in
    let put = c.put_row-made.ensures.put in
    let some : made ≡ suc last = omega (arith, c.if-made-gt0.true) in
    let x = c.in-Element in
    let e = c.in-Truth.e.now in
    let turn = index_turn f.limits names (Then (step_in w c.args.step.now) NoStmts) in
    let memory =
    ap (λ (f : Framed). f.memory) c.bind.ensures
    ∙ ap (λ t. bound_at names t c.put_row-made.new.frame.memory) c.behind.ensures
    ∙ ap (λ (f : Framed). bound_at names (behind last first) f.memory) put.1
    ∙ bound_at-over names (behind last first) f.memory put.0 in
    subst (λ (m : Memory). AreDone turn first made f.memory m) (sym memory)
    (subst (λ t. AreDone (index_turn f.limits names (Then (step_in w t) NoStmts)) first made f.memory (record (bound_at names (behind last first) f.memory) { arrays = put.0 })) (sym c.in-Truth.is)
    (subst (λ target. AreDone (index_turn f.limits names (Then (truth_stated target (truth_view e)) NoStmts)) first made f.memory (record (bound_at names (behind last first) f.memory) { arrays = put.0 })) (sym x.is)
    (truths-made f.limits names x.name.now x.index.now Set x.name.now.at.now first c.in-Some.at c.turn_truths.new.strip made f.memory put.0 put.2
    c.turn_truths.ensures.row c.put_row-made.ensures.strip c.put_row-made.ensures.cap c.in-Some.ensures e c.turn_truths.ensures.values refl (λ old new. refl) last some)))

pub returns-else-made-gt0-clause-done : goal.returns-else-made-gt0-clause-done
returns-else-made-gt0-clause-done g c w =
    let f = c.args.frame.now in
    let names = c.args.names.now in
    let first = c.args.row in
    let made = c.put_row-made.result in
    let put = c.put_row-made.ensures.put in
    let none : made ≡ 0 = omega (arith, c.if-made-gt0.false) in
    let x = c.in-Element in
    let e = c.in-Truth.e.now in
    let turn = index_turn f.limits names (Then (step_in w c.args.step.now) NoStmts) in
    subst (λ (m : Memory). AreDone turn first made f.memory m) (sym (ap (λ (f : Framed). f.memory) put.1))
    (subst (λ t. AreDone (index_turn f.limits names (Then (step_in w t) NoStmts)) first made f.memory (record f.memory { arrays = put.0 })) (sym c.in-Truth.is)
    (subst (λ target. AreDone (index_turn f.limits names (Then (truth_stated target (truth_view e)) NoStmts)) first made f.memory (record f.memory { arrays = put.0 })) (sym x.is)
    (truths-done f.limits names x.name.now x.index.now Set x.name.now.at.now first c.in-Some.at c.turn_truths.new.strip made f.memory put.0 put.2
    c.turn_truths.ensures.row c.put_row-made.ensures.strip c.put_row-made.ensures.cap c.in-Some.ensures e c.turn_truths.ensures.values refl (λ old new. refl) none)))
