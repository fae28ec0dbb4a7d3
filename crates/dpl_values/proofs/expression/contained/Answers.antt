-- Whether a range has an int is by the values of both.
-- These are the answers to the goals of `contained`.
use Rattle.std.proofs.Common.{ℕ, rules, ◌∙◌}
use Rattle.std.proofs.lemmas.Result.{err_from_is_err_and}
use Rattle.dpl_language.specs.Values.{Int, Truth}
use Rattle.dpl_nodes.specs.Typed.{int_view}
use Rattle.dpl_contents.specs.Range.{range_word}
use Rattle.dpl_values.specs.Reductions.{MayRefuseReduction, EachInInt, EachInRange, EachInContained}
use Rattle.dpl_values.proofs.Telling.{refused-within}
use Rattle.dpl_values.proofs.Views.{method_ends, containing, contains_ends, contains_answer}
use Rattle.dpl_values.proofs.expression.contained.Goals as goal

pub returns-in_err-range : goal.returns-in_err-range
returns-in_err-range g c =
    let limits = c.args.frame.now.limits in
    let w = c.args.frame.now.memory in
    let may = λ (each : (ℕ → Type 0) → Type 0). MayRefuseReduction (g.G.Gate.may_refuse c.args.gate.now) c.args.frame.now each in
    let wider = refused-within (g.G.Gate.may_refuse c.args.gate.now) c.args.frame.now in
    let p = err_from_is_err_and c.from_residual.result c.from_residual.ensures.1 in
    rw (p.1, p.2)
    (method_ends limits w (may (EachInRange c.args.r.now)) _ (wider (EachInRange c.args.r.now) (EachInContained c.args.r.now c.args.i.now) (λ Holds all. all.0)) Truth c.range_value.new.turn
    c.in_err-range.field-0.0 c.args.r.now (containing (int_view c.args.i.now)) c.in_err-range.ensures)

pub returns-in_err-i : goal.returns-in_err-i
returns-in_err-i g c =
    let limits = c.args.frame.now.limits in
    let w = c.args.frame.now.memory in
    let may = λ (each : (ℕ → Type 0) → Type 0). MayRefuseReduction (g.G.Gate.may_refuse c.args.gate.now) c.args.frame.now each in
    let wider = refused-within (g.G.Gate.may_refuse c.args.gate.now) c.args.frame.now in
    let p = err_from_is_err_and c.from_residual-in_err-i.result c.from_residual-in_err-i.ensures.1 in
    rw (p.1, p.2)
    (contains_ends limits w (may (EachInInt c.args.i.now)) _ (wider (EachInInt c.args.i.now) (EachInContained c.args.r.now c.args.i.now) (λ Holds all. all.1)) Int Truth c.operand.new.turn c.in_err-i.field-0.0
    c.args.r.now (int_view c.args.i.now) (range_word c.in_ok-range.range) c.in_ok-range.ensures c.in_err-i.ensures)

pub returns : goal.returns
returns g c =
    contains_answer c.args.frame.now.limits c.args.frame.now.memory c.args.r.now (int_view c.args.i.now) (range_word c.in_ok-range.range) c.in_ok-i.i c.in_ok-range.ensures c.in_ok-i.ensures
    ∙ search rules
