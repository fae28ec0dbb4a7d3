-- At a place the next ints are put to the others, or one ends the loop.
-- These are the answers to the goals of `gone_on`.
use Rattle.std.proofs.Common.{◌≤◌, ◌+◌, ◌<◌, ◌^◌, inl, inr, ⊎_elim, drop, Some, sym, ap, ◌∙◌, arith, FitsSigned, w64, to_z, of_z, rules}
use Rattle.std.proofs.lemmas.Int.{to_z-of_z}
use Rattle.std.proofs.lemmas.Result.{err_from_is_err_and}
use Rattle.dpl_sets.specs.Indices.{indices}
use Rattle.dpl_array.specs.Elements.{behind}
use Rattle.dpl_language.specs.Expressions.{folded}
use Rattle.dpl_loop.specs.Folds.{in_turns}
use Rattle.dpl_loop.proofs.Folding.{folded-next, operands-next, halts-at}
use Rattle.dpl_loop.proofs.Order.{run-within}
use Rattle.dpl_loop.proofs.strips.gone_on.Goals as goal

pub returns-in_err-item-clause-folds : goal.returns-in_err-item-clause-folds
returns-in_err-item-clause-folds g c meaning answers strips =
    let op = g.O.Operator.op c.args.operator.now in
    let value = g.O.Operator.value in
    let k = c.args.place in
    let t = c.in-Some.index in
    let p = err_from_is_err_and c.from_residual.result c.from_residual.ensures.1 in
    rw (p.1, p.2)
    (halts-at op (in_turns meaning) (indices c.args.domain.now) k t (value c.args.before) (sym c.in-Some.ensures) _ _ value c.entered.new.turn c.in_err-item.field-0.0
    (λ refused. ⊎_elim (λ may. inl (k, t, sym c.in-Some.ensures, may)) (λ answered. inr answered) refused)
    (c.in_err-item.ensures value meaning answers))

pub returns-then-size-eq0-clause-folds : goal.returns-then-size-eq0-clause-folds
returns-then-size-eq0-clause-folds g c meaning answers strips =
    let op = g.O.Operator.op c.args.operator.now in
    let value = g.O.Operator.value in
    let ts = indices c.args.domain.now in
    let item_fits : FitsSigned w64 c.in_ok-item.item = search rules in
    let before_fits : FitsSigned w64 c.args.before = c.ranges.before in
    let next_fits : FitsSigned w64 c.combined.result = search rules in
    let combines = simp to_z-of_z at c.combined.ensures.combined in
    let operand = simp to_z-of_z at c.combined.ensures.operand in
    let at = sym c.in-Some.ensures in
    let is = c.in_ok-item.ensures value meaning answers in (
      folded-next op (in_turns meaning) ts c.args.place c.in-Some.index (value c.args.before) at (value c.in_ok-item.item) (value (to_z w64 (of_z w64 c.combined.result))) is
          (ap value (to_z-of_z w64 c.combined.result next_fits) ∙ combines),
      operands-next op (in_turns meaning) ts c.args.place c.in-Some.index (value c.args.before) at (value c.in_ok-item.item) is operand,
    )

pub all_enter-requires-clause-within : goal.all_enter-requires-clause-within
all_enter-requires-clause-within g c =
    run-within (indices c.args.domain.now) c.args.place c.min-size.result (λ k below. (behind k c.of-row.result.0, c.of-row.ensures.there k (omega (arith, below, c.min-size.ensures)))) c.requires.place

pub all_enter-requires-clause-fits : goal.all_enter-requires-clause-fits
all_enter-requires-clause-fits g c =
    let within = run-within (indices c.args.domain.now) c.args.place c.min-size.result (λ k below. (behind k c.of-row.result.0, c.of-row.ensures.there k (omega (arith, below, c.min-size.ensures)))) c.requires.place in
    omega (arith, within, c.requires.small)

pub overflow_add-result-2 : goal.overflow_add-result-2
overflow_add-result-2 g c =
    let within = run-within (indices c.args.domain.now) c.args.place c.min-size.result (λ k below. (behind k c.of-row.result.0, c.of-row.ensures.there k (omega (arith, below, c.min-size.ensures)))) c.requires.place in
    let fits : c.args.place + c.min-size.result < 2 ^ 64 = omega (arith, within, c.requires.small) in
    search (rules, fits)

pub returns-clause-next : goal.returns-clause-next
returns-clause-next g c =
    let within = run-within (indices c.args.domain.now) c.args.place c.min-size.result (λ k below. (behind k c.of-row.result.0, c.of-row.ensures.there k (omega (arith, below, c.min-size.ensures)))) c.requires.place in
    (omega (arith, c.if-size-eq0.false), within)

pub returns-clause-folds : goal.returns-clause-folds
returns-clause-folds g c meaning answers strips =
    let op = g.O.Operator.op c.args.operator.now in
    let value = g.O.Operator.value in
    let ts = indices c.args.domain.now in
    let strip = c.strip_at-strip.result in
    let tells = strips c.of-row.result.0 strip c.strip_at-strip.ensures in
    let before_fits : FitsSigned w64 c.args.before = c.ranges.before in
    let together_fits : FitsSigned w64 c.put_together.result = search rules in
    let together = simp to_z-of_z at c.put_together.ensures.folds in
    let row = λ (k : _) (below : _). c.of-row.ensures.there k (omega (arith, below, c.min-size.ensures)) ∙ ap (λ t. Some (behind k t)) (sym tells.0) in
    let few : c.min-size.result ≤ strip.size = omega (arith, c.min.ensures, c.min-size.ensures) in (
      ap (λ n. folded op (in_turns meaning) (drop (c.args.place + c.min-size.result) ts) (value n)) (to_z-of_z w64 c.put_together.result together_fits)
          ∙ together meaning ts c.args.place few tells.1 row,
      c.put_together.ensures.operands meaning ts c.args.place few tells.1 row,
    )
