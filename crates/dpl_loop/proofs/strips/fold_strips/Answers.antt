-- The ints of the next places are put to the others, or one ends the loop; at the end no index is left.
-- These are the answers to the goals of `fold_strips`.
use Rattle.std.proofs.Common.{◌≤◌, drop, length, sym, ap, ◌∙◌, arith, FitsSigned, w64, to_z, rules, subst}
use Rattle.std.proofs.lemmas.Int.{to_z-of_z}
use Rattle.std.proofs.lemmas.List.{drop_all}
use Rattle.std.proofs.lemmas.Result.{err_from_is_err_and}
use Rattle.dpl_sets.specs.Indices.{indices}
use Rattle.dpl_language.specs.Arithmetic.{unit_of}
use Rattle.dpl_language.specs.Expressions.{folded}
use Rattle.dpl_loop.specs.Folds.{in_turns, AreOperands}
use Rattle.dpl_loop.proofs.Folding.{halts-all}
use Rattle.dpl_loop.proofs.strips.fold_strips.Goals as goal

pub returns-then-not-serves : goal.returns-then-not-serves
returns-then-not-serves g c meaning answers strips = c.fold.ensures meaning answers

pub loop-place-preserved : goal.loop-place-preserved
loop-place-preserved g c =
    let op = g.O.Operator.op c.args.operator.now in
    let value = g.O.Operator.value in
    let ts = indices c.args.domain.now in
    let next_fits : FitsSigned w64 c.in_ok-so_far.field-0-0 = search rules in
    record {
      within = c.in_ok-so_far.ensures.next.1;
      folds = λ meaning answers strips.
          let next = c.in_ok-so_far.ensures.folds meaning answers strips in
          ap (λ n. folded op (in_turns meaning) (drop c.in_ok-so_far.field-0-1 ts) (value n)) (to_z-of_z w64 c.in_ok-so_far.field-0-0 next_fits)
          ∙ next.0
          ∙ c.loop-place.invariant.folds meaning answers strips;
      operands = λ meaning answers strips rest.
          let next = c.in_ok-so_far.ensures.folds meaning answers strips in
          c.loop-place.invariant.operands meaning answers strips (next.1 rest);
    }

pub returns-in_err-so_far : goal.returns-in_err-so_far
returns-in_err-so_far g c meaning answers strips =
    let op = g.O.Operator.op c.args.operator.now in
    let value = g.O.Operator.value in
    let ts = indices c.args.domain.now in
    let p = err_from_is_err_and c.from_residual.result c.from_residual.ensures.1 in
    rw (p.1, p.2)
    (halts-all _ _ op (in_turns meaning) ts (drop c.loop-place.place ts) (value (to_z w64 c.loop-place.so_far-bits)) (unit_of op) c.gone_on.new.turn c.in_err-so_far.field-0.0 (λ refused. refused)
    (c.loop-place.invariant.folds meaning answers strips) (c.loop-place.invariant.operands meaning answers strips) (c.in_err-so_far.ensures.folds meaning answers strips))

pub returns : goal.returns
returns g c meaning answers strips =
    let op = g.O.Operator.op c.args.operator.now in
    let value = in_turns meaning in
    let ts = indices c.args.domain.now in
    let past : length ts ≤ c.loop-place.place = omega (arith, c.size.ensures.size, c.loop-place-test.false) in
    let none = drop_all c.loop-place.place ts past in (
      sym (c.loop-place.invariant.folds meaning answers strips) ∙ ap (λ ts. folded op value ts (g.O.Operator.value (to_z w64 c.loop-place.so_far-bits))) none,
      c.loop-place.invariant.operands meaning answers strips (subst (AreOperands op value) (sym none) tt),
    )
