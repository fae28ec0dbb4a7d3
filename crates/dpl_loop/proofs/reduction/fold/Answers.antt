-- The next index's item is put to the others, or ends the loop; at the end no index is left.
use Rattle.std.proofs.Common.{◌<◌, ◌≤◌, arith, inl, inr, ⊎_elim, drop, length, slice_get, sym, subst, ap, ◌∙◌}
use Rattle.std.proofs.lemmas.List.{drop_all}
use Rattle.std.proofs.lemmas.Result.{err_from_is_err_and}
use Rattle.dpl_sets.specs.Indices.{indices}
use Rattle.dpl_language.specs.Arithmetic.{unit_of}
use Rattle.dpl_language.specs.Expressions.{folded}
use Rattle.dpl_loop.specs.Folds.{in_turns, AreOperands}
use Rattle.dpl_loop.proofs.Folding.{folded-next, operands-next, halts-at, halts-all}
use Rattle.dpl_loop.proofs.Places.{slice_get-drop_first, drop-drop_one, within-there}
use Rattle.dpl_loop.proofs.reduction.fold.Goals as goal

pub unreachable-requires : goal.unreachable-requires
unreachable-requires g c =
    let ts = indices c.args.domain.now in
    let none = sym (slice_get-drop_first ts c.loop-place.place) ∙ ap (λ ts. slice_get ts 0) (sym c.loop-place.invariant.left) ∙ sym c.next.ensures.next ∙ c.in_default.is in
    within-there ts c.loop-place.place (subst (λ n. c.loop-place.place < n) c.size-place-end.ensures.size c.loop-place-test.true) none

pub loop-place-preserved : goal.loop-place-preserved
loop-place-preserved g c =
    let op = g.O.Operator.op c.args.operator.now in
    let as_value = g.O.Operator.value in
    let ts = indices c.args.domain.now in
    let k = c.loop-place.place in
    let t = c.in-Some.index in
    let so_far = as_value c.loop-place.so_far in
    let at = sym (slice_get-drop_first ts k) ∙ ap (λ ts. slice_get ts 0) (sym c.loop-place.invariant.left) ∙ sym c.in-Some.ensures.next in
    record {
      folds = λ meaning answers.
          folded-next op (in_turns meaning) ts k t so_far at (as_value c.in_ok-item.item) (as_value c.combined-so_far.result) (c.in_ok-item.ensures as_value meaning answers) c.combined-so_far.ensures.combined
          ∙ c.loop-place.invariant.folds meaning answers;
      operands = λ meaning answers rest.
          c.loop-place.invariant.operands meaning answers
          (operands-next op (in_turns meaning) ts k t so_far at (as_value c.in_ok-item.item) (c.in_ok-item.ensures as_value meaning answers) c.combined-so_far.ensures.operand rest);
      left = c.next.ensures.rest ∙ ap (drop 1) c.loop-place.invariant.left ∙ drop-drop_one ts k;
    }

pub returns-in_err-item : goal.returns-in_err-item
returns-in_err-item g c meaning answers =
    let op = g.O.Operator.op c.args.operator.now in
    let as_value = g.O.Operator.value in
    let value = in_turns meaning in
    let ts = indices c.args.domain.now in
    let k = c.loop-place.place in
    let t = c.in-Some.index in
    let so_far = as_value c.loop-place.so_far in
    let at = sym (slice_get-drop_first ts k) ∙ ap (λ ts. slice_get ts 0) (sym c.loop-place.invariant.left) ∙ sym c.in-Some.ensures.next in
    let p = err_from_is_err_and c.from_residual.result c.from_residual.ensures.1 in
    rw (p.1, p.2)
    (halts-all _ _ op value ts (drop k ts) so_far (unit_of op) c.entered.new.turn c.in_err-item.field-0.0 (λ refused. refused) (c.loop-place.invariant.folds meaning answers) (c.loop-place.invariant.operands meaning answers)
    (halts-at op value ts k t so_far at _ _ as_value c.entered.new.turn c.in_err-item.field-0.0 (λ refused. ⊎_elim (λ may. inl (k, t, at, may)) (λ answered. inr answered) refused)
    (c.in_err-item.ensures as_value meaning answers)))

pub returns : goal.returns
returns g c meaning answers =
    let op = g.O.Operator.op c.args.operator.now in
    let value = in_turns meaning in
    let ts = indices c.args.domain.now in
    let so_far = g.O.Operator.value c.loop-place.so_far in
    let past : length ts ≤ c.loop-place.place = omega (arith, c.size-place-end.ensures.size, c.loop-place-test.false) in
    let none = drop_all c.loop-place.place ts past in (
      sym (c.loop-place.invariant.folds meaning answers) ∙ ap (λ ts. folded op value ts so_far) none,
      c.loop-place.invariant.operands meaning answers (subst (AreOperands op value) (sym none) tt),
    )
