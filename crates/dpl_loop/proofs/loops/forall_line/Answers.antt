-- The turn of the next index is made, or ends the loop; at the end no index is left.
use Rattle.std.proofs.Common.{◌<◌, ◌≤◌, arith, [], ◌∷◌, length, sym, subst, ap, ◌∙◌}
use Rattle.std.proofs.lemmas.List.{drop_all}
use Rattle.std.proofs.lemmas.Result.{err_from_is_err_and}
use Rattle.dpl_map.specs.Maps.{owner}
use Rattle.dpl_language.specs.Outcome.{in_order}
use Rattle.dpl_language.specs.Ranges.{indices_in}
use Rattle.dpl_language.specs.Loops.{named_turn}
use Rattle.dpl_contents.specs.Range.{range_word}
use Rattle.dpl_loop.proofs.Ends.{halts-where, halts-alike}
use Rattle.dpl_loop.proofs.Order.{order-done, order-halts}
use Rattle.dpl_loop.proofs.Lines.{line-length, line-there}
use Rattle.dpl_loop.proofs.loops.forall_line.Goals as goal

pub unreachable-requires : goal.unreachable-requires
unreachable-requires g c =
    let r = range_word c.args.over.now in
    line-there r c.loop-place.place (subst (λ n. c.loop-place.place < n) c.size-place-end.ensures.length c.loop-place-test.true) (sym c.at.ensures ∙ c.in_default-at.is)

pub loop-place-preserved : goal.loop-place-preserved
loop-place-preserved g c =
    let turn = named_turn (g.T.Turns.turn c.args.turns.now c.args.frame.now.limits) in
    let ts = indices_in (range_word c.args.over.now ∷ []) in
    let s = c.loop-place.frame.memory in
    let at = sym c.at.ensures ∙ c.in-Some.is in
    record {
      ends = λ done.
          order-done turn ts c.loop-place.place c.in-Some.index s c.entered.new.frame.memory done done at
          (ap (λ l. named_turn (g.T.Turns.turn c.args.turns.now l) c.in-Some.index s done) (sym c.loop-place.invariant.limits) ∙ c.in_ok-entered.ensures.ends done)
          ∙ c.loop-place.invariant.ends done;
      limits = c.in_ok-entered.ensures.limits ∙ c.loop-place.invariant.limits;
    }

pub returns-in_err-entered-clause-ends : goal.returns-in_err-entered-clause-ends
returns-in_err-entered-clause-ends g c done =
    let turn = named_turn (g.T.Turns.turn c.args.turns.now c.args.frame.now.limits) in
    let ts = indices_in (range_word c.args.over.now ∷ []) in
    let s = c.loop-place.frame.memory in
    let next = c.entered.new.frame.memory in
    let h = c.in_err-entered.field-0.0 in
    let at = sym c.at.ensures ∙ c.in-Some.is in
    let may = g.G.Gate.may_refuse c.args.gate.now (owner c.args.map.now c.in-Some.index) c.loop-place.place in
    let p = err_from_is_err_and c.from_residual.result c.from_residual.ensures.1 in
    rw (p.1, p.2)
    (halts-where may _ h next done _ (λ refuses. (c.loop-place.place, c.in-Some.index, at, refuses))
    (halts-alike may h next next done _ _ (sym (c.loop-place.invariant.ends done))
    (order-halts turn ts c.loop-place.place c.in-Some.index s next done done at may h
    (halts-alike may h next next done _ _ (ap (λ l. named_turn (g.T.Turns.turn c.args.turns.now l) c.in-Some.index s done) (sym c.loop-place.invariant.limits)) (c.in_err-entered.ensures.ends done)))))

pub returns-clause-ends : goal.returns-clause-ends
returns-clause-ends g c done =
    let turn = named_turn (g.T.Turns.turn c.args.turns.now c.args.frame.now.limits) in
    let ts = indices_in (range_word c.args.over.now ∷ []) in
    let past : length ts ≤ c.loop-place.place = let size = c.size-place-end.ensures.length in let test = c.loop-place-test.false in let all = line-length (range_word c.args.over.now) in omega (arith, size, test, all) in
    sym (c.loop-place.invariant.ends done) ∙ ap (λ ts. in_order turn ts c.loop-place.frame.memory done) (drop_all c.loop-place.place ts past)
