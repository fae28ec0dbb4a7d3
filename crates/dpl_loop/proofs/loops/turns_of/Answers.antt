-- The turn of the next index is made, or ends the loop; at the end no index is left.
use Rattle.std.proofs.Common.{◌≡◌, ◌<◌, ◌≤◌, arith, drop, length, slice_get, sym, subst, ap, ◌∙◌}
use Rattle.std.proofs.lemmas.List.{drop_all}
use Rattle.std.proofs.lemmas.Result.{err_from_is_err_and}
use Rattle.dpl_sets.specs.Indices.{indices}
use Rattle.dpl_map.specs.Maps.{owner}
use Rattle.dpl_language.specs.Outcome.{in_order}
use Rattle.dpl_language.specs.Loops.{named_turn}
use Rattle.dpl_loop.proofs.Ends.{halts-where, halts-alike}
use Rattle.dpl_loop.proofs.Order.{order-done, order-halts}
use Rattle.dpl_loop.proofs.Places.{slice_get-drop_first, drop-drop_one, within-there}
use Rattle.dpl_loop.proofs.loops.turns_of.Goals as goal

pub unreachable-requires : goal.unreachable-requires
unreachable-requires g c =
    let ts = indices c.args.domain.now in
    let none = sym (slice_get-drop_first ts c.loop-place.place) ∙ ap (λ ts. slice_get ts 0) (sym c.loop-place.invariant.left) ∙ sym c.next.ensures.next ∙ c.in_default-next.is in
    let size : c.size-place-end.result ≡ length ts = c.size-place-end.ensures.size in
    within-there ts c.loop-place.place (subst (λ n. c.loop-place.place < n) size c.loop-place-test.true) none

pub loop-place-preserved : goal.loop-place-preserved
loop-place-preserved g c =
    let turn = named_turn (g.T.Turns.turn c.args.turns.now c.args.frame.now.limits) in
    let ts = indices c.args.domain.now in
    let s = c.loop-place.frame.memory in
    let at = sym (slice_get-drop_first ts c.loop-place.place) ∙ ap (λ ts. slice_get ts 0) (sym c.loop-place.invariant.left) ∙ sym c.in-Some.ensures.next in
    record {
      ends = λ done.
          order-done turn ts c.loop-place.place c.in-Some.index s c.entered.new.frame.memory done done at
          (ap (λ l. named_turn (g.T.Turns.turn c.args.turns.now l) c.in-Some.index s done) (sym c.loop-place.invariant.limits) ∙ c.in_ok-entered.ensures.ends done)
          ∙ c.loop-place.invariant.ends done;
      left = c.next.ensures.rest ∙ ap (drop 1) c.loop-place.invariant.left ∙ drop-drop_one ts c.loop-place.place;
      limits = c.in_ok-entered.ensures.limits ∙ c.loop-place.invariant.limits;
    }

pub returns-in_err-entered-clause-ends : goal.returns-in_err-entered-clause-ends
returns-in_err-entered-clause-ends g c done =
    let turn = named_turn (g.T.Turns.turn c.args.turns.now c.args.frame.now.limits) in
    let ts = indices c.args.domain.now in
    let s = c.loop-place.frame.memory in
    let next = c.entered.new.frame.memory in
    let h = c.in_err-entered.field-0.0 in
    let at = sym (slice_get-drop_first ts c.loop-place.place) ∙ ap (λ ts. slice_get ts 0) (sym c.loop-place.invariant.left) ∙ sym c.in-Some.ensures.next in
    let may = g.G.Gate.may_refuse c.args.gate.now (owner c.args.map.now c.in-Some.index) c.loop-place.place in
    let p = err_from_is_err_and c.from_residual.result c.from_residual.ensures.1 in
    rw (p.1, p.2)
    (halts-where may _ h next done _ (λ refuses. (c.loop-place.place, c.in-Some.index, at, refuses))
    (halts-alike may h next next done _ _ (sym (c.loop-place.invariant.ends done))
    (order-halts turn ts c.loop-place.place c.in-Some.index s next done done at may h
    (halts-alike may h next next done _ _ (ap (λ l. named_turn (g.T.Turns.turn c.args.turns.now l) c.in-Some.index s done) (sym c.loop-place.invariant.limits)) (c.in_err-entered.ensures.ends done)))))

pub returns-clause-ends : goal.returns-clause-ends
returns-clause-ends g c done =
    let turn = named_turn (g.T.Turns.turn c.args.turns.now c.args.frame.now.limits) in
    let ts = indices c.args.domain.now in
    let past : length ts ≤ c.loop-place.place = let size = c.size-place-end.ensures.size in let test = c.loop-place-test.false in omega (arith, size, test) in
    sym (c.loop-place.invariant.ends done) ∙ ap (λ ts. in_order turn ts c.loop-place.frame.memory done) (drop_all c.loop-place.place ts past)
