-- Where no turns are made at once, that of the place is made alone, or ends the loop.
-- These are the answers to the goals of `turns_from`.
use Rattle.std.proofs.Common.{◌≡◌, ◌+◌, drop, arith, sym, ap, ◌∙◌}
use Rattle.std.proofs.lemmas.Result.{err_from_is_err_and}
use Rattle.dpl_map.specs.Maps.{owner}
use Rattle.dpl_language.specs.Outcome.{in_order}
use Rattle.dpl_language.specs.Loops.{named_turn}
use Rattle.dpl_loop.proofs.Ends.{halts-where, halts-alike}
use Rattle.dpl_loop.proofs.Order.{order-done, order-halts}
use Rattle.dpl_loop.proofs.together.turns_from.Goals as goal

pub returns-in_err-entered-clause-goes : goal.returns-in_err-entered-clause-goes
returns-in_err-entered-clause-goes g c done =
    let turn = named_turn (g.T.Turns.turn c.args.turns.now c.args.frame.now.limits) in
    let ts = g.P.Places.indices c.args.over.now in
    let place = c.args.place in
    let t = c.in-Some.index in
    let s = c.row.new.frame.memory in
    let next = c.entered.new.frame.memory in
    let h = c.in_err-entered.field-0.0 in
    let at = sym c.in-Some.ensures in
    let may = g.G.Gate.may_refuse c.args.gate.now (owner c.args.map.now t) place in
    let here : place + c.in-Ok.made ≡ place = omega (arith, c.if-made-eq0.true) in
    let same = ap (λ k. in_order turn (drop k ts) s done) (sym here) ∙ c.in-Ok.ensures.goes done in
    let p = err_from_is_err_and c.from_residual.result c.from_residual.ensures.1 in
    rw (p.1, p.2)
    (halts-where may _ h next done _ (λ refuses. (place, t, at, refuses))
    (halts-alike may h next next done _ _ (sym same)
    (order-halts turn ts place t s next done done at may h
    (halts-alike may h next next done _ _ (ap (λ l. named_turn (g.T.Turns.turn c.args.turns.now l) t s done) (sym c.in-Ok.ensures.limits)) (c.in_err-entered.ensures.ends done)))))

pub returns-then-made-eq0-clause-goes : goal.returns-then-made-eq0-clause-goes
returns-then-made-eq0-clause-goes g c done =
    let turn = named_turn (g.T.Turns.turn c.args.turns.now c.args.frame.now.limits) in
    let ts = g.P.Places.indices c.args.over.now in
    let place = c.args.place in
    let t = c.in-Some.index in
    let s = c.row.new.frame.memory in
    let here : place + c.in-Ok.made ≡ place = omega (arith, c.if-made-eq0.true) in
    order-done turn ts place t s c.entered.new.frame.memory done done (sym c.in-Some.ensures)
    (ap (λ l. named_turn (g.T.Turns.turn c.args.turns.now l) t s done) (sym c.in-Ok.ensures.limits) ∙ c.in_ok-entered.ensures.ends done)
    ∙ ap (λ k. in_order turn (drop k ts) s done) (sym here)
    ∙ c.in-Ok.ensures.goes done
