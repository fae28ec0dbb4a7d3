-- The turns of own indices are those that are made, and the turns of others' indices do nothing.
-- These are the answers to the goals of `make_row`.
use Rattle.std.proofs.Common.{◌≡◌, ◌==◌, true, false, arith, sym, ap, ◌∙◌}
use Rattle.std.proofs.lemmas.Bool.Decides.{nat_tests}
use Rattle.dpl_map.specs.Maps.{owner}
use Rattle.dpl_loop.proofs.Order.{ok-both}
use Rattle.dpl_workers.proofs.OwnIndices.{own-done, others-done}
use Rattle.dpl_workers.proofs.owned.OwnTurnsTurns.make_row.Goals as goal

pub returns-then-owner-self-clause-done : goal.returns-then-owner-self-clause-done
returns-then-owner-self-clause-done g c =
    let own = c.args.self.now in
    let owns = owner own.map.now in
    let first : c.owner.result ≡ owns c.args.row.first = c.owner.ensures.owner ∙ ap owns c.first.ensures in
    let like = c.if-owner-self.true in
    let same : (c.owner.result == own.locale) ≡ true = grind (arith, nat_tests, like) in
    ok-both c.make_row.result c.make_row.ensures.most c.make_row.ensures.done
    (λ made most are.
    own-done owns own.locale (g.T.Turns.turn own.turns.now c.args.frame.now.limits) c.args.row (owns c.args.row.first) c.steady-size.result c.steady-size.ensures.same
    made c.args.frame.now.memory c.make_row.new.frame.memory (ap (λ n. n == own.locale) (sym first) ∙ same) most are)

pub returns-else-owner-self-clause-done : goal.returns-else-owner-self-clause-done
returns-else-owner-self-clause-done g c =
    let own = c.args.self.now in
    let owns = owner own.map.now in
    let first : c.owner.result ≡ owns c.args.row.first = c.owner.ensures.owner ∙ ap owns c.first.ensures in
    let unlike = c.if-owner-self.false in
    let other : (c.owner.result == own.locale) ≡ false = grind (arith, nat_tests, unlike) in
    others-done owns own.locale (g.T.Turns.turn own.turns.now c.args.frame.now.limits) c.args.row (owns c.args.row.first) c.steady-size.result c.steady-size.ensures.same c.args.frame.now.memory
    (ap (λ n. n == own.locale) (sym first) ∙ other)
