-- The turns of the row follow one another in the order of the indices.
-- These are the answers to the goals of `row`.
use Rattle.std.proofs.Common.{arith}
use Rattle.std.proofs.lemmas.Option.{slice_get_within}
use Rattle.dpl_array.specs.Elements.{behind}
use Rattle.dpl_loop.proofs.Order.{ok-then, ok-both, order-row, run-within}
use Rattle.dpl_loop.proofs.together.row.Goals as goal

pub returns-clause-within : goal.returns-clause-within
returns-clause-within g c =
    let ts = g.P.Places.indices c.args.over.now in
    ok-then c.make_row.result c.make_row.ensures.most
    (λ made most. run-within ts c.args.place made
    (λ k below. (behind k c.row-row.result.0, c.row-row.ensures.there k (omega (arith, below, most))))
    (slice_get_within ts c.args.place c.args.index c.requires))

pub returns-clause-goes : goal.returns-clause-goes
returns-clause-goes g c done =
    let ts = g.P.Places.indices c.args.over.now in
    let turn = g.T.Turns.turn c.args.turns.now c.args.frame.now.limits in
    ok-both c.make_row.result c.make_row.ensures.most c.make_row.ensures.done
    (λ made most are. order-row turn ts c.args.place c.row-row.result.0 made c.args.frame.now.memory c.make_row.new.frame.memory done are
    (λ k below. c.row-row.ensures.there k (omega (arith, below, most))))
