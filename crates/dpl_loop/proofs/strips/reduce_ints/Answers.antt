-- The fold over a domain's indices is the reduction.
use Rattle.std.proofs.Common.{ap}
use Rattle.dpl_sets.specs.Indices.{indices}
use Rattle.dpl_loop.proofs.Folding.{fold-tells}
use Rattle.dpl_loop.proofs.Places.{among}
use Rattle.dpl_loop.proofs.strips.reduce_ints.Goals as goal

pub returns : goal.returns
returns g c meaning answers strips =
    let ts = indices c.domain-domain.result in
    let same = ap indices c.domain-domain.ensures.domain in
    fold-tells _ _ g.O.Operator.value (g.O.Operator.op c.args.operator.now) meaning ts c.args.over c.fold_strips.new.turn c.fold_strips.result
    (among (g.G.Gate.may_refuse c.args.gate.now) c.args.map.now ts c.args.over _ same) same (c.fold_strips.ensures meaning answers strips)
