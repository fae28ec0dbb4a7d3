-- The fold over a domain's indices is the reduction.
use Rattle.std.proofs.Common.{ap}
use Rattle.dpl_sets.specs.Indices.{indices}
use Rattle.dpl_loop.proofs.Folding.{fold-tells}
use Rattle.dpl_loop.proofs.Places.{among}
use Rattle.dpl_loop.proofs.reduction.reduce.Goals as goal

pub returns : goal.returns
returns g c meaning answers =
    let ts = indices c.domain-domain.result in
    let same = ap indices c.domain-domain.ensures.domain in
    fold-tells _ _ g.O.Operator.value (g.O.Operator.op c.args.operator.now) meaning ts c.args.over c.fold.new.turn c.fold.result
    (among (g.G.Gate.may_refuse c.args.gate.now) c.args.map.now ts c.args.over _ same) same (c.fold.ensures meaning answers)
