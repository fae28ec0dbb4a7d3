-- What breaks no rule is a domain.
use Rattle.std.proofs.Common.{ap}
use Rattle.dpl_tree.specs.View.{item_view}
use Rattle.dpl_mapped.proofs.Unbroken.{box-made}
use Rattle.dpl_mapped.proofs.map.boxed.Goals as goal

pub returns-clause-node : goal.returns-clause-node
returns-clause-node c = λ none simple near.
    let part = c.in-Ok.part in
    box-made c.args.scopes.now c.args.rank c.args.word part.at (item_view c.args.written.now) part.found c.box_of.result c.args.first.now c.item_part.new.first c.box_of.new.first
    (ap (λ p. p.type) c.in-Ok.ensures.told.0) c.in-Ok.ensures.told.1 c.box_of.ensures.told none simple (c.in-Ok.ensures.node simple near) c.box_of.ensures.node
