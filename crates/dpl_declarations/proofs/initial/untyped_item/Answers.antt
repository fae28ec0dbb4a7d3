-- An item is kept, or mapped as a domain of a known rank.
-- Where no rule is broken it has a type.
use Rattle.dpl_tree.specs.View.{item_view}
use Rattle.dpl_tree.specs.Declarations.{optional, mapped_view}
use Rattle.dpl_declarations.proofs.Beside.{item-given}
use Rattle.dpl_declarations.proofs.initial.untyped_item.Goals as goal

pub returns-clause-node : goal.returns-clause-node
returns-clause-node c = λ none known plain.
    item-given c.args.scopes.now known (item_view c.args.written.now) (optional mapped_view c.args.map.now) c.in-Ok.part c.domain_rank-rank.result c.in-Ok-mapped.named c.placed-placing.result
    c.args.first.now c.side.new.first c.kept.new.first c.mapped.new.first c.domain_rank-rank.ensures c.placed-placing.ensures c.in-Ok.ensures.told c.kept.ensures c.in-Ok-mapped.ensures.told
    c.in-Ok.ensures.node c.in-Ok-mapped.ensures.node none plain
