-- A domain of a rank from 1 to 3, with a map or without one.
-- It begins with what is written, or without an index.
use Rattle.std.proofs.Common.{refl}
use Rattle.dpl_tree.specs.Declarations.{declare_view, domain_type_view}
use Rattle.dpl_declarations.proofs.Singles.{domain-name}
use Rattle.dpl_declarations.proofs.names.domain_name.Goals as goal

pub returns-clause-node : goal.returns-clause-node
returns-clause-node c = λ none plain.
    domain-name c.args.scopes.now (declare_view c.args.written.now) (domain_type_view c.args.typed.now) c.in-Ok.map _ c.in-Ok-typed_initial.initial c.ranked-rank.result c.next_slot-slot.result c.placed-placing.result
    c.args.first.now c.ranked-rank.new.first c.mapped.new.first c.typed_initial.new.first c.unconfigured.new.first
    c.ranked-rank.ensures.rank c.next_slot-slot.ensures c.placed-placing.ensures c.ranked-rank.ensures.told c.in-Ok.ensures.told c.in-Ok.ensures.node c.in-Ok-typed_initial.ensures.told c.in-Ok-typed_initial.ensures.node
    c.unconfigured.ensures refl c.domain-step.ensures.value c.domain-step.ensures.empty none plain
