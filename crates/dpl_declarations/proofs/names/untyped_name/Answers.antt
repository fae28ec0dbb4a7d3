-- A name without a type begins with what it is given.
-- A text gives it something.
use Rattle.std.proofs.Common.{ap}
use Rattle.dpl_tree.specs.Declarations.{optional, initial_view, declare_view}
use Rattle.dpl_declarations.proofs.Singles.{untyped-name}
use Rattle.dpl_declarations.proofs.names.untyped_name.Goals as goal

pub returns-in-Ok-clause-node : goal.returns-in-Ok-clause-node
returns-in-Ok-clause-node c = λ none plain.
    untyped-name c.args.scopes.now (declare_view c.args.written.now) (initial_view c.in-Some.initial) c.in-Ok.given _ c.next_slot-slot.result c.args.first.now c.untyped.new.first c.configured.new.first
    c.next_slot-slot.ensures (ap (optional initial_view) c.in-Some.is) c.in-Ok.ensures.told c.in-Ok.ensures.node c.configured.ensures c.type_found.ensures c.begun.ensures none plain
