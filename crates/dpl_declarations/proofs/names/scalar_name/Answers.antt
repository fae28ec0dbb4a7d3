-- An int or a truth value begins with what is written, or with its default.
-- It agrees with the type.
use Rattle.std.proofs.Common.{refl}
use Rattle.dpl_tree.specs.Declarations.{declare_view}
use Rattle.dpl_declarations.proofs.Singles.{scalar-name}
use Rattle.dpl_declarations.proofs.names.scalar_name.Goals as goal

pub returns-clause-node : goal.returns-clause-node
returns-clause-node c = λ at none plain.
    scalar-name c.args.scopes.now (declare_view c.args.written.now) at c.args.kind _ c.in-Ok.initial c.in-Ok-or_default.value c.next_slot-slot.result c.args.first.now c.typed_initial.new.first
    c.next_slot-slot.ensures c.in-Ok.ensures.told c.in-Ok.ensures.node c.in-Ok-or_default.ensures refl c.begun-step.ensures none plain
