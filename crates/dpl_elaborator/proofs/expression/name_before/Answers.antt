-- The name's look-up answered what stands for it.
use Rattle.std.proofs.Common.{refl}
use Rattle.dpl_tree.specs.View.{name_view}
use Rattle.dpl_scopes.specs.View.{IsSighted}
use Rattle.dpl_typed.proofs.Standing.{if_ok}
use Rattle.dpl_elaborator.proofs.expression.name_before.Goals as goal

pub returns-clause-node : goal.returns-clause-node
returns-clause-node c =
    let ss = c.args.scopes.now in
    let x = name_view c.args.name.now in
    let sighted : IsSighted ss x.name c.lookup-declared.result = (c.lookup-declared.ensures.declared, c.lookup-declared.ensures.slot) in
    if_ok c.named.result (λ r h. λ found near. h ss x refl sighted found near) c.named.ensures.node
