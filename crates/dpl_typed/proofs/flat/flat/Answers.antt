use Rattle.std.proofs.Common.{Some, refl, ap, ◌∙◌}
use Rattle.dpl_typed.specs.declared.typed.Typed.TheVariants.{Int, Truth, Range, Domain}
use Rattle.dpl_typed.proofs.Standing.{stands-alike}
use Rattle.dpl_typed.proofs.flat.flat.Goals as goal

pub returns-in-Ok-clause-node : goal.returns-in-Ok-clause-node
returns-in-Ok-clause-node c =
    let i = c.in-Int in
    stands-alike c.args.found (Int i.e) (Int c.in-Ok.e) (c.in-Some.is ∙ ap Some i.is) c.in-Ok.ensures refl

pub returns-in-Ok-flat_node-clause-node : goal.returns-in-Ok-flat_node-clause-node
returns-in-Ok-flat_node-clause-node c =
    let i = c.in-Truth in
    stands-alike c.args.found (Truth i.e) (Truth c.in-Ok-flat_node.e) (c.in-Some.is ∙ ap Some i.is) c.in-Ok-flat_node.ensures refl

pub returns-in-Ok-flat_node-2-clause-node : goal.returns-in-Ok-flat_node-2-clause-node
returns-in-Ok-flat_node-2-clause-node c =
    let i = c.in-Range in
    stands-alike c.args.found (Range i.strided i.node) (Range i.strided c.in-Ok-flat_node-2.node) (c.in-Some.is ∙ ap Some i.is) c.in-Ok-flat_node-2.ensures refl

pub returns-in-Ok-flat_node-3-clause-node : goal.returns-in-Ok-flat_node-3-clause-node
returns-in-Ok-flat_node-3-clause-node c =
    let i = c.in-Domain in
    stands-alike c.args.found (Domain i.rank i.strided i.node) (Domain i.rank i.strided c.in-Ok-flat_node-3.node) (c.in-Some.is ∙ ap Some i.is) c.in-Ok-flat_node-3.ensures refl
