-- What stands behind ints at each index.
use Rattle.std.proofs.Common.{IfOk, sym, subst}
use Rattle.dpl_language.specs.Arithmetic.{divides}
use Rattle.dpl_lowered.specs.Shapes.{kept, two}
use Rattle.dpl_nodes.specs.Spots.{IsNear}
use Rattle.dpl_typed.specs.Stands.{StandsFor}
use Rattle.dpl_operators.specs.Operands.{operand_tree}
use Rattle.dpl_operators.proofs.infix.between.Goals as goal

pub returns-in-Ints-clause-node : goal.returns-in-Ints-clause-node
returns-in-Ints-clause-node c =
    let at = c.args.at in
    let op = c.args.op in
    subst (λ o. IfOk c.behind_ints.result (λ r. IsNear at → StandsFor r (λ m. two (operand_tree m o) (kept (divides op) at) op (operand_tree m c.args.right)))) (sym c.in-Ints.is)
    c.behind_ints.ensures.node
