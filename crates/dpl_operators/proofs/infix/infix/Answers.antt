-- An operator says the same of its operands as of what it sees of them.
use Rattle.std.proofs.Common.{◌≡◌, IfOk, Some, sym, ap, subst, ◌∙◌}
use Rattle.dpl_rules.specs.Operators.{taking, taken, infix_verdict}
use Rattle.dpl_typed.specs.Typed.{type_of_typed, types_of}
use Rattle.dpl_typed.specs.Told.{Judges}
use Rattle.dpl_operators.specs.Operands.{operand_type, IsOperandOf}
use Rattle.dpl_operators.proofs.Takings.{taking_alike}
use Rattle.dpl_operators.proofs.infix.infix.Goals as goal

pub returns-in-Some-Some-2-clause-told : goal.returns-in-Some-Some-2-clause-told
returns-in-Some-Some-2-clause-told c =
    let at = c.args.at in
    let op = c.args.op in
    let given = c.in-Some-Some in
    let seen = c.in-Some-Some-2 in
    let left = subst (IsOperandOf given.a) seen.is-0 c.in-Ok.ensures in
    let right = subst (IsOperandOf given.b) seen.is-1 c.in-Ok-as_operand.ensures in
    let same : infix_verdict at op (types_of c.args.a) (types_of c.args.b) ≡ taking (taken op) at (operand_type seen.left) (operand_type seen.right) =
    ap (λ o. infix_verdict at op (types_of o) (types_of c.args.b)) given.is-0
    ∙ ap (λ o. infix_verdict at op (Some (type_of_typed given.a)) (types_of o)) given.is-1
    ∙ taking_alike (taken op) at (type_of_typed given.a) (type_of_typed given.b) (operand_type seen.left) (operand_type seen.right) left.0 right.0 in
    subst (λ v. IfOk c.between.result (λ r. Judges v r c.args.first.now c.between.new.first)) (sym same) c.between.ensures.told
