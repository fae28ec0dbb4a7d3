-- An expression is plain by its form and its places.
use Rattle.std.proofs.Common.{sym, subst}
use Rattle.dpl_tree.specs.Statements.{argument_view}
use Rattle.dpl_typed.proofs.Standing.{if_ok}
use Rattle.dpl_prints.specs.Plain.{IsPlainArgument}
use Rattle.dpl_prints.specs.Made.{IsArgumentAs}
use Rattle.dpl_prints.proofs.shown.argument.Goals as goal

pub returns-in-Expr-clause-node : goal.returns-in-Expr-clause-node
returns-in-Expr-clause-node c =
    let ss = c.args.scopes.now in
    if_ok c.value.result
    (λ r h. λ none known. subst (λ a. IsPlainArgument ss (argument_view a) → IsArgumentAs ss (argument_view a) r) (sym c.in-Expr.is) (λ plain. h none known plain.0 plain.1)) c.value.ensures.node
