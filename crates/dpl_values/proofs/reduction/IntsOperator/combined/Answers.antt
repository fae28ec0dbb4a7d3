-- An int is an operand of each operator on ints.
use Rattle.std.proofs.Common.{FitsSigned, w64, rules}
use Rattle.dpl_nodes.specs.Typed.{int_fold_view}
use Rattle.dpl_apart.proofs.Operators.{int-operand}
use Rattle.dpl_values.proofs.Folds.{of-ints}
use Rattle.dpl_values.proofs.reduction.IntsOperator.combined.Goals as goal

pub returns-clause-operand : goal.returns-clause-operand
returns-clause-operand c =
    let fits : FitsSigned w64 c.args.b = search rules in
    int-operand (int_fold_view c.args.self.now.fold) c.args.b (of-ints c.args.self.now.fold) fits
