use Rattle.std.proofs.Common.{ap}
use Rattle.dpl_language.specs.Tree.{BlockBody}
use Rattle.dpl_tree.proofs.Rows.{stmts_view-row}
use Rattle.dpl_tree.proofs.statement.Body.block.Goals as goal

pub returns : goal.returns
returns c = ap (λ ss. BlockBody c.args.from ss c.args.upto) (stmts_view-row c.args.stmts.now)
