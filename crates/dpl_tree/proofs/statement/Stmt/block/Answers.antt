use Rattle.std.proofs.Common.{ap, ◌∙◌}
use Rattle.dpl_language.specs.Tree.{Block}
use Rattle.dpl_tree.specs.declared.statement.Block.{Block as BlockNode}
use Rattle.dpl_tree.specs.Statements.{stmts_of}
use Rattle.dpl_tree.proofs.Rows.{stmts_view-row}
use Rattle.dpl_tree.proofs.statement.Stmt.block.Goals as goal

pub returns : goal.returns
returns c =
    let b = c.in_ok-node.field-0.now in
    ap (λ ss. Block b.from ss b.upto) (stmts_view-row b.stmts.now) ∙ ap (λ (v : BlockNode). Block v.from (stmts_of v.stmts.now) v.upto) c.in_ok-node.ensures
