-- Blocks of statements by their fields: what code that walks a program knows of them.
-- Each has the node's view on its left side; other statements' views compute to their fields.
use Rattle.std.proofs.Common.{◌≡◌, Bor, ap}
use Rattle.dpl_tree.specs.declared.statement.Stmt.{Block as BlockStmt}
use Rattle.dpl_tree.specs.declared.statement.Block.{Block as BlockNode}
use Rattle.dpl_tree.specs.declared.statement.Body.{Block as BlockBodyNode}
use Rattle.dpl_language.specs.Tree.{Block, BlockBody}
use Rattle.dpl_tree.specs.Statements.{stmt_view, body_view, stmts_of}
use Rattle.dpl_tree.proofs.Rows.{stmts_view-row}

pub stmt_view_block : (b : Bor BlockNode) → stmt_view (BlockStmt b) ≡ Block b.now.from (stmts_of b.now.stmts.now) b.now.upto
stmt_view_block b = ap (λ ts. Block b.now.from ts b.now.upto) (stmts_view-row b.now.stmts.now)

pub body_view_block : (v : BlockNode) → body_view (BlockBodyNode v) ≡ BlockBody v.from (stmts_of v.stmts.now) v.upto
body_view_block v = ap (λ ts. BlockBody v.from ts v.upto) (stmts_view-row v.stmts.now)
