-- Statements in memory, one after the other, and the list that the grammar's rules make of them.
-- The equation has the plain list of the nodes on its left side, and what the rule makes on its right.
use Rattle.std.proofs.Common.{◌≡◌, List, [], ◌∷◌, map, refl, ap}
use Rattle.dpl_language.specs.Tree.{Then}
use Rattle.dpl_tree.specs.declared.statement.Stmt.{Stmt}
use Rattle.dpl_tree.specs.Statements as tree
use Rattle.dpl_spelling.specs.Statements as rules

pub stmts_of_view : (ss : List Stmt) → tree.stmts_of ss ≡ rules.stmts_of (map tree.stmt_view ss)
stmts_of_view [] = refl
stmts_of_view (s ∷ ss) = ap (Then (tree.stmt_view s)) (stmts_of_view ss)
