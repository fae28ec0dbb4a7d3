-- Statements as they are run: over variables, and lowered.
-- The names of each are resolved by the scopes where it stands.
use Rattle.dpl_language.specs.Tree.{ItemTree, StmtTree, Body, Stmts, Else}
use Rattle.dpl_language.specs.Names.{Text}
use Rattle.dpl_agreement.specs.Renamed.{renamed_item, renamed_stmt, renamed_stmts, renamed_body, renamed_else}
use Rattle.dpl_rules.specs.Sights.{Scopes}
use Rattle.dpl_lowered.specs.LoweredExpressions.{Times}
use Rattle.dpl_lowered.specs.LoweredStatements.{lowered_side, lowered_stmt, lowered_stmts, lowered_body, lowered_else}
use Rattle.dpl_memory.specs.Memory.{Variable, known_variable}
use Rattle.dpl_memory.specs.Resolved.{variable_of}
use Rattle.dpl_bound.specs.Sights.{bound_in}
use Rattle.dpl_bound.specs.Bounds.{bound_stmt, bound_stmts, bound_body, bound_else}

-- a right side, evaluated once or at each index
abbrev pub side_leaves : Scopes → Times → ItemTree Text → ItemTree Variable
side_leaves ss m i = lowered_side known_variable m (renamed_item variable_of (renamed_item (bound_in ss) i))

abbrev pub stmt_leaves : Scopes → StmtTree Text → StmtTree Variable
stmt_leaves ss t = lowered_stmt known_variable (renamed_stmt variable_of (bound_stmt ss t))

abbrev pub stmts_leaves : Scopes → Stmts Text → Stmts Variable
stmts_leaves ss ts = lowered_stmts known_variable (renamed_stmts variable_of (bound_stmts ss ts))

-- a body, in the scope that was opened for it
abbrev pub body_leaves : Scopes → Body Text → Body Variable
body_leaves ss b = lowered_body known_variable (renamed_body variable_of (bound_body ss b))

abbrev pub else_leaves : Scopes → Else Text → Else Variable
else_leaves ss o = lowered_else known_variable (renamed_else variable_of (bound_else ss o))
