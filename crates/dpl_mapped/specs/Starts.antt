-- Where a map starts, and how large its blocks are: what is simple there, and what it is as it is run.
-- It is evaluated once.
use Rattle.std.specs.Prelude.{List, [], ◌∷◌}
use Rattle.dpl_language.specs.Names.{Text}
use Rattle.dpl_language.specs.Tree.{AfterComma, Listed, ExprTree, Exprs, FirstExpr, MoreExprs, NoExprs, NextExpr, StartTree, StartExpr, StartTuple}
use Rattle.dpl_agreement.specs.Renamed.{renamed_start}
use Rattle.dpl_rules.specs.Sights.{Scopes}
use Rattle.dpl_lowered.specs.LoweredStatements.{lowered_start}
use Rattle.dpl_memory.specs.Memory.{Variable, known_variable}
use Rattle.dpl_typed.specs.Leaves.{leaf_in}
use Rattle.dpl_typed.specs.Simple.{IsSimple, AreSimpleExprs}

-- the expressions of a tuple, as arguments
abbrev pub more_exprs : List (AfterComma (ExprTree Text)) → MoreExprs Text
more_exprs [] = NoExprs
more_exprs (x ∷ xs) = NextExpr x.comma x.part (more_exprs xs)

abbrev pub tuple_exprs : Listed (ExprTree Text) → Exprs Text
tuple_exprs xs = FirstExpr xs.first (more_exprs xs.others)

-- its expressions are simple, over names of which something holds
abbrev pub IsSimpleStart : (Text → Type 0) → StartTree Text → Type 0
IsSimpleStart Holds (StartExpr e) = IsSimple Holds e
IsSimpleStart Holds (StartTuple from xs upto) = AreSimpleExprs Holds (tuple_exprs xs)

-- over leaves, and lowered
abbrev pub start_leaves : Scopes → StartTree Text → StartTree Variable
start_leaves scopes s = lowered_start known_variable (renamed_start (leaf_in scopes) s)
