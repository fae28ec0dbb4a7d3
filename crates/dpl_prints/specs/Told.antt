-- What prints owe, argument by argument, and what they have in sight.
-- Each is a part of a rule of dpl_rules, of which the forall around makes no difference.
use Rattle.std.specs.Prelude.{Bool, List, [], ◌∷◌, ◌++◌, Option, None}
use Rattle.dpl_syntax.specs.declared.refusal.Breach.{Breach}
use Rattle.dpl_language.specs.Names.{Text}
use Rattle.dpl_language.specs.Phrases.{bare_name}
use Rattle.dpl_language.specs.Tree.{ExprTree, ArgumentTree, TextArgument, ExprArgument}
use Rattle.dpl_tree.specs.declared.statement.NextArgument.{NextArgument}
use Rattle.dpl_tree.specs.Statements.{argument_view}
use Rattle.dpl_rules.specs.Verdicts.{Part, wanted}
use Rattle.dpl_rules.specs.Sights.{Scopes, Reducing, Sight}
use Rattle.dpl_rules.specs.Assignments.{is_printed, argument_part, argument_of}

-- what a statement has in sight
abbrev pub within : Scopes → Option Reducing → Bool → Sight
within scopes forall in_task = record { scopes = scopes; forall = forall; in_task = in_task }

abbrev pub argument_part_in : Scopes → Bool → ExprTree Text → Part
argument_part_in scopes in_task = argument_part (within scopes None in_task) in_task

abbrev pub argument_in : Scopes → Bool → ExprTree Text → List Breach
argument_in scopes in_task = argument_of (within scopes None in_task) in_task

abbrev pub argument_told : Scopes → Bool → ArgumentTree Text → List Breach
argument_told scopes in_task (TextArgument at cs) = []
argument_told scopes in_task (ExprArgument e) = argument_in scopes in_task e ++ wanted (is_printed (bare_name e)) (argument_part_in scopes in_task e)

abbrev pub printed_told : Scopes → Bool → List (ArgumentTree Text) → List Breach
printed_told scopes in_task [] = []
printed_told scopes in_task (a ∷ rest) = argument_told scopes in_task a ++ printed_told scopes in_task rest

-- the arguments behind commas
abbrev pub arguments_in : List NextArgument → List (ArgumentTree Text)
arguments_in [] = []
arguments_in (n ∷ ns) = argument_view n.argument ∷ arguments_in ns
