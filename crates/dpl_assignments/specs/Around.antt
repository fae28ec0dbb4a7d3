-- The forall around a statement, as the code keeps it and as the rules see it.
-- Its reduce variables are those of its intents.
use Rattle.std.specs.Prelude.{List, [], ◌∷◌}
use Rattle.dpl_language.specs.Tree.{IntentTree}
use Rattle.dpl_language.specs.Names.{Text}
use Rattle.dpl_language.specs.Phrases.{intents_of}
use Rattle.dpl_tree.specs.declared.statement.NextIntent.{NextIntent}
use Rattle.dpl_tree.specs.Declarations.{optional}
use Rattle.dpl_tree.specs.Statements.{intent_view, with_view}
use Rattle.dpl_rules.specs.Sights.{Reducing}
use Rattle.dpl_assignments.specs.declared.around.Reducing.{Reducing as ReducingNode}

-- the intents behind commas
abbrev pub intents_in : List NextIntent → List (IntentTree Text)
intents_in [] = []
intents_in (n ∷ ns) = intent_view n.intent ∷ intents_in ns

abbrev pub reducing_view : ReducingNode → Reducing
reducing_view r = record { depth = r.depth; variables = intents_of (optional with_view r.with) }
