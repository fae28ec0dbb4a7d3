-- What stands behind commas, one behind the other: a loop's variables with their slots, and its intents.
-- Each variable is declared behind those before it.
use Rattle.std.specs.Prelude.{ℕ, List, [], ◌∷◌, map, Option}
use Rattle.dpl_language.specs.Tree.{AfterComma, Placed, IntentTree}
use Rattle.dpl_language.specs.Names.{Text}
use Rattle.dpl_tree.specs.declared.statement.NextIntent.{NextIntent}
use Rattle.dpl_tree.specs.declared.statement.NextName.{NextName}
use Rattle.dpl_tree.specs.Statements.{next_intent_view, next_name_view}
use Rattle.dpl_rules.specs.Types.{ValueType}
use Rattle.dpl_rules.specs.Sights.{Scopes, add}
use Rattle.dpl_scopes.specs.Slots.{next_slot_in}
use Rattle.dpl_bound.specs.Bounds.{loop_variable}

abbrev pub names_in : List NextName → List (Placed Text)
names_in xs = map {A = AfterComma (Placed Text)} {B = Placed Text} (λ x. x.part) (map next_name_view xs)

abbrev pub intents_in : List NextIntent → List (IntentTree Text)
intents_in xs = map {A = AfterComma (IntentTree Text)} {B = IntentTree Text} (λ x. x.part) (map next_intent_view xs)

-- the slots of variables
abbrev pub slots_from : Option ValueType → List (Placed Text) → Scopes → List ℕ
slots_from t [] ss = []
slots_from t (x ∷ xs) ss = next_slot_in ss ∷ slots_from t xs (add (loop_variable t ss x.name) ss)
