-- Intents: what they do is what the first does, and then what the others do.
-- It has the deeds of a whole list on its left side.
use Rattle.std.proofs.Common.{◌≡◌, ◌++◌, List, ◌∷◌, refl}
use Rattle.dpl_language.specs.Tree.{IntentTree, ReduceIntent, RefIntent}
use Rattle.dpl_language.specs.Names.{Text}
use Rattle.dpl_rules.specs.Doings.{intents_deeds}
use Rattle.dpl_deeds.specs.Parts.{intent_deeds}

pub intents_deeds_first : (i : IntentTree Text) (js : List (IntentTree Text)) → intents_deeds (i ∷ js) ≡ intent_deeds i ++ intents_deeds js
intents_deeds_first (ReduceIntent at op word x) js = refl
intents_deeds_first (RefIntent at x) js = refl
