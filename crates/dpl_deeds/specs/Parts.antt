-- What a loop's intents do, by one of them at a time.
-- The list is that of the parts between its commas.
use Rattle.std.specs.Prelude.{List, [], ◌∷◌, map}
use Rattle.dpl_language.specs.Tree.{AfterComma, IntentTree}
use Rattle.dpl_language.specs.Names.{Text}
use Rattle.dpl_rules.specs.Deeds.{Deed}
use Rattle.dpl_rules.specs.Doings.{intents_deeds}

-- one intent by itself
abbrev pub intent_deeds : IntentTree Text → List Deed
intent_deeds i = intents_deeds (i ∷ [])

-- the intents behind commas
abbrev pub next_intents_deeds : List (AfterComma (IntentTree Text)) → List Deed
next_intents_deeds is = intents_deeds (map {A = AfterComma (IntentTree Text)} {B = IntentTree Text} (λ x. x.part) is)
