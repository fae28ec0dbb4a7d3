-- Intents of a loop, one by one.
-- A name is reduced by a list of intents where one of them reduces it.
use Rattle.std.proofs.Common.{◌≡◌, Bool, true, false, if◌then◌else◌, ◌||◌, List, [], ◌∷◌, map, refl, ap}
use Rattle.std.specs.Prelude.{bytes_eq}
use Rattle.dpl_language.specs.Tree.{AfterComma, IntentTree, ReduceIntent, RefIntent}
use Rattle.dpl_language.specs.Names.{Text}
use Rattle.dpl_language.specs.Phrases.{reduce_intents}
use Rattle.dpl_tree.specs.declared.statement.NextIntent.{NextIntent}
use Rattle.dpl_tree.specs.Statements.{intent_view, next_intent_view}
use Rattle.dpl_rules.specs.Sights.{reduces}
use Rattle.dpl_assignments.specs.Around.{intents_in}

pub reduces_next : (i : IntentTree Text) (is : List (IntentTree Text)) (x : Text) → reduces (reduce_intents (i ∷ is)) x ≡ (reduces (reduce_intents (i ∷ [])) x || reduces (reduce_intents is) x)
reduces_next (ReduceIntent at op word y) is x = by_test (bytes_eq x y.name)
  where
    by_test : (t : Bool) → (if t then true else reduces (reduce_intents is) x) ≡ ((if t then true else false) || reduces (reduce_intents is) x)
    by_test true = refl
    by_test false = refl
reduces_next (RefIntent at y) is x = refl

pub parts_next : (xs : List NextIntent) → map {A = AfterComma (IntentTree Text)} {B = IntentTree Text} (λ x. x.part) (map next_intent_view xs) ≡ intents_in xs
parts_next [] = refl
parts_next (x ∷ xs) = ap (λ is. intent_view x.intent ∷ is) (parts_next xs)
