-- Slots, worked out: names that hide others, and a scope without names.
-- The scopes stand with the innermost first, and in each the latest declaration.
use Rattle.std.proofs.Common.{◌≡◌, ℕ, [], ◌∷◌, Some, None, refl}
use Rattle.std.specs.Prelude.{codes}
use Rattle.dpl_language.specs.Names.{Text}
use Rattle.dpl_rules.specs.Sights.{Constant, Declared, Scopes}
use Rattle.dpl_scopes.specs.Slots.{next_slot_in, slot_in}

abbrev named : Text → ℕ → Declared
named x depth = record { origin = record { name = x; depth = depth }; sort = Constant; type = None }

-- { a b { { a c
abbrev sight : Scopes
sight = (named (codes "c") 3 ∷ named (codes "a") 3 ∷ []) ∷ [] ∷ (named (codes "b") 1 ∷ named (codes "a") 1 ∷ []) ∷ []

first_name : slot_in sight (codes "b") ≡ Some 2
first_name = refl

hiding_name : slot_in sight (codes "a") ≡ Some 5
hiding_name = refl

latest_name : slot_in sight (codes "c") ≡ Some 6
latest_name = refl

unknown_name : slot_in sight (codes "d") ≡ None
unknown_name = refl

next_slot : next_slot_in sight ≡ 7
next_slot = refl

-- no scope, and one without names
next_slot_nowhere : next_slot_in [] ≡ 1
next_slot_nowhere = refl

next_slot_first : next_slot_in ([] ∷ []) ≡ 1
next_slot_first = refl

-- a name twice in one scope: the latest
twice : slot_in ((named (codes "a") 1 ∷ named (codes "a") 1 ∷ []) ∷ []) (codes "a") ≡ Some 2
twice = refl
