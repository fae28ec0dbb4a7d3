-- Slots among others.
use Rattle.std.proofs.Common.{◌≡◌, ℕ, ◌==◌, Bool, true, false, Some, None, List, [], ◌∷◌, refl}
use Rattle.std.specs.Prelude.{if◌then◌else◌, ◌||◌}
use Rattle.dpl_language.specs.Tree.{Op}
use Rattle.dpl_words.specs.Words.{intent_at}
use Rattle.dpl_memory.specs.Memory.{is_among}
use Rattle.dpl_turns.specs.Alongside.{slots_of}

-- a slot without an operator is among those of no reduce variables
pub none-reduced : (slot : ℕ) (ps : List (ℕ × Op)) → intent_at slot ps ≡ None → is_among slot (slots_of ps) ≡ false
none-reduced slot [] e = refl
none-reduced slot (p ∷ ps) e = by (slot == p.0) e (none-reduced slot ps) where
  by : (c : Bool) → (if c then Some p.1 else intent_at slot ps) ≡ None → (intent_at slot ps ≡ None → is_among slot (slots_of ps) ≡ false) → (c || is_among slot (slots_of ps)) ≡ false
  by true e rest = absurd cc
  by false e rest = rest e
