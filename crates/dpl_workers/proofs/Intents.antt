-- Words of reduce variables, of which none is left.
use Rattle.std.proofs.Common.{◌≡◌, ℕ, zero, suc, ◌<◌, List, [], ◌∷◌, map, length, drop, ℤ, refl, arith}
use Rattle.dpl_language.specs.Tree.{Op}
use Rattle.dpl_memory.specs.Memory.{intents_by_slot}
use Rattle.dpl_nodes.specs.declared.step.Intent.{Intent}
use Rattle.dpl_nodes.specs.Steps.{intent_view}
use Rattle.dpl_apart.specs.Memories.{with_words}

no-words : (ps : List (ℕ × Op)) (numbers : List ℤ) → with_words ps [] numbers ≡ numbers
no-words [] numbers = refl
no-words (p ∷ ps) numbers = refl

pub words-none : (is : List Intent) (ws : List ℤ) (n : ℕ) (numbers : List ℤ) → (n < length is → n < length ws → ⊥)
    → with_words (intents_by_slot (map intent_view (drop n is))) (drop n ws) numbers ≡ numbers
words-none [] ws zero numbers none = refl
words-none [] ws (suc n) numbers none = refl
words-none (i ∷ is) [] zero numbers none = refl
words-none (i ∷ is) [] (suc n) numbers none = no-words (intents_by_slot (map intent_view (drop n is))) numbers
words-none (i ∷ is) (w ∷ ws) zero numbers none = absurd (none (omega arith) (omega arith))
words-none (i ∷ is) (w ∷ ws) (suc n) numbers none = words-none is ws n numbers (λ some more. none (omega (arith, some)) (omega (arith, more)))
