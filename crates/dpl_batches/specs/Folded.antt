-- Ints that are folded onto a word one after another; and what a statement does that folds one.
use Rattle.std.specs.Prelude.{◌≡◌, ℕ, zero, suc, ℤ, pos, List, get_or, if◌then◌else◌, Option, None, Ok}
use Rattle.std.specs.Ordering.{int_eq}
use Rattle.dpl_language.specs.Tree.{Op}
use Rattle.dpl_language.specs.Values.{Int, number}
use Rattle.dpl_language.specs.Arithmetic.{combined}
use Rattle.dpl_words.specs.Words.{IntLeaf, intent_at}
use Rattle.dpl_memory.specs.Memory.{PlainKind, Memory, with_value_in}
use Rattle.dpl_nodes.specs.declared.fold.IntFold.{IntFold}
use Rattle.dpl_nodes.specs.declared.step.IntDeed.{IntDeed}
use Rattle.dpl_nodes.specs.Typed.{int_fold_view}
use Rattle.dpl_elements.specs.Changes.{int_given, int_put}

-- a word after one int
abbrev pub folded_one : IntFold → ℤ → ℤ → ℤ
folded_one fold n w = number (combined (int_fold_view fold) (Int n) (Int w))

-- and after so many
abbrev pub folded_words : IntFold → ℤ → List ℤ → ℕ → ℤ
folded_words fold n ws zero = n
folded_words fold n ws (suc k) = folded_one fold (folded_words fold n ws k) (get_or ws k (pos 0))

-- a word after one int, which counts where the word of a mask isn't 0
abbrev pub folded_one_where : IntFold → ℤ → ℤ → ℤ → ℤ
folded_one_where fold n m w = if int_eq m (pos 0) then n else folded_one fold n w

-- and after so many
abbrev pub folded_where : IntFold → ℤ → List ℤ → List ℤ → ℕ → ℤ
folded_where fold n ms ws zero = n
folded_where fold n ms ws (suc k) =
    folded_one_where fold (folded_where fold n ms ws k) (get_or ms k (pos 0)) (get_or ws k (pos 0))

-- what is done to an int is to fold the right side onto it, where the intent of its slot is this one
abbrev pub Folds : IntDeed → Option Op → IntFold → Type 0
Folds deed intent fold =
    (slot : ℕ) (w : ℤ) (s : Memory) → intent_at slot s.words.intents ≡ intent → (int_given deed slot s ≡ None)
    × (int_put deed slot (Int w) s ≡ Ok (with_value_in (PlainKind IntLeaf) slot (Int (folded_one fold (get_or s.words.numbers slot (pos 0)) w)) s))
