-- Truth values of several turns at once, in the words of a strip: 1 is true and 0 is false.
-- What is meant is the same truth value in each memory that may be the one of the turn.
use Rattle.std.specs.Prelude.{◌≡◌, ◌<◌, ℕ, ℤ, pos, Bool, not, ◌&&◌, ◌||◌, int_lt, int_le, List, length, get_or, slice_get, Some, Result, Ok}
use Rattle.std.specs.Ordering.{int_eq}
use Rattle.dpl_array.specs.Elements.{Row, behind}
use Rattle.dpl_language.specs.Tree.{Kind}
use Rattle.dpl_language.specs.Values.{Value, Truth, kept_number, Fault}
use Rattle.dpl_memory.specs.Memory.{Memory, array_at, held_at, element_as}
use Rattle.dpl_nodes.specs.declared.step.Names.{Names}
use Rattle.dpl_nodes.specs.declared.tree.Comparison.{Comparison}
use Rattle.dpl_nodes.specs.declared.tree.Comparison.TheVariants as comparison
use Rattle.dpl_nodes.specs.declared.tree.Junction.{Junction}
use Rattle.dpl_nodes.specs.declared.tree.Junction.TheVariants as junction
use Rattle.dpl_loop.specs.declared.strip.Strip.{Strip}
use Rattle.dpl_strips.specs.declared.along.Found.{Found}
use Rattle.dpl_strips.specs.declared.along.Found.TheVariants as found
use Rattle.dpl_strips.specs.Strips.{Written, IsInOwnTurn}

-- a word is that of a truth value, which is what is meant in each memory that suits
abbrev pub IsTruthWord : (Memory → Type 0) → (Memory → Result Value Fault) → ℤ → Type 0
IsTruthWord suits meaning word = (b : Bool) × (word ≡ kept_number (Truth b)) × ((u : Memory) → suits u → meaning u ≡ Ok (Truth b))

-- each word of a strip is the truth value in the turn of its index
abbrev pub TruthsHoldInTurns : Names → List Written → (Memory → Result Value Fault) → Memory → Strip → Type 0
TruthsHoldInTurns names xs meaning s strip =
    (k : ℕ) → k < strip.size → k < 64 → IsTruthWord (IsInOwnTurn names xs strip.row k s) meaning (get_or strip.words k (pos 0))

-- each of some words is the element that is meant in the turn of its index, by the kind of its array
abbrev pub ElementsInTurns : Names → List Written → (Memory → Result Value Fault) → Kind → Row → Memory → List ℤ → Type 0
ElementsInTurns names xs meaning kind row s words =
    (k : ℕ) → k < length words → k < 64 → (u : Memory) → IsInOwnTurn names xs row k s u → meaning u ≡ Ok (element_as kind (get_or words k (pos 0)))

-- each word at an index of a row is the element that is meant in the turn at the same place
abbrev pub RowInTurns : Names → List Written → (Memory → Result Value Fault) → Kind → ℕ → Row → Memory → Row → Type 0
RowInTurns names xs meaning kind slot row s at =
    (k : ℕ) (word : ℤ) → k < 64 → held_at (behind k at) (array_at slot s) ≡ Some word
    → (u : Memory) → IsInOwnTurn names xs row k s u → meaning u ≡ Ok (element_as kind word)

-- what is found of an array along a row: words that stand there, or the row
abbrev pub IsFoundAlong : ℕ → Row → Memory → Found → Type 0
IsFoundAlong slot at s (found.Words ws) = (k : ℕ) (word : ℤ) → slice_get ws.now k ≡ Some word → held_at (behind k at) (array_at slot s) ≡ Some word
IsFoundAlong slot at s (found.Along row) = row ≡ at

-- a word is the one that is found at a place of the row
abbrev pub IsWordOf : ℕ → Memory → ℕ → ℤ → Found → Type 0
IsWordOf slot s k word (found.Words ws) = slice_get ws.now k ≡ Some word
IsWordOf slot s k word (found.Along at) = held_at (behind k at) (array_at slot s) ≡ Some word

-- and it is the elements that are meant in turns
abbrev pub FoundInTurns : Names → List Written → (Memory → Result Value Fault) → Kind → ℕ → Row → Memory → Found → Type 0
FoundInTurns names xs meaning kind slot row s (found.Words ws) = ElementsInTurns names xs meaning kind row s ws.now
FoundInTurns names xs meaning kind slot row s (found.Along at) = RowInTurns names xs meaning kind slot row s at

-- OPERATORS: what they make of two truth values, or of two ints
abbrev pub joins : Junction → Bool → Bool → Bool
joins junction.And x y = x && y
joins junction.Or x y = x || y
joins junction.Same x y = int_eq (kept_number (Truth x)) (kept_number (Truth y))
joins junction.Differ x y = not (int_eq (kept_number (Truth x)) (kept_number (Truth y)))

abbrev pub compares : Comparison → ℤ → ℤ → Bool
compares comparison.Equal x y = int_eq x y
compares comparison.Unequal x y = not (int_eq x y)
compares comparison.Less x y = int_lt x y
compares comparison.AtMost x y = int_le x y
compares comparison.Greater x y = int_lt y x
compares comparison.AtLeast x y = int_le y x
