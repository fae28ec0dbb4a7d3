-- Ints of several indices at once, and how far turns may change a memory before they are used.
-- A strip is evaluated before those turns, and each of its ints is the value in the turn of its index all the same.
use Rattle.std.specs.Prelude.{◌≡◌, ◌≢◌, ◌<◌, ℕ, ◌==◌, if◌then◌else◌, ℤ, pos, ◌+ℤ◌, ◌-ℤ◌, ◌*ℤ◌, List, [], ◌∷◌, length, get_or, set, Some, None, Result, Ok, FitsSigned, Option, option_map, IfSome}
use Rattle.std.specs.Int.{w64}
use Rattle.dpl_array.specs.Elements.{Row, behind}
use Rattle.dpl_language.specs.Tree.{Infix, Add, Subtract, Multiply, ExprTree}
use Rattle.dpl_language.specs.Arithmetic.{wrap}
use Rattle.dpl_language.specs.Values.{Value, Int, Domain, Index, index_of, Fault}
use Rattle.dpl_language.specs.Outcome.{with_ok}
use Rattle.dpl_language.specs.Environment.{Limits}
use Rattle.dpl_language.specs.Expressions.{value_of, values_of}
use Rattle.dpl_language.specs.Loops.{bound_to}
use Rattle.dpl_memory.specs.Memory.{Variable, Memory, array_at, held_at, no_tuple, in_memory}
use Rattle.dpl_nodes.specs.declared.tree.IntExpr.{IntExpr}
use Rattle.dpl_nodes.specs.declared.tree.IndexExpr.{IndexExpr}
use Rattle.dpl_nodes.specs.declared.step.Names.{Names}
use Rattle.dpl_nodes.specs.Typed.{int_view, index_exprs}
use Rattle.dpl_nodes.specs.Steps.{names_view}
use Rattle.dpl_loop.specs.declared.strip.Strip.{Strip}
use Rattle.dpl_strips.specs.declared.target.Target.{Target}
use Rattle.dpl_strips.specs.declared.pace.Pace.{Pace}
use Rattle.dpl_strips.specs.declared.pace.Pace.TheVariants.{Steady, Stepping}
use Rattle.dpl_strips.specs.declared.apply.Wrapping.{Wrapping}
use Rattle.dpl_strips.specs.declared.apply.Wrapping.TheVariants as op
use Rattle.dpl_strips.specs.declared.apply.Right.{Right}
use Rattle.dpl_strips.specs.declared.apply.Right.TheVariants as right

-- what is found at an index is the same in two memories: elements at other indices may differ
pub record IsSameAt (t : Index) (s u : Memory) : Type 0 where
  pub words : u.words ≡ s.words
  pub elements : (slot : ℕ) → held_at t (array_at slot u) ≡ held_at t (array_at slot s)

-- each of so many words is the int that is meant at its index of a row, in each memory that suits the index
abbrev pub HoldWhere : (Row → ℕ → Memory → Type 0) → (Index → Memory → Result Value Fault) → Row → ℕ → (ℕ → ℤ) → Type 0
HoldWhere Suits meaning row size word =
    (k : ℕ) → k < size → k < 64 → (u : Memory) → Suits row k u → meaning (behind k row) u ≡ Ok (Int (word k))

-- and so are the ints of a strip
abbrev pub HoldsWhere : (Row → ℕ → Memory → Type 0) → (Index → Memory → Result Value Fault) → Strip → Type 0
HoldsWhere Suits meaning strip = HoldWhere Suits meaning strip.row strip.size (λ k. get_or strip.words k (pos 0))

-- each int of a strip is the value at its index, also where elements at other indices have changed
abbrev pub HoldsAtIndices : (Index → Memory → Result Value Fault) → Memory → Strip → Type 0
HoldsAtIndices meaning s strip = HoldsWhere (λ row k u. IsSameAt (behind k row) s u) meaning strip

-- what turns write: the word in a slot, or of the array in it one element each, at the indices of a row, turn by turn; and what these elements
-- are by now, where statements of the turns have been found before they are done
pub record Written : Type 0 where
  pub slot : ℕ
  pub at : Row
  pub words : Option (List ℤ)

abbrev pub written : Target → Written
written x = record { slot = x.slot; at = x.at; words = option_map (λ ws. ws.now) x.words }

-- they write in one slot alone, and nothing has been found before they are done
abbrev pub one_written : ℕ → Row → List Written
one_written slot at = record { slot = slot; at = at; words = None } ∷ []

-- they don't write what is in a slot
abbrev pub IsFree : List Written → ℕ → Type 0
IsFree [] slot = Unit {0}
IsFree (x ∷ xs) slot = (slot ≢ x.slot) × IsFree xs slot

-- what they write in a slot, if they do
abbrev pub written_at : ℕ → List Written → Option Written
written_at slot [] = None
written_at slot (x ∷ xs) = if x.slot == slot then Some x else written_at slot xs

-- a memory in the turn of an index: the variables of the loop hold the index, and else the words and the arrays alone may have changed that
-- the turns write
pub record IsInTurn (names : Names) (xs : List Written) (t : Index) (s u : Memory) : Type 0 where
  pub numbers : (slot : ℕ) → IsFree xs slot
      → get_or u.words.numbers slot (pos 0) ≡ get_or (bound_to in_memory (names_view names) (Domain []) t s).words.numbers slot (pos 0)
  pub tuples : (slot : ℕ) → get_or u.tuples slot no_tuple ≡ get_or (bound_to in_memory (names_view names) (Domain []) t s).tuples slot no_tuple
  pub arrays : (slot : ℕ) → IsFree xs slot → array_at slot u ≡ array_at slot s

-- what the k-th turn finds at its own element of an array that the turns write
abbrev pub own_word : Written → ℕ → Memory → Option ℤ
own_word x k s = own_of x.words x k s
  where
    own_of : Option (List ℤ) → Written → ℕ → Memory → Option ℤ
    own_of None x k s = held_at (behind k x.at) (array_at x.slot s)
    own_of (Some ws) x k s = Some (get_or ws k (pos 0))

abbrev pub OwnWords : List Written → ℕ → Memory → Memory → Type 0
OwnWords [] k s u = Unit {0}
OwnWords (x ∷ xs) k s u = (held_at (behind k x.at) (array_at x.slot u) ≡ own_word x k s) × OwnWords xs k s u

-- and in the k-th turn of a row, before it writes: of each array that the turns write, its own element is as it was, or as it was found
pub record IsInOwnTurn (names : Names) (xs : List Written) (row : Row) (k : ℕ) (s u : Memory) : Type 0 where
  pub turn : IsInTurn names xs (behind k row) s u
  pub own : OwnWords xs k s u

-- each int of a strip is the value in the turn of its index
abbrev pub HoldsInTurns : Names → List Written → (Memory → Result Value Fault) → Memory → Strip → Type 0
HoldsInTurns names xs meaning s strip = HoldsWhere (λ row k u. IsInOwnTurn names xs row k s u) (λ t u. meaning u) strip

-- OPERATORS that have no fault: how they stand in a tree, and what they make of two ints
abbrev pub infix_of : Wrapping → Infix
infix_of op.Sum = Add
infix_of op.Difference = Subtract
infix_of op.Product = Multiply

abbrev pub made_by : Wrapping → ℤ → ℤ → ℤ
made_by op.Sum x y = wrap (x +ℤ y)
made_by op.Difference x y = wrap (x -ℤ y)
made_by op.Product x y = wrap (x *ℤ y)

-- what stands on their right: of one int as many as there may be in a strip
abbrev pub right_size : Right → ℕ
right_size (right.Int n) = 64
right_size (right.Words ws) = length ws.now

abbrev pub right_word : Right → ℕ → ℤ
right_word (right.Int n) k = n
right_word (right.Words ws) k = get_or ws.now k (pos 0)

-- it is what is meant at the indices of a row
abbrev pub RightHolds : (Row → ℕ → Memory → Type 0) → (Index → Memory → Result Value Fault) → Row → Right → Type 0
RightHolds Suits meaning row r = HoldWhere Suits meaning row (right_size r) (right_word r)

-- the int in the k-th turn of one that goes so along a row of such a step
abbrev pub paced : ℤ → Pace → ℕ → ℤ
paced step (Steady c) k = c
paced step (Stepping c) k = c +ℤ step *ℤ pos k

-- it fits a word in all turns of a strip
abbrev pub FitsTurns : ℤ → Pace → Type 0
FitsTurns step pace = (k : ℕ) → k < 64 → FitsSigned w64 (paced step pace k)

-- the word in a slot goes so, by the words of each turn
abbrev pub GoesIn : ℤ → (ℕ → List ℤ) → ℕ → Pace → Type 0
GoesIn step numbers slot pace = FitsTurns step pace × ((k : ℕ) → k < 64 → get_or (numbers k) slot (pos 0) ≡ paced step pace k)

-- what an operator makes of two ints goes so: it is an int of this pace in each turn of a strip, and they all fit a word
abbrev pub GoesAs : Wrapping → ℤ → Pace → Pace → Pace → Type 0
GoesAs operator step a b pace = FitsTurns step pace × ((k : ℕ) → k < 64 → made_by operator (paced step a k) (paced step b k) ≡ paced step pace k)

-- once a variable has got the int that it holds in each turn, the word in a slot goes as the second pace says, where there is one: whatever
-- the words were of which the first one told how it went before, as long as there are so many of them
abbrev pub GoesAfter : ℤ → ℕ → ℕ → Pace → ℕ → Option Pace → Option Pace → Type 0
GoesAfter step slot variable held count before pace =
    (numbers : ℕ → List ℤ) → ((k : ℕ) → length (numbers k) ≡ count) → IfSome before (GoesIn step numbers slot)
    → IfSome pace (GoesIn step (λ k. set (numbers k) variable (paced step held k)) slot)

-- the coordinates of an index, one each in slots; a slot without one gets 0
abbrev pub each_put : List ℕ → Index → List ℤ → List ℤ
each_put [] t words = words
each_put (slot ∷ slots) [] words = each_put slots [] (set words slot (pos 0))
each_put (slot ∷ slots) (i ∷ t) words = each_put slots t (set words slot i)

-- the words of the turns of a row's indices, as the variables of the loop have them
abbrev pub turn_numbers : Names → Row → Memory → ℕ → List ℤ
turn_numbers names row s k = (bound_to in_memory (names_view names) (Domain []) (behind k row) s).words.numbers

-- the value of a tree goes so through the turns of a row's indices; and an int does
abbrev pub TreeGoesAt : Limits → Names → List Written → Row → Memory → ExprTree Variable → Pace → Type 0
TreeGoesAt limits names xs row s e pace =
    (k : ℕ) → k < 64 → (u : Memory) → IsInTurn names xs (behind k row) s u
    → value_of limits in_memory e None u ≡ Ok (Int (paced row.step pace k))

abbrev pub GoesAt : Limits → Names → List Written → Row → Memory → IntExpr → Pace → Type 0
GoesAt limits names xs row s e pace = TreeGoesAt limits names xs row s (int_view e) pace

-- the index that is found in a turn lies as far behind another as the turn behind the first
abbrev pub GoesFrom : Limits → Names → List Written → Row → Memory → IndexExpr → Row → Type 0
GoesFrom limits names xs row s index at =
    (k : ℕ) → k < 64 → (u : Memory) → IsInTurn names xs (behind k row) s u
    → with_ok (values_of limits in_memory (index_exprs index) u) (λ vs. Ok (index_of vs)) ≡ Ok (behind k at)
