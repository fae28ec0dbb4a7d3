-- What is made of the words of truth values, or of ints, is the word of the whole's truth value.
-- Each lemma has the word that is made on its right side.
use Rattle.std.proofs.Common.{◌≡◌, ◌<◌, ◌≤◌, ℕ, ℤ, pos, Bool, true, false, List, length, get_or, take, Option, Some, Result, Ok, refl, sym, subst, ap, ◌∙◌, arith}
use Rattle.std.proofs.lemmas.List.{get_or-take}
use Rattle.std.proofs.lemmas.Option.{slice_get-get_or, slice_get_within, get_or_from_slice_get}
use Rattle.dpl_array.specs.Elements.{Row, behind}
use Rattle.dpl_language.specs.Tree.{Kind, ExprTree, Links, NoLinks}
use Rattle.dpl_language.specs.Values.{Value, Fault, Index, Int, Truth, kept_number}
use Rattle.dpl_language.specs.Expressions.{value_of}
use Rattle.dpl_language.specs.Environment.{Limits}
use Rattle.dpl_lowered.specs.Shapes.{nowhere, two, grouped}
use Rattle.dpl_memory.specs.Memory.{Variable, Memory, array_at, held_at, element_as, in_memory}
use Rattle.dpl_nodes.specs.declared.tree.Comparison.{Comparison}
use Rattle.dpl_nodes.specs.declared.tree.Comparison.TheVariants as comparison
use Rattle.dpl_nodes.specs.declared.tree.Junction.{Junction}
use Rattle.dpl_nodes.specs.declared.tree.Junction.TheVariants as junction
use Rattle.dpl_nodes.specs.declared.step.Names.{Names}
use Rattle.dpl_nodes.specs.Typed.{comparison_view, junction_view}
use Rattle.dpl_nodes.specs.Chains.{IsSoFar}
use Rattle.dpl_loop.specs.declared.strip.Strip.{Strip}
use Rattle.dpl_strips.specs.declared.along.Found.{Found}
use Rattle.dpl_strips.specs.declared.along.Found.TheVariants as found
use Rattle.dpl_strips.specs.Strips.{Written, IsInOwnTurn, HoldsInTurns}
use Rattle.dpl_strips.specs.Truths.{TruthsHoldInTurns, RowInTurns, IsFoundAlong, IsWordOf, FoundInTurns, joins, compares}
use Rattle.dpl_strips.proofs.Strips.{take-few}

module _ (limits : Limits) (t : Option Index) (u : Memory) where
  -- an operator on two truth values: where the left one decides, the right one makes no difference
  pub joined-at : (op : Junction) (a b : ExprTree Variable) (x y : Bool) → value_of limits in_memory a t u ≡ Ok (Truth x) → value_of limits in_memory b t u ≡ Ok (Truth y)
      → value_of limits in_memory (two a nowhere (junction_view op) b) t u ≡ Ok (Truth (joins op x y))
  joined-at junction.And a b true y left right = rw left (rw right refl)
  joined-at junction.And a b false y left right = rw left refl
  joined-at junction.Or a b true y left right = rw left refl
  joined-at junction.Or a b false y left right = rw left (rw right refl)
  joined-at junction.Same a b x y left right = rw left (rw right refl)
  joined-at junction.Differ a b x y left right = rw left (rw right refl)

  -- how two ints compare
  pub compared-at : (c : Comparison) (a b : ExprTree Variable) (x y : ℤ) → value_of limits in_memory a t u ≡ Ok (Int x) → value_of limits in_memory b t u ≡ Ok (Int y)
      → value_of limits in_memory (two a nowhere (comparison_view c) b) t u ≡ Ok (Truth (compares c x y))
  compared-at comparison.Equal a b x y left right = rw left (rw right refl)
  compared-at comparison.Unequal a b x y left right = rw left (rw right refl)
  compared-at comparison.Less a b x y left right = rw left (rw right refl)
  compared-at comparison.AtMost a b x y left right = rw left (rw right refl)
  compared-at comparison.Greater a b x y left right = rw left (rw right refl)
  compared-at comparison.AtLeast a b x y left right = rw left (rw right refl)

-- WHAT IS FOUND OF AN ARRAY ALONG A ROW: its words stand there
pub word-along : (slot : ℕ) (at : Row) (s : Memory) (k : ℕ) (word : ℤ) (f : Found) → IsFoundAlong slot at s f → IsWordOf slot s k word f
    → held_at (behind k at) (array_at slot s) ≡ Some word
word-along slot at s k word (found.Words ws) is there = is k word there
word-along slot at s k word (found.Along t) is there = ap (λ t. held_at (behind k t) (array_at slot s)) (sym is) ∙ there

-- they are the elements that are meant in turns, where those along the row are
module _ (names : Names) (xs : List Written) (meaning : Memory → Result Value Fault) (kind : Kind) (slot : ℕ) (row : Row) (s : Memory) where
  pub found-in-turns : (at : Row) (f : Found) → IsFoundAlong slot at s f → RowInTurns names xs meaning kind slot row s at
      → FoundInTurns names xs meaning kind slot row s f
  found-in-turns at (found.Words ws) is holds =
      λ k below few u turn.
      let word = get_or ws.now k (pos 0) in
      holds k word few (is k word (slice_get-get_or ws.now k (pos 0) below)) u turn
  found-in-turns at (found.Along t) is holds = subst (RowInTurns names xs meaning kind slot row s) (sym is) holds

  -- and so is each of them
  pub word-in-turns : (k : ℕ) (word : ℤ) (f : Found) → k < 64 → FoundInTurns names xs meaning kind slot row s f → IsWordOf slot s k word f
      → (u : Memory) → IsInOwnTurn names xs row k s u → meaning u ≡ Ok (element_as kind word)
  word-in-turns k word (found.Words ws) few holds there u turn =
      holds k (slice_get_within ws.now k word there) few u turn ∙ ap (λ w. Ok (element_as kind w)) (get_or_from_slice_get ws.now k word (pos 0) there)
  word-in-turns k word (found.Along at) few holds there u turn = holds k word few there u turn

-- the words of a strip that are made of those of two, of which the right one's first so many are taken
module _
    (names : Names) (xs : List Written) (s : Memory) (left right made : Strip) (size : ℕ) (row : made.row ≡ left.row) (beside : right.row ≡ left.row)
    (fewer : made.size ≤ left.size) (in_right : made.size ≤ length (take size right.words)) (small : size ≤ right.size) where
  inside : (k : ℕ) → k < made.size → k < size
  inside k below = omega (arith, below, in_right, take-few size right.words)

  taken : (k : ℕ) → k < made.size → get_or (take size right.words) k (pos 0) ≡ get_or right.words k (pos 0)
  taken k below = get_or-take size right.words k (pos 0) (inside k below)

  -- the turn of a strip's index is that of another's over the same row
  turn-left : (k : ℕ) (u : Memory) → IsInOwnTurn names xs made.row k s u → IsInOwnTurn names xs left.row k s u
  turn-left k u turn = subst (λ row. IsInOwnTurn names xs row k s u) row turn

  turn-right : (k : ℕ) (u : Memory) → IsInOwnTurn names xs made.row k s u → IsInOwnTurn names xs right.row k s u
  turn-right k u turn = subst (λ row. IsInOwnTurn names xs row k s u) (sym beside) (turn-left k u turn)

  pub joined-hold : (at_left at_right at_whole : Memory → Result Value Fault) (op : Junction)
      → ((u : Memory) (x y : Bool) → at_left u ≡ Ok (Truth x) → at_right u ≡ Ok (Truth y) → at_whole u ≡ Ok (Truth (joins op x y)))
      → TruthsHoldInTurns names xs at_left s left → TruthsHoldInTurns names xs at_right s right
      → ((k : ℕ) → k < made.size → k < 64 → (x y : Bool) → get_or left.words k (pos 0) ≡ kept_number (Truth x) → get_or (take size right.words) k (pos 0) ≡ kept_number (Truth y)
      → get_or made.words k (pos 0) ≡ kept_number (Truth (joins op x y)))
      → TruthsHoldInTurns names xs at_whole s made
  joined-hold at_left at_right at_whole op whole left_holds right_holds words k below cap =
      let l = left_holds k (omega (arith, below, fewer)) cap in
      let r = right_holds k (omega (arith, inside k below, small)) cap in (
        joins op l.0 r.0,
        words k below cap l.0 r.0 l.1 (taken k below ∙ r.1),
        λ u turn. whole u l.0 r.0 (l.2 u (turn-left k u turn)) (r.2 u (turn-right k u turn)),
      )

  pub compared-hold : (at_left at_right at_whole : Memory → Result Value Fault) (c : Comparison)
      → ((u : Memory) (x y : ℤ) → at_left u ≡ Ok (Int x) → at_right u ≡ Ok (Int y) → at_whole u ≡ Ok (Truth (compares c x y)))
      → HoldsInTurns names xs at_left s left → HoldsInTurns names xs at_right s right
      → ((k : ℕ) → k < made.size → k < 64 → get_or made.words k (pos 0) ≡ kept_number (Truth (compares c (get_or left.words k (pos 0)) (get_or (take size right.words) k (pos 0)))))
      → TruthsHoldInTurns names xs at_whole s made
  compared-hold at_left at_right at_whole c whole left_holds right_holds words k below cap =
      let x = get_or left.words k (pos 0) in
      let y = get_or right.words k (pos 0) in (
        compares c x y,
        words k below cap ∙ ap (λ y. kept_number (Truth (compares c x y))) (taken k below),
        λ u turn. whole u x y (left_holds k (omega (arith, below, fewer)) cap u (turn-left k u turn)) (right_holds k (omega (arith, inside k below, small)) cap u (turn-right k u turn)),
      )

-- what holds of a chain so far, of which nothing is left, holds of the whole
pub so_far-whole : (whole : ExprTree Variable) (left : Links Variable) (Holds : ExprTree Variable → Type 0) → left ≡ NoLinks → IsSoFar whole left Holds → Holds whole
so_far-whole whole left Holds end so = subst Holds (ap (grouped so.tree) (sym end) ∙ so.same) so.holds
