-- Rows of what two workers begin with and leave together: an array over 1..3, of which the one has 1 and 2 and the other 3, and a sum that was 5.
-- Each turn squares its index into the array, and adds it to the sum.
use Rattle.std.proofs.Common.{eqb-true, ◌≡◌, ℕ, ◌<◌, ◌==◌, ◌||◌, Bool, true, false, ℤ, pos, List, [], ◌∷◌, Some, None, refl, sym, subst, arith}
use Rattle.std.specs.Prelude.{if◌then◌else◌}
use Rattle.std.specs.Int.{int_wrap}
use Rattle.std.proofs.lemmas.Option.{none-some}
use Rattle.dpl_syntax.specs.declared.place.Place.{Place}
use Rattle.dpl_language.specs.Values.{Index}
use Rattle.dpl_language.specs.Outcome.{Deeds, Done, Run, in_order}
use Rattle.dpl_language.specs.Ranges.{same_index}
use Rattle.dpl_memory.specs.Memory.{Held, Memory, array_at, intended}
use Rattle.dpl_apart.specs.Apart.{last_index}
use Rattle.dpl_apart.specs.Rows.{IsDistinct}
use Rattle.dpl_apart.specs.Memories.{Changes, IsPiece, IsFormed, held_in}
use Rattle.dpl_apart.specs.Workers.{worker_memory, together}
use Rattle.dpl_apart.proofs.Shares.{distinct-next}
use Rattle.dpl_apart.proofs.SharedForalls.{all-done}
use Rattle.dpl_apart.proofs.WorkedForalls.{on_a_line, held_with_keys, memory_with, changes, whole, squares, put_turn, writes, may_be_apart}

abbrev pub one_two_three : List Index
one_two_three = on_a_line (pos 1) ∷ on_a_line (pos 2) ∷ on_a_line (pos 3) ∷ []

-- locale 1 owns the index 3, and locale 0 the others
abbrev pub last_apart : Index → ℕ
last_apart t = if same_index t (on_a_line (pos 3)) then 1 else 0

abbrev before : Memory
before = memory_with (pos 7) (pos 5) whole

-- ---- what they begin with: their own elements, and nothing added
first_begins : worker_memory changes last_apart 0 before ≡ memory_with (pos 7) (pos 0) (held_with_keys (on_a_line (pos 1) ∷ on_a_line (pos 2) ∷ []) (pos 10 ∷ pos 20 ∷ []))
first_begins = refl

second_begins : worker_memory changes last_apart 1 before ≡ memory_with (pos 7) (pos 0) (held_with_keys (on_a_line (pos 3) ∷ []) (pos 30 ∷ []))
second_begins = refl

-- a locale that owns none of the indices
third_begins : worker_memory changes last_apart 2 before ≡ memory_with (pos 7) (pos 0) (held_with_keys [] [])
third_begins = refl

-- ---- what they leave together: the squares, 5 + (1 + 2) + 3, and the variable of the turn of 3
abbrev first_left : Memory
first_left = memory_with (pos 2) (pos 3) (held_with_keys (on_a_line (pos 1) ∷ on_a_line (pos 2) ∷ []) (pos 1 ∷ pos 4 ∷ []))

abbrev second_left : Memory
second_left = memory_with (pos 3) (pos 3) (held_with_keys (on_a_line (pos 3) ∷ []) (pos 9 ∷ []))

abbrev after : Memory
after = memory_with (pos 3) (pos 11) (held_with_keys one_two_three (pos 1 ∷ pos 4 ∷ pos 9 ∷ []))

both_left : together changes last_apart ((0, first_left) ∷ (1, second_left) ∷ []) (last_index None one_two_three) before ≡ after
unfolding int_wrap
both_left = refl

-- in whatever order they are listed
either_order : together changes last_apart ((1, second_left) ∷ (0, first_left) ∷ []) (last_index None one_two_three) before ≡ after
unfolding int_wrap
either_order = refl

-- which is the memory that holds these rows
rows_left : together changes last_apart ((0, first_left) ∷ (1, second_left) ∷ []) (last_index None one_two_three) before ≡ held_in changes before (Some (on_a_line (pos 3))) squares (pos 11 ∷ [])
unfolding int_wrap
rows_left = refl

-- where 3 has no turn its element stays, and the last turn is that of 2
first_alone : together changes last_apart ((0, first_left) ∷ []) (last_index None (on_a_line (pos 1) ∷ on_a_line (pos 2) ∷ [])) before
    ≡ memory_with (pos 2) (pos 8) (held_with_keys one_two_three (pos 1 ∷ pos 4 ∷ pos 30 ∷ []))
unfolding int_wrap
first_alone = refl

-- without turns all is as it was
none_left : together changes last_apart [] (last_index None []) before ≡ before
none_left = refl

-- ---- the turns of such workers: A[i] = i * i, where there is no sum. So what is asked of workers can be met.
pub distinct : IsDistinct one_two_three
distinct =
    distinct-next (on_a_line (pos 1)) (on_a_line (pos 2) ∷ on_a_line (pos 3) ∷ []) (refl, (refl, tt))
    (distinct-next (on_a_line (pos 2)) (on_a_line (pos 3) ∷ []) (refl, tt) (distinct-next (on_a_line (pos 3)) [] tt (λ j k t here there. absurd (none-some t here))))

module _ (at : Place) where
  abbrev square : Index → ℤ → ℤ
  square t v = (squares t).elements 2

  abbrev turn : Index → Run Memory
  turn = put_turn 1 2 at square

  abbrev change : Changes
  change = writes 1 2 at square

  abbrev plain : Held → Memory
  plain a = intended [] (memory_with (pos 7) (pos 5) a)

  formed : IsFormed change (plain whole)
  formed = record {
    pieces = λ slot e. subst (λ slot. IsPiece (array_at slot (plain whole))) (sym (only slot (slot == 2) refl e)) (record { distinct = distinct; long = refl });
    within = λ slot e. subst (λ slot. slot < 3) (sym (only slot (slot == 2) refl e)) (omega arith);
    intents = refl;
    apart = tt;
    there = tt;
    stay = tt;
    room = tt;
    tuple_room = tt;
  } where
    only : (slot : ℕ) (c : Bool) → (slot == 2) ≡ c → (c || false) ≡ true → slot ≡ 2
    only slot true e h = eqb-true slot 2 e
    only slot false e h = absurd cc

  both_end : (done : Deeds)
      → in_order turn one_two_three (plain whole) done ≡ Done (plain (held_with_keys one_two_three (pos 1 ∷ pos 4 ∷ pos 9 ∷ []))) done
  both_end =
      all-done change turn (may_be_apart 1 2 at square) (plain whole) formed tt last_apart one_two_three distinct (refl, (refl, (refl, tt)))
      ((0, plain (held_with_keys (on_a_line (pos 1) ∷ on_a_line (pos 2) ∷ []) (pos 1 ∷ pos 4 ∷ []))) ∷ (1, plain (held_with_keys (on_a_line (pos 3) ∷ []) (pos 9 ∷ []))) ∷ [])
      (refl, (refl, tt)) (refl, (refl, (refl, tt))) ((λ done. refl), ((λ done. refl), tt))
