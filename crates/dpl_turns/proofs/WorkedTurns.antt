-- A row of two workers that make real turns: forall i in 1..3 with (+ reduce s) { A[i] = i; s += i; }, of which the one has 1 and 2 and the other 3.
use Rattle.std.proofs.Common.{eqb-true, ◌≡◌, ℕ, ◌<◌, ◌==◌, ◌||◌, Bool, true, false, pos, [], ◌∷◌, refl, sym, subst, arith}
use Rattle.std.specs.Int.{int_wrap}
use Rattle.dpl_language.specs.Tree.{Sum, SetAdd, One, Stmts, NoStmts, Then}
use Rattle.dpl_language.specs.Environment.{Limits}
use Rattle.dpl_language.specs.Outcome.{Deeds, Done, in_order}
use Rattle.dpl_lowered.specs.Shapes.{nowhere}
use Rattle.dpl_memory.specs.Memory.{Memory, Variable, array_at, int_leaf}
use Rattle.dpl_nodes.specs.Steps.{assigned_to}
use Rattle.dpl_apart.specs.Memories.{IsPiece, IsFormed}
use Rattle.dpl_apart.proofs.SharedForalls.{all-done}
use Rattle.dpl_apart.proofs.WorkedForalls.{on_a_line, held_with_keys, memory_with, changes, whole}
use Rattle.dpl_apart.proofs.WorkedWorkers.{one_two_three, last_apart, distinct}
use Rattle.dpl_turns.specs.Bodies.{OneInt, body_turn, KeepsApart}
use Rattle.dpl_turns.proofs.Bodies.{body-apart}
use Rattle.dpl_turns.proofs.Worked.{int_named, set_element}

abbrev listed : Stmts Variable
listed = Then (set_element 2 (int_named 0) (int_named 0)) (Then (assigned_to (int_leaf 1) SetAdd nowhere (One (int_named 0))) NoStmts)

keeps : KeepsApart 1 (OneInt 0) [] (2 ∷ []) ((1, Sum) ∷ []) listed
keeps = record {
  of_rank = refl;
  once = (refl, tt);
  fits = λ t. (((((refl, tt), (λ e. refl), (refl, refl), refl), (refl, tt), tt)), (((refl, (λ i. (tt, tt))), ((λ i. (refl, tt)), tt), tt), tt));
  silent = (refl, (refl, tt));
}

-- s was 5, and A held 10, 20 and 30
abbrev before : Memory
before = memory_with (pos 7) (pos 5) whole

formed : IsFormed changes before
formed = record {
  pieces = λ slot e. subst (λ slot. IsPiece (array_at slot before)) (sym (only slot (slot == 2) refl e)) (record { distinct = distinct; long = refl });
  within = λ slot e. subst (λ slot. slot < 3) (sym (only slot (slot == 2) refl e)) (omega arith);
  intents = refl;
  apart = (refl, tt);
  there = (omega arith, tt);
  stay = (refl, tt);
  room = (omega arith, tt);
  tuple_room = tt;
} where
  only : (slot : ℕ) (c : Bool) → (slot == 2) ≡ c → (c || false) ≡ true → slot ≡ 2
  only slot true e h = eqb-true slot 2 e
  only slot false e h = absurd cc

-- what each worker leaves, and the forall: 5 + (1 + 2) + 3 in s, and in i the last index
abbrev first_left : Memory
first_left = memory_with (pos 2) (pos 3) (held_with_keys (on_a_line (pos 1) ∷ on_a_line (pos 2) ∷ []) (pos 1 ∷ pos 2 ∷ []))

abbrev second_left : Memory
second_left = memory_with (pos 3) (pos 3) (held_with_keys (on_a_line (pos 3) ∷ []) (pos 3 ∷ []))

abbrev after : Memory
after = memory_with (pos 3) (pos 11) (held_with_keys one_two_three (pos 1 ∷ pos 2 ∷ pos 3 ∷ []))

forall_done : (limits : Limits) (done : Deeds) → in_order (body_turn limits (OneInt 0) [] listed) one_two_three before done ≡ Done after done
unfolding int_wrap
forall_done limits done =
    all-done changes (body_turn limits (OneInt 0) [] listed) (body-apart limits 1 (OneInt 0) [] (2 ∷ []) ((1, Sum) ∷ []) listed keeps) before formed (refl, tt) last_apart one_two_three distinct
    (refl, (refl, (refl, tt))) ((0, first_left) ∷ (1, second_left) ∷ []) (refl, (refl, tt)) (refl, (refl, (refl, tt))) ((λ done. refl), ((λ done. refl), tt)) done
