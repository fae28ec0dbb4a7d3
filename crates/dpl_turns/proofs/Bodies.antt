-- The turns of a forall may be made apart, where its body does what it may.
use Rattle.std.proofs.Common.{◌≡◌, ℕ, ◌<◌, ℤ, List, [], ◌∷◌, Option, None, refl, sym, ap, subst}
use Rattle.std.specs.List.{AllByRecursion}
use Rattle.dpl_language.specs.Tree.{Op, Stmts}
use Rattle.dpl_language.specs.Values.{Domain, Index}
use Rattle.dpl_language.specs.Outcome.{no_deeds}
use Rattle.dpl_language.specs.Environment.{Limits}
use Rattle.dpl_language.specs.Loops.{bound_to}
use Rattle.dpl_language.specs.Statements.{exec_all}
use Rattle.dpl_memory.specs.Memory.{Variable, Memory, is_among, in_memory}
use Rattle.dpl_agreement.specs.Agreement.{EndsAlike}
use Rattle.dpl_agreement.proofs.RenamedSame.{renamed_stmts-same}
use Rattle.dpl_agreement.proofs.RunsAlike.{EndsAlike-weaker}
use Rattle.dpl_agreement.proofs.Agreement.{exec_all-alike}
use Rattle.dpl_apart.specs.Operands.{unit_words, AreExact}
use Rattle.dpl_apart.specs.Memories.{Changes, Row, operators_of, held_in, IsFormed, IsLike, MayBeApart}
use Rattle.dpl_turns.specs.Alongside.{begun, IsAlongside}
use Rattle.dpl_turns.specs.Bodies.{OwnNames, NoNames, OneInt, Ints, OneTuple, AreOfRank, ArePlain, HasPlain, loop_variables, own_numbers, own_tuples, body_changes, body_turn, turn_scoping, KeepsApart}
use Rattle.dpl_turns.proofs.Ends.{may_be_apart}
use Rattle.dpl_turns.proofs.Begins.{begins, number_slots-held, tuple_slots-held}
use Rattle.dpl_turns.proofs.Scoped.{GoAlong, turn-simulates}
use Rattle.dpl_turns.proofs.Bound.{others_of, emptied, number_puts, tuple_puts, bound-begun, number-slots, emptied-slots, tuple-slots, seen, seen-own, holds-seen}
use Rattle.dpl_turns.proofs.Silent.{quiet-bound, quiet-exec_all}

others-plain : (slots : List ℕ) → ArePlain (others_of slots)
others-plain [] = tt
others-plain (slot ∷ slots) = (refl, others-plain slots)

plain-variables : (own : OwnNames) (rank : ℕ) (along : List ℕ) → AreOfRank own rank → HasPlain (loop_variables own along)
plain-variables NoNames rank along of_rank = absurd of_rank
plain-variables (OneInt slot) rank along of_rank = refl
plain-variables (Ints first others) rank along of_rank = (refl, others-plain others)
plain-variables (OneTuple slot) rank along of_rank = refl

module _ (limits : Limits) (rank : ℕ) (own : OwnNames) (along written : List ℕ) (reduced : List (ℕ × Op)) (body : Stmts Variable) (keeps : KeepsApart rank own along written reduced body) where
  abbrev h : Changes
  h = body_changes rank own along written reduced

  module _ (t : Index) (first second : Memory) (formed_first : IsFormed h first) (formed : IsFormed h second) (like : IsLike h (seen own t) first second)
      (last : Option Index) (rows : Index → Row) (row : Row) (words : List ℤ) (its : rows (seen own t) ≡ row) (exact : AreExact (operators_of reduced) words) where
    abbrev s : Memory
    s = held_in h first None (λ x. row) (unit_words (operators_of reduced))

    abbrev u : Memory
    u = held_in h second last rows words

    abbrev began : Memory → Memory
    began m = begun (number_puts own along t) (emptied along) (tuple_puts own along t) m

    -- where the index is bound the two memories go along
    bound-along : GoAlong limits h own (seen own t) first second formed_first formed like rows words exact tt (began s) (began u)
    bound-along = (
      begins h (seen own t) first second formed_first formed like (number_puts own along t) (emptied along) (tuple_puts own along t)
          (λ j. ap (is_among j) (sym (number-slots own along t))) (λ j. ap (is_among j) (sym (emptied-slots along))) (λ j. ap (is_among j) (sym (tuple-slots own along t)))
          last rows row words its exact,
      holds-seen own along t u.words.numbers u.tuples keeps.once
          (subst (λ n. AllByRecursion (λ slot. slot < n) (own_numbers own along)) (sym (number_slots-held h second rows words last)) formed.room)
          (subst (λ n. AllByRecursion (λ slot. slot < n) (own_tuples own along)) (sym (tuple_slots-held h second rows words last)) formed.tuple_room),
    )

    body-ends : EndsAlike (IsAlongside h (seen own t) first second rows words) (exec_all limits in_memory body (began s) no_deeds) (exec_all limits in_memory body (began u) no_deeds)
    body-ends =
        EndsAlike-weaker (GoAlong limits h own (seen own t) first second formed_first formed like rows words exact tt) (IsAlongside h (seen own t) first second rows words) (λ s u r. r.0)
        (exec_all limits in_memory body (began s) no_deeds) (exec_all limits in_memory body (began u) no_deeds)
        (subst (λ ts. EndsAlike (GoAlong limits h own (seen own t) first second formed_first formed like rows words exact tt) (exec_all limits in_memory ts (began s) no_deeds) (exec_all limits in_memory body (began u) no_deeds))
        (renamed_stmts-same body)
        (exec_all-alike limits (λ x. x) (turn_scoping h own (seen own t)) in_memory in_memory (GoAlong limits h own (seen own t) first second formed_first formed like rows words exact)
        (turn-simulates limits h own (seen own t) first second formed_first formed like rows words exact) body tt (keeps.fits (seen own t)) (began s) (began u) no_deeds bound-along))

    turn-ends : EndsAlike (IsAlongside h (seen own t) first second rows words) (body_turn limits own along body t s no_deeds) (body_turn limits own along body t u no_deeds)
    turn-ends =
        let one : began s ≡ bound_to in_memory (loop_variables own along) (Domain []) t s = sym (bound-begun own rank along t s keeps.of_rank) in
        let two : began u ≡ bound_to in_memory (loop_variables own along) (Domain []) t u = sym (bound-begun own rank along t u keeps.of_rank) in
        subst (λ m. EndsAlike (IsAlongside h (seen own t) first second rows words) (exec_all limits in_memory body m no_deeds) (body_turn limits own along body t u no_deeds)) one
        (subst (λ m. EndsAlike (IsAlongside h (seen own t) first second rows words) (exec_all limits in_memory body (began s) no_deeds) (exec_all limits in_memory body m no_deeds)) two body-ends)

  pub body-apart : MayBeApart (body_changes rank own along written reduced) (body_turn limits own along body)
  body-apart =
      may_be_apart h (body_turn limits own along body) (seen own) (λ t of_rank. seen-own own rank t keeps.of_rank of_rank)
      (λ t. quiet-bound (loop_variables own along) (Domain []) t (exec_all limits in_memory body) (plain-variables own rank along keeps.of_rank) (quiet-exec_all limits body keeps.silent))
      turn-ends
