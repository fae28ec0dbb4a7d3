-- Turns whose ints are folded onto a word: the body of each does that to one int, which is no variable of the loop. In each turn the variables hold its index, and the word is as the turns before have left it.
use Rattle.std.proofs.Common.{◌≡◌, ◌<◌, ◌≤◌, ◌+◌, ℕ, zero, suc, ℤ, pos, List, length, get_or, None, Ok, refl, sym, subst, ap, ◌∙◌, arith}
use Rattle.std.proofs.lemmas.List.{set-get_or, set-set, get_or-set_same, get_or-set_other}
use Rattle.dpl_array.specs.Elements.{Row, behind}
use Rattle.dpl_language.specs.Tree.{One, StmtTree, NoStmts, Then}
use Rattle.dpl_language.specs.Values.{Int}
use Rattle.dpl_language.specs.Outcome.{Deeds, Done, with_ok, then_do}
use Rattle.dpl_language.specs.Environment.{Limits}
use Rattle.dpl_language.specs.Expressions.{value_of}
use Rattle.dpl_language.specs.Statements.{exec, exec_all}
use Rattle.dpl_words.specs.Words.{IntLeaf, intent_at}
use Rattle.dpl_memory.specs.Memory.{PlainKind, Variable, Memory, no_array, array_at, held_at, with_value_in, in_memory}
use Rattle.dpl_nodes.specs.declared.tree.IntExpr.{IntExpr}
use Rattle.dpl_nodes.specs.declared.fold.IntFold.{IntFold}
use Rattle.dpl_nodes.specs.declared.step.IntDeed.{IntDeed}
use Rattle.dpl_nodes.specs.declared.step.Names.{Names}
use Rattle.dpl_nodes.specs.Typed.{int_view}
use Rattle.dpl_nodes.specs.Steps.{int_changed}
use Rattle.dpl_nodes.proofs.Unread.{cell_read-int}
use Rattle.dpl_loop.specs.declared.strip.Strip.{Strip}
use Rattle.dpl_loop.specs.Runs.{AreDone}
use Rattle.dpl_strips.specs.Strips.{one_written, IsInTurn, IsInOwnTurn, HoldsInTurns}
use Rattle.dpl_elements.specs.Changes.{int_changed_by, int_put, ends_as}
use Rattle.dpl_elements.specs.Turns.{bound_at, IsApart, index_turn}
use Rattle.dpl_elements.proofs.BoundAgain.{bound_at-arrays, bound_at-twice, bound_at-number, bound_at-long, bound_at-intents}
use Rattle.dpl_elements.proofs.Changing.{exec-int}
use Rattle.dpl_batches.specs.Folded.{folded_one, folded_words, Folds}

module _ (names : Names) (slot : ℕ) (first : Row) (s : Memory) where
  -- the memory in the turn of an index, with this word
  abbrev turn_with : ℕ → ℤ → Memory
  turn_with k n = with_value_in (PlainKind IntLeaf) slot (Int n) (bound_at names (behind k first) s)

  is-turn : (k : ℕ) (n : ℤ) → IsInTurn names (one_written slot first) (behind k first) s (turn_with k n)
  is-turn k n = record {
    numbers = λ j free. get_or-set_other (bound_at names (behind k first) s).words.numbers slot j n (pos 0) free.0;
    tuples = λ j. refl;
    arrays = λ j free. ap (λ held. get_or held j no_array) (bound_at-arrays names (behind k first) s);
  }

  -- no array has changed
  own : (k : ℕ) (n : ℤ) → held_at (behind k first) (array_at slot (turn_with k n)) ≡ held_at (behind k first) (array_at slot s)
  own k n = ap (λ held. held_at (behind k first) (get_or held slot no_array)) (bound_at-arrays names (behind k first) s)

  is-own : (row : Row) → row ≡ first → (k : ℕ) (n : ℤ) → IsInOwnTurn names (one_written slot first) row k s (turn_with k n)
  is-own row begins k n =
      subst (λ row. IsInOwnTurn names (one_written slot first) row k s (turn_with k n)) (sym begins) (record { turn = is-turn k n; own = (own k n, tt) })

  -- one int is folded
  one-folded : (limits : Limits) (deed : IntDeed) (e : IntExpr) (fold : IntFold) → slot < length s.words.numbers → Folds deed (intent_at slot s.words.intents) fold
      → (k : ℕ) (n w : ℤ) (done : Deeds) → value_of limits in_memory (int_view e) None (turn_with k n) ≡ Ok (Int w)
      → exec limits in_memory (int_changed deed slot (One (int_view e))) (turn_with k n) done ≡ Done (turn_with k (folded_one fold n w)) done
  one-folded limits deed e fold there folds k n w done value =
      let m = turn_with k n in
      let b = bound_at names (behind k first) s in
      let does = folds slot w m (ap (intent_at slot) (bound_at-intents names (behind k first) s)) in
      let within : slot < length b.words.numbers = omega (arith, there, bound_at-long names (behind k first) s) in
      exec-int limits deed slot (One (int_view e)) m done (cell_read-int e)
      ∙ ap (λ given. ends_as (int_changed_by limits given deed slot (One (int_view e)) m) done) does.0
      ∙ ap (λ r. ends_as (with_ok r (λ v. int_put deed slot v m)) done) value
      ∙ ap (λ r. ends_as r done) does.1
      ∙ ap (λ o. Done (with_value_in (PlainKind IntLeaf) slot (Int (folded_one fold o w)) m) done) (get_or-set_same b.words.numbers slot n (pos 0) within)
      ∙ ap {A = List ℤ} (λ ns. Done (record b { words = record b.words { numbers = ns } }) done) (set-set b.words.numbers slot n (folded_one fold n w))

  -- turns whose body is one statement, which changes that word alone: in each turn it is as they have left it in those before
  module _ (limits : Limits) (stmt : StmtTree Variable) (apart : IsApart names slot) (word_after : ℕ → ℤ) (begun : get_or s.words.numbers slot (pos 0) ≡ word_after 0) where
    -- the memory after so many turns
    abbrev turns_made : ℕ → Memory
    turns_made zero = s
    turns_made (suc k) = turn_with k (word_after (suc k))

    bound-again : (k : ℕ) → bound_at names (behind k first) (turns_made k) ≡ turn_with k (word_after k)
    bound-again zero =
        ap {A = List ℤ} {B = Memory} (λ ns. bound_at names (behind 0 first) (record s { words = record s.words { numbers = ns } })) (sym (set-get_or s.words.numbers slot (pos 0)))
        ∙ bound_at-number names slot (get_or s.words.numbers slot (pos 0)) (behind 0 first) s apart
        ∙ ap (turn_with 0) begun
    bound-again (suc k) =
        bound_at-number names slot (word_after (suc k)) (behind (suc k) first) (bound_at names (behind k first) s) apart
        ∙ ap (with_value_in (PlainKind IntLeaf) slot (Int (word_after (suc k)))) (bound_at-twice names (behind (suc k) first) (behind k first) s)

    word-made : (size last : ℕ) → size ≡ suc last
        → ((k : ℕ) → k < size → (done : Deeds) → exec limits in_memory stmt (turn_with k (word_after k)) done ≡ Done (turn_with k (word_after (suc k))) done)
        → AreDone (index_turn limits names (Then stmt NoStmts)) first size s (turn_with last (word_after size))
    word-made size last some does = record {
      between = turns_made;
      begins = refl;
      ends = ap turns_made some ∙ ap (λ k. turn_with last (word_after k)) (sym some);
      each = λ k below done.
          let next : suc k ≡ k + 1 = omega arith in
          ap (λ m. then_do (exec limits in_memory stmt m done) (exec_all limits in_memory NoStmts)) (bound-again k)
          ∙ ap (λ o. then_do o (exec_all limits in_memory NoStmts)) (does k below done)
          ∙ ap (λ n. Done (turns_made n) done) next;
    }

module _
    (limits : Limits) (names : Names) (deed : IntDeed) (slot : ℕ) (e : IntExpr) (fold : IntFold) (first : Row) (strip : Strip) (size : ℕ) (s : Memory)
    (apart : IsApart names slot) (there : slot < length s.words.numbers) (folds : Folds deed (intent_at slot s.words.intents) fold)
    (begins : strip.row ≡ first) (few : size ≤ strip.size) (cap : size ≤ 64)
    (values : HoldsInTurns names (one_written slot first) (λ u. value_of limits in_memory (int_view e) None u) s strip) where
  abbrev changes : StmtTree Variable
  changes = int_changed deed slot (One (int_view e))

  -- an int of the strip is folded
  strip-folded : (k : ℕ) → k < size → (n : ℤ) (done : Deeds)
      → exec limits in_memory changes (turn_with names slot first s k n) done ≡ Done (turn_with names slot first s k (folded_one fold n (get_or strip.words k (pos 0)))) done
  strip-folded k below n done =
      one-folded names slot first s limits deed e fold there folds k n (get_or strip.words k (pos 0)) done
      (values k (omega (arith, below, few)) (omega (arith, below, cap)) (turn_with names slot first s k n) (is-own names slot first s strip.row begins k n))

  -- in each turn
  abbrev word_after : ℕ → ℤ
  word_after k = folded_words fold (get_or s.words.numbers slot (pos 0)) strip.words k

  pub row-folded : (last : ℕ) → size ≡ suc last → AreDone (index_turn limits names (Then changes NoStmts)) first size s (turn_with names slot first s last (word_after size))
  row-folded last some = word-made names slot first s limits changes apart word_after refl size last some (λ k below done. strip-folded k below (word_after k) done)
