-- Turns whose stores are kept back until all their statements are found. Each turn begins where those before it have put theirs, and finds there what it would
-- find before them all, but for elements at indices of their own and ints that are folded; so that what is found of the statements holds in each.
use Rattle.std.proofs.Common.{◌≡◌, ◌≢◌, ◌≤◌, ◌+◌, ℕ, zero, suc, pos, Bool, true, false, List, [], ◌∷◌, map, get_or, Option, Some, None, is_some, refl, sym, subst, ap, ◌∙◌, arith}
use Rattle.dpl_array.specs.Elements.{Row, behind}
use Rattle.dpl_language.specs.Tree.{Stmts}
use Rattle.dpl_language.specs.Outcome.{Done}
use Rattle.dpl_language.specs.Environment.{Limits}
use Rattle.dpl_language.specs.Statements.{exec_all}
use Rattle.dpl_memory.specs.Memory.{Variable, Memory, no_array, no_tuple, array_at, held_at, in_memory}
use Rattle.dpl_nodes.specs.declared.fold.IntFold.{IntFold}
use Rattle.dpl_nodes.specs.declared.step.Names.{Names}
use Rattle.dpl_loop.specs.Runs.{AreDone}
use Rattle.dpl_strips.specs.Strips.{Written, IsFree, IsInOwnTurn, OwnWords, own_word}
use Rattle.dpl_elements.specs.Turns.{bound_at, index_turn}
use Rattle.dpl_elements.proofs.BoundAgain.{bound_at-arrays, bound_at-twice, bound_at-long, bound_at-intents}
use Rattle.dpl_batches.specs.Stores.{unmade, kept_words, by_now, stored_by, stored, all_stored, stored_in_turns, each_stored, HasElement, HaveElements, AreApart, AreUnmade, Begins, AreFound}
use Rattle.dpl_batches.specs.declared.store.Store.{Store}
use Rattle.dpl_batches.proofs.Stores.{turns_stored, turns-first, turns-each, leaves-stored, leaves-in_turns, leaves-all_stored, leaves-turns, own-left, own-put, bound-all_stored, bound-turns}

-- A TURN'S OWN ELEMENTS
-- where the arrays are the same
own-alike : (xs : List Written) (k : ℕ) (s u v : Memory) → v.arrays ≡ u.arrays → OwnWords xs k s u → OwnWords xs k s v
own-alike [] k s u v same own = tt
own-alike (x ∷ xs) k s u v same own = (
  ap (λ held. held_at (behind k x.at) (get_or held x.slot no_array)) same ∙ own.0,
  own-alike xs k s u v same own.1,
)

-- where another array alone has changed: before they are found, and after
own-before : (xs : List Store) (k slot : ℕ) (s v u : Memory) → IsFree (map unmade xs) slot → ((other : ℕ) → other ≢ slot → array_at other v ≡ array_at other s)
    → OwnWords (map unmade xs) k v u → OwnWords (map unmade xs) k s u
own-before [] k slot s v u free same own = tt
own-before (x ∷ xs) k slot s v u free same own = (
  own.0 ∙ ap (held_at (behind k x.at)) (same x.slot (λ is. free.0 (sym is))),
  own-before xs k slot s v u free.1 same own.1,
)

own-after : (xs : List Store) (k slot : ℕ) (s u v : Memory) → IsFree (map unmade xs) slot → ((other : ℕ) → other ≢ slot → array_at other v ≡ array_at other u)
    → OwnWords (map unmade xs) k s u → OwnWords (map unmade xs) k s v
own-after [] k slot s u v free same own = tt
own-after (x ∷ xs) k slot s u v free same own = (
  ap (held_at (behind k x.at)) (same x.slot (λ is. free.0 (sym is))) ∙ own.0,
  own-after xs k slot s u v free.1 same own.1,
)

-- the turns before leave them as they are
own-turns : (names : Names) (xs : List Store) (k : ℕ) (s : Memory) → AreApart names xs → OwnWords (map unmade xs) k s (turns_stored xs k s)
own-turns names [] k s apart = tt
own-turns names (x ∷ xs) k s apart =
    let v = stored_in_turns x k s in
    let others = leaves-turns xs k v in
    let this = leaves-in_turns x k s in
    subst (OwnWords (map unmade (x ∷ xs)) k s) (sym (turns-first x xs k s apart.0)) (
      ap (held_at (behind k x.at)) (others.arrays x.slot apart.0) ∙ own-left x k k s apart.2 apart.3 (omega arith),
      own-before xs k x.slot s v (turns_stored xs k v) apart.0 this.arrays (own-turns names xs k v apart.4),
    )

-- A TURN BEGINS, once those before it have put their stores
pub begins : (names : Names) (xs : List Store) (row : Row) (k : ℕ) (s : Memory) → AreApart names xs
    → Begins names xs row k s (bound_at names (behind k row) (turns_stored xs k s))
begins names xs row k s apart =
    let t = behind k row in
    let m = turns_stored xs k s in
    let bound = bound-turns names xs k t s apart in
    let after = leaves-turns xs k (bound_at names t s) in
    let leaves = leaves-turns xs k s in
    record {
      own = record {
        turn = record {
          numbers = λ slot free. ap (λ (u : Memory). get_or u.words.numbers slot (pos 0)) bound ∙ after.numbers slot free;
          tuples = λ slot. ap (λ (u : Memory). get_or u.tuples slot no_tuple) bound ∙ ap (λ ts. get_or ts slot no_tuple) after.tuples;
          arrays = λ slot free. ap (λ held. get_or held slot no_array) (bound_at-arrays names t m) ∙ leaves.arrays slot free;
        };
        own = own-alike (map unmade xs) k s m (bound_at names t m) (bound_at-arrays names t m) (own-turns names xs k s apart);
      };
      long = bound_at-long names t m ∙ leaves.long;
      intents = bound_at-intents names t m ∙ leaves.intents;
    }

-- WHAT STATEMENTS FIND in a turn, after the stores that are made by now
free-now : (xs : List Store) (slot : ℕ) → IsFree (map by_now xs) slot → IsFree (map unmade xs) slot
free-now [] slot free = tt
free-now (x ∷ xs) slot free = (free.0, free-now xs slot free.1)

own-by : (b : Bool) (f : Option IntFold) (x : Store) (k : ℕ) (s u : Memory) → HasElement b f x k s
    → held_at (behind k x.at) (array_at x.slot u) ≡ held_at (behind k x.at) (array_at x.slot s)
    → held_at (behind k x.at) (array_at x.slot (stored_by b f x k u)) ≡ own_word (record { slot = x.slot; at = x.at; words = kept_words b f x.words }) k s
own-by false f x k s u there own = own
own-by true None x k s u there own = own-put x k u (ap is_some own ∙ there)
own-by true (Some f) x k s u there own = own

own-made : (names : Names) (xs : List Store) (k : ℕ) (s u : Memory) → AreApart names xs → HaveElements xs k s
    → OwnWords (map unmade xs) k s u → OwnWords (map by_now xs) k s (all_stored xs k u)
own-made names [] k s u apart there own = tt
own-made names (x ∷ xs) k s u apart there own =
    let v = stored x k u in
    let others = leaves-all_stored xs k v in
    let this = leaves-stored x k u in (
      ap (held_at (behind k x.at)) (others.arrays x.slot apart.0) ∙ own-by x.is_made x.fold x k s u there.0 own.0,
      own-made names xs k s v apart.4 there.1 (own-after xs k x.slot s u v apart.0 this.arrays own.1),
    )

pub own-now : (names : Names) (xs : List Store) (row : Row) (k : ℕ) (s u : Memory) → AreApart names xs → HaveElements xs k s
    → Begins names xs row k s u → IsInOwnTurn names (map by_now xs) row k s (all_stored xs k u)
own-now names xs row k s u apart there begun =
    let leaves = leaves-all_stored xs k u in
    record {
      turn = record {
        numbers = λ slot free. let f = free-now xs slot free in leaves.numbers slot f ∙ begun.own.turn.numbers slot f;
        tuples = λ slot. ap (λ ts. get_or ts slot no_tuple) leaves.tuples ∙ begun.own.turn.tuples slot;
        arrays = λ slot free. let f = free-now xs slot free in leaves.arrays slot f ∙ begun.own.turn.arrays slot f;
      };
      own = own-made names xs k s u apart there begun.own.own;
    }

-- STORES THAT ARE UNMADE leave a memory as it is, and put no words
unmade-by : (b : Bool) (f : Option IntFold) (x : Store) (k : ℕ) (u : Memory) → b ≡ false → stored_by b f x k u ≡ u
unmade-by b f x k u none = ap (λ b. stored_by b f x k u) none

pub unmade-stored : (xs : List Store) (k : ℕ) (u : Memory) → AreUnmade xs → all_stored xs k u ≡ u
unmade-stored [] k u none = refl
unmade-stored (x ∷ xs) k u none = ap (all_stored xs k) (unmade-by x.is_made x.fold x k u none.0) ∙ unmade-stored xs k u none.1

unmade-there : (xs : List Store) (k : ℕ) (s : Memory) → AreUnmade xs → HaveElements xs k s
unmade-there [] k s none = tt
unmade-there (x ∷ xs) k s none = (subst (λ b. HasElement b x.fold x k s) (sym none.0) tt, unmade-there xs k s none.1)

-- ALL TURNS ARE DONE
module _ (names : Names) (row : Row) (xs : List Store) (s : Memory) where
  -- the memory after so many turns
  abbrev turns_made : ℕ → Memory
  turns_made zero = s
  turns_made (suc k) = bound_at names (behind k row) (turns_stored xs (suc k) s)

  bound-again : (k : ℕ) → bound_at names (behind k row) (turns_made k) ≡ bound_at names (behind k row) (turns_stored xs k s)
  bound-again zero = refl
  bound-again (suc k) = bound_at-twice names (behind (suc k) row) (behind k row) (turns_stored xs (suc k) s)

pub turns-done : (limits : Limits) (names : Names) (body : Stmts Variable) (row : Row) (before after : List Store) (found size last : ℕ) (s : Memory)
    → AreApart names after → AreUnmade before → AreFound limits names row s body None found before after
    → size ≤ found → size ≤ 64 → size ≡ suc last
    → AreDone (index_turn limits names body) row size s (bound_at names (behind last row) (each_stored after size s))
turns-done limits names body row before after found size last s apart none finds few cap some = record {
  between = turns_made names row after s;
  begins = refl;
  ends =
      ap (turns_made names row after s) some
      ∙ ap (bound_at names (behind last row)) (turns-each names after (suc last) s apart)
      ∙ ap (λ n. bound_at names (behind last row) (each_stored after n s)) (sym some);
  each = λ k below done.
      let t = behind k row in
      let m = turns_stored after k s in
      let u = bound_at names t m in
      let begun = begins names after row k s apart in
      let begun_before : Begins names before row k s u = record {
        own = subst (λ xs. IsInOwnTurn names xs row k s u) finds.alike begun.own;
        long = begun.long;
        intents = begun.intents;
      } in
      let next : suc k ≡ k + 1 = omega arith in
      ap (λ m. exec_all limits in_memory body m done) (bound-again names row after s k ∙ sym (unmade-stored before k u none))
      ∙ finds.does k (omega (arith, below, few)) (omega (arith, below, cap)) (unmade-there before k s none) u begun_before done
      ∙ ap (λ m. Done m done) (sym (bound-all_stored names after k t m apart))
      ∙ ap (λ n. Done (turns_made names row after s n) done) next;
}
