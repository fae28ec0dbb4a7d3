-- A loop whose turns may be made apart is what the workers of some locales come to, each over its share of the memory: where these locales own
-- all of its indices.
use Rattle.std.proofs.Common.{◌≡◌, ℕ, ◌<◌, ◌==◌, true, false, ℤ, List, [], ◌∷◌, None, map, refl, sym, ap, ◌∙◌, subst, arith}
use Rattle.std.specs.List.{AllByRecursion, list_any}
use Rattle.std.proofs.lemmas.Bool.Decides.{nat_tests}
use Rattle.std.proofs.lemmas.List.Elements.{All-from_recursion}
use Rattle.dpl_language.specs.Values.{Index}
use Rattle.dpl_language.specs.Ranges.{same_index}
use Rattle.dpl_language.specs.Outcome.{Deeds, no_deeds, Done, Run, in_order}
use Rattle.dpl_memory.specs.Memory.{Memory, is_among}
use Rattle.dpl_apart.specs.Operands.{all_combined, unit_words, AreExact}
use Rattle.dpl_apart.specs.Rows.{Ran, Finished, Failed, Loop, run, onto, part_of, is_owned, dealt, merged, AreOnce, IsDistinct, place_in, AllAdd}
use Rattle.dpl_apart.specs.Apart.{loop_left, last_index}
use Rattle.dpl_apart.specs.Memories.{Changes, Row, IsFormed, MayBeApart, KeepApart, IsOfRank, words_in, operators_of, held_in, row_in, turn_alone, loop_in, ran_in}
use Rattle.dpl_apart.specs.Workers.{worker_memory, locales_of, together}
use Rattle.dpl_apart.proofs.ReduceWords.{reduce_words}
use Rattle.dpl_apart.proofs.Split.{each-filter, each-weaker, all-add, run-alike}
use Rattle.dpl_apart.proofs.Parts.{run-merged, merged-finished}
use Rattle.dpl_apart.proofs.Places.{place_in-rising}
use Rattle.dpl_apart.proofs.Located.{of-each}
use Rattle.dpl_apart.proofs.Foralls.{in_order-held, HasEnded, worker-done, part-owners, each-both}
use Rattle.dpl_apart.proofs.Shares.{filter-listed, worker-formed, worker-units, worker-like, worker-row}
use Rattle.dpl_apart.proofs.Rejoined.{HasLeft, together-held, all-listed}

-- ---- lists
pub each-mapped : {A B : Type 0} (f : A → B) (P : B → Type 0) (xs : List A) → AllByRecursion (λ x. P (f x)) xs → AllByRecursion P (map f xs)
each-mapped f P [] h = tt
each-mapped f P (x ∷ xs) h = (h.0, each-mapped f P xs h.1)

-- Where each locale whose part isn't empty is among some, each index is owned by one of these.
pub all-owned : (owns : Index → ℕ) (ts : List Index) (n : ℕ) → ((t : Index) → owns t < n) → (ls : List ℕ) → ((l : ℕ) → l < n → (part_of owns l ts ≡ [] → ⊥) → is_among l ls ≡ true)
    → AllByRecursion (λ t. is_owned owns ls t ≡ true) ts
all-owned owns ts n below ls there = each-weaker (λ t. list_any (same_index t) ts ≡ true) (λ t. is_owned owns ls t ≡ true) ts owned (all-listed ts) where
  owned : (t : Index) → list_any (same_index t) ts ≡ true → is_owned owns ls t ≡ true
  owned t listed =
      let passes : (owns t == owns t) ≡ true = grind (arith, nat_tests) in
      there (owns t) (below t)
      (λ empty. let no : true ≡ false = sym listed ∙ sym (filter-listed (λ x. owns x == owns t) t ts passes) ∙ ap (list_any (same_index t)) empty in cc)

-- ---- the rows and the words behind turns that have ended
abbrev rows_of : {T V : Type 0} → (Index → T) → Ran T V → Index → T
rows_of rows (Finished ends a) = ends
rows_of rows (Failed k f) = rows

abbrev sum_of : {T V : Type 0} → V → Ran T V → V
sum_of unit (Finished ends a) = a
sum_of unit (Failed k f) = unit

module _ (h : Changes) (turn : Index → Run Memory) (may : MayBeApart h turn) (m : Memory) (formed : IsFormed h m) (exact : AreExact (operators_of h.reduced) (words_in h.reduced m)) (owns : Index → ℕ) (ts : List Index) (distinct : IsDistinct ts) (all : AllByRecursion (IsOfRank h) ts) where
  abbrev share : ℕ → Memory
  share l = worker_memory h owns l m

  -- what a worker's turns come to
  abbrev ran : ℕ → Ran Row (List ℤ)
  ran l = ran_in h (place_in ts) turn (part_of owns l ts) (share l)

  abbrev joins : List ℤ → List ℤ → List ℤ
  joins = all_combined (operators_of h.reduced)

  abbrev units : List ℤ
  units = unit_words (operators_of h.reduced)

  pub share-formed : (l : ℕ) → IsFormed h (share l)
  share-formed l = worker-formed h owns l m formed

  pub keeps : (l : ℕ) → KeepApart h (share l) (place_in ts) turn
  keeps l = may.keep (share l) (place_in ts) (share-formed l)

  pub part-of-rank : (l : ℕ) → AllByRecursion (IsOfRank h) (part_of owns l ts)
  part-of-rank l = each-filter (IsOfRank h) (λ t. owns t == l) ts all

  alike : (l : ℕ) → AllByRecursion (λ t. (row : Row) → turn_alone h m turn t row ≡ turn_alone h (share l) turn t row) (part_of owns l ts)
  alike l =
      each-weaker _ _ (part_of owns l ts)
      (λ (t : Index) (own : (owns t ≡ l) × IsOfRank h t) row. may.alike t m (share l) own.1 formed (share-formed l) (worker-like h owns l m formed t own.0) row)
      (each-both (λ t. owns t ≡ l) (IsOfRank h) (part_of owns l ts) (part-owners owns l ts) (part-of-rank l))

  -- A forall is what the workers of some locales come to, where these own all indices, put to the reduce variables as they were.
  pub forall-shared : (ls : List ℕ) → AreOnce ls → AllByRecursion (λ t. is_owned owns ls t ≡ true) ts → (done : Deeds)
      → in_order turn ts m done
      ≡ loop_left (held_in h m) (last_index None ts) done (onto joins (words_in h.reduced m) (merged joins owns ran (Finished (row_in h m) units) ls))
  forall-shared ls once owned done =
      let loop : Loop Row (List ℤ) = loop_in h m (place_in ts) turn in
      let keep : KeepApart h m (place_in ts) turn = may.keep m (place_in ts) formed in
      let same : row_in h m ≡ dealt owns (λ l. row_in h (share l)) = λ i t. worker-row h owns (owns t) m formed t refl i in
      let same_ran : (λ l. run loop (part_of owns l ts) (row_in h (share l)) units) ≡ ran =
      λ i l. run-alike loop (turn_alone h (share l) turn) (part_of owns l ts) (row_in h (share l)) units (alike l) i in
      let add : AllByRecursion (λ l. AllAdd (AreExact (operators_of h.reduced)) loop (part_of owns l ts) (row_in h (share l))) ls =
      of-each _ ls (λ l. all-add (AreExact (operators_of h.reduced)) loop keep.adds (part_of owns l ts) (row_in h (share l))) in
      in_order-held h m (place_in ts) turn keep formed.pieces ts done all exact
      ∙ ap (loop_left (held_in h m) (last_index None ts) done)
      (ap (λ rs. run loop ts rs (words_in h.reduced m)) same
      ∙ run-merged loop (reduce_words (operators_of h.reduced)) owns (λ l. row_in h (share l)) ts (place_in-rising ts distinct) ls once add
      (All-from_recursion (λ t. is_owned owns ls t ≡ true) ts owned) (words_in h.reduced m) exact
      ∙ ap (λ r. onto joins (words_in h.reduced m) (merged joins owns r (Finished (dealt owns (λ l. row_in h (share l))) units) ls)) same_ran
      ∙ ap (λ rs. onto joins (words_in h.reduced m) (merged joins owns ran (Finished rs units) ls)) (sym same))

  -- ---- workers that end
  abbrev ends : ℕ → Index → Row
  ends l = rows_of (row_in h m) (ran l)

  abbrev sums : ℕ → List ℤ
  sums l = sum_of units (ran l)

  -- what a worker's turns come to where they end
  pub share-ended : (l : ℕ) (u : Memory) → ((done : Deeds) → in_order turn (part_of owns l ts) (share l) done ≡ Done u done) → HasEnded h (share l) (place_in ts) turn (part_of owns l ts) u
  share-ended l u e =
      worker-done h (share l) (place_in ts) turn (keeps l) (share-formed l).pieces (worker-units h owns l m formed) (part_of owns l ts) (part-of-rank l) no_deeds u no_deeds (e no_deeds)

  has-left : (w : ℕ × Memory) → ((done : Deeds) → in_order turn (part_of owns w.0 ts) (share w.0) done ≡ Done w.1 done) → HasLeft h owns m ts ends sums w
  has-left w e =
      let its = share-ended w.0 w.1 e in
      let rows : ends w.0 ≡ its.rows = ap (rows_of (row_in h m)) its.ran in
      let words : sums w.0 ≡ its.words = ap (sum_of units) its.ran in
      record {
        exact = subst (AreExact (operators_of h.reduced)) (sym words) its.exact;
        state = (λ i. held_in h (share w.0) (last_index None (part_of owns w.0 ts)) (rows i) (words i)) ∙ its.state;
      }

  has-finished : (w : ℕ × Memory) → ((done : Deeds) → in_order turn (part_of owns w.0 ts) (share w.0) done ≡ Done w.1 done) → ran w.0 ≡ Finished (ends w.0) (sums w.0)
  has-finished w e =
      let its = share-ended w.0 w.1 e in
      let rows : ends w.0 ≡ its.rows = ap (rows_of (row_in h m)) its.ran in
      let words : sums w.0 ≡ its.words = ap (sum_of units) its.ran in
      its.ran ∙ (λ i. Finished (sym rows i) (sym words i))

  pub all-done : (ws : List (ℕ × Memory)) → AreOnce (locales_of ws) → AllByRecursion (λ t. is_owned owns (locales_of ws) t ≡ true) ts
      → AllByRecursion (λ (w : ℕ × Memory). (done : Deeds) → in_order turn (part_of owns w.0 ts) (share w.0) done ≡ Done w.1 done) ws → (done : Deeds)
      → in_order turn ts m done ≡ Done (together h owns ws (last_index None ts) m) done
  all-done ws once owned ended done =
      let left : AllByRecursion (HasLeft h owns m ts ends sums) ws = each-weaker _ _ ws has-left ended in
      let finished : AllByRecursion (λ l. ran l ≡ Finished (ends l) (sums l)) (locales_of ws) = each-mapped _ _ ws (each-weaker _ _ ws has-finished ended) in
      forall-shared (locales_of ws) once owned done
      ∙ ap (λ r. loop_left (held_in h m) (last_index None ts) done (onto joins (words_in h.reduced m) r)) (merged-finished joins units owns ran (row_in h m) ends sums (locales_of ws) finished)
      ∙ ap (λ s. Done s done) (sym (together-held h owns m ts ends sums formed ws left exact owned))
