-- A forall over a memory by its parts: each is the turns of a locale's indices over a memory that has their rows, begun with nothing added.
use Rattle.std.proofs.Common.{length, eqb-true, Bool, false, cond, [], ◌∷◌, ◌==◌, ◌≡◌, ℕ, ◌<◌, true, ℤ, List, None, refl, sym, ap, ◌∙◌, subst}
use Rattle.std.specs.Prelude.{IsPermutation, ◌++◌}
use Rattle.std.specs.List.{All, AllByRecursion, filter}
use Rattle.std.proofs.lemmas.List.Elements.{All-from_recursion}
use Rattle.dpl_rules.specs.AnyOrder.{EndsAs}
use Rattle.dpl_domain.proofs.DistinctLemmas.{AreRanges}
use Rattle.dpl_sets.specs.Ranges.{RangeValue}
use Rattle.dpl_sets.specs.Indices.{indices}
use Rattle.dpl_map.specs.Maps.{AxisValue, owner}
use Rattle.dpl_map.specs.Parts.{part}
use Rattle.dpl_language.specs.Values.{Index, Fault, InTurn}
use Rattle.dpl_language.specs.Outcome.{Deeds, no_deeds, Outcome, Done, Stop, Waits, Run, in_order, naming}
use Rattle.dpl_language.specs.Loops.{named_turn}
use Rattle.dpl_memory.specs.Memory.{Memory, array_at, is_among}
use Rattle.dpl_apart.specs.Operands.{all_combined, unit_words, AreExact}
use Rattle.dpl_apart.specs.Rows.{Finished, Failed, Loop, run, onto, dealt, merged, numbered, place_in, IsRising, Adds, IsReducing}
use Rattle.dpl_apart.specs.Apart.{loop_left, last_index, IsApart, named, named_loop}
use Rattle.dpl_apart.specs.Memories.{Changes, Row, IsPiece, IsFormed, IsLike, MayBeApart, IsOfRank, words_in, operators_of, held_in, row_in, turned_in, turn_alone, loop_in, ran_in, KeepApart}
use Rattle.dpl_apart.proofs.ReduceWords.{reduce_words}
use Rattle.dpl_apart.proofs.Split.{run-alike, each-filter, each-weaker}
use Rattle.dpl_apart.proofs.InOrder.{in_order-run, named-apart, named-reducing, has-held, has-stopped, failed-at, failed-among}
use Rattle.dpl_apart.proofs.Places.{indices-rising, indices-of-rank}
use Rattle.dpl_apart.proofs.AnyOrder.{faults-anywhere, leaves-but-last}
use Rattle.dpl_apart.proofs.Located.{in_order-located}
use Rattle.dpl_apart.proofs.Memories.{holds-own}

module _ (h : Changes) (b : Memory) (place : Index → ℕ) (turn : Index → Run Memory) where
  pub keep-reducing : KeepApart h b place turn → IsReducing (AreExact (operators_of h.reduced)) (unit_words (operators_of h.reduced)) (loop_in h b place turn)
  keep-reducing keep = record { monoid = reduce_words (operators_of h.reduced); adds = keep.adds }

  -- ---- turns whose faults name them
  turned-named : (t : Index) (row : Row) (o : Outcome Memory) → turned_in h t row (naming t o) ≡ named t (turned_in h t row o)
  turned-named t row (Done s done) = refl
  turned-named t row (Stop f done) = refl
  turned-named t row (Waits at c op done) = refl

  loop-named : loop_in h b place (named_turn turn) ≡ named_loop (loop_in h b place turn)
  loop-named =
      let alone : Index → Row → Outcome Memory = λ t row. turn t (held_in h b None (λ x. row) (unit_words (operators_of h.reduced))) no_deeds in
      λ i. record (loop_in h b place turn) { turn = λ t row. turned-named t row (alone t row) i }

  pub named-keep : KeepApart h b place turn → KeepApart h b place (named_turn turn)
  named-keep keep = record {
    apart = subst (λ loop. IsApart (IsOfRank h) (AreExact (operators_of h.reduced)) (held_in h b) loop (named_turn turn)) (sym loop-named) (named-apart (held_in h b) (loop_in h b place turn) turn keep.apart);
    adds = λ t row.
        let reducing : IsReducing (AreExact (operators_of h.reduced)) (unit_words (operators_of h.reduced)) (named_loop (loop_in h b place turn)) = named-reducing (loop_in h b place turn) (keep-reducing keep) in
        subst (λ (loop : Loop Row (List ℤ)). Adds (AreExact (operators_of h.reduced)) (loop.turn t row)) (sym loop-named) (reducing.adds t row);
  }

  -- what turns leave of the rows of a memory, where they end without a fault
  pub record HasEnded (ts : List Index) (u : Memory) : Type 0 where
    pub rows : Index → Row
    pub words : List ℤ
    pub ran : ran_in h place turn ts b ≡ Finished rows words
    pub exact : AreExact (operators_of h.reduced) words
    pub state : held_in h b (last_index None ts) rows words ≡ u

  module _ (keep : KeepApart h b place turn) (pieces : (slot : ℕ) → is_among slot h.written ≡ true → IsPiece (array_at slot b)) where
    -- Turns in order over a memory are the run over its rows.
    pub in_order-held : (ts : List Index) (done : Deeds) → AllByRecursion (IsOfRank h) ts → AreExact (operators_of h.reduced) (words_in h.reduced b)
        → in_order turn ts b done ≡ loop_left (held_in h b) (last_index None ts) done (run (loop_in h b place turn) ts (row_in h b) (words_in h.reduced b))
    in_order-held ts done all exact =
        ap (λ s. in_order turn ts s done) (sym (holds-own h b pieces))
        ∙ in_order-run (held_in h b) (loop_in h b place turn) turn (keep-reducing keep) keep.apart ts None (row_in h b) (words_in h.reduced b) done exact all

    -- ---- a worker's memory, whose reduce variables hold nothing
    module _ (begun : words_in h.reduced b ≡ unit_words (operators_of h.reduced)) (ts : List Index) (all : AllByRecursion (IsOfRank h) ts) (done : Deeds) where
      begins : held_in h b None (row_in h b) (unit_words (operators_of h.reduced)) ≡ b
      begins = ap (held_in h b None (row_in h b)) (sym begun) ∙ holds-own h b pieces

      pub worker-done : (u : Memory) (made : Deeds) → in_order turn ts b done ≡ Done u made → HasEnded ts u
      worker-done u made e =
          let held = has-held (held_in h b) (loop_in h b place turn) turn (keep-reducing keep) keep.apart ts None (row_in h b) (unit_words (operators_of h.reduced)) done u made
          (reduce_words (operators_of h.reduced)).one all
          (ap (λ s. in_order turn ts s done) begins ∙ e) in
          record { rows = held.end; words = held.sum; ran = held.ran; exact = held.is_one; state = held.state }

      pub worker-stopped : (f : Fault) (made : Deeds) → in_order turn ts b done ≡ Stop f made → (k : ℕ) × (ran_in h place turn ts b ≡ Failed k f)
      worker-stopped f made e =
          has-stopped (held_in h b) (loop_in h b place turn) turn (keep-reducing keep) keep.apart ts None (row_in h b) (unit_words (operators_of h.reduced)) done f made
          (reduce_words (operators_of h.reduced)).one all
          (ap (λ s. in_order turn ts s done) begins ∙ e)

-- the place at which a worker's turns stop is that of the turn which their fault names
pub stopped-at : (h : Changes) (b : Memory) (place : Index → ℕ) (turn : Index → Run Memory) (ts : List Index) (k : ℕ) (f : Fault) → ran_in h place (named_turn turn) ts b ≡ Failed k f
    → (t : Index) × (f.turn ≡ InTurn t) × (k ≡ place t)
stopped-at h b place turn ts k f e =
    failed-at (loop_in h b place turn) ts (row_in h b) (unit_words (operators_of h.reduced)) k f
    (ap (λ loop. run loop ts (row_in h b) (unit_words (operators_of h.reduced))) (sym (loop-named h b place turn)) ∙ e)

-- and it is a turn of that worker
pub stopped-among : (P : Index → Type 0) (h : Changes) (b : Memory) (place : Index → ℕ) (turn : Index → Run Memory) (ts : List Index) (k : ℕ) (f : Fault) → AllByRecursion P ts
    → ran_in h place (named_turn turn) ts b ≡ Failed k f → (t : Index) × P t × (f.turn ≡ InTurn t) × (k ≡ place t)
stopped-among P h b place turn ts k f all e =
    failed-among (loop_in h b place turn) P ts (row_in h b) (unit_words (operators_of h.reduced)) k f all
    (ap (λ loop. run loop ts (row_in h b) (unit_words (operators_of h.reduced))) (sym (loop-named h b place turn)) ∙ e)

module _ (h : Changes) (m : Memory) (place : Index → ℕ) (turn : Index → Run Memory) (keep : KeepApart h m place turn) (pieces : (slot : ℕ) → is_among slot h.written ≡ true → IsPiece (array_at slot m)) (exact : AreExact (operators_of h.reduced) (words_in h.reduced m)) (axes : List AxisValue) (ranges : List RangeValue) (n : ℕ) (below : (t : Index) → owner axes t < n) (rising : IsRising place (indices ranges)) (of_rank : length ranges ≡ h.rank) (ms : ℕ → Memory) where
  abbrev joins : List ℤ → List ℤ → List ℤ
  joins = all_combined (operators_of h.reduced)

  abbrev units : List ℤ
  units = unit_words (operators_of h.reduced)

  -- A forall is what the workers of a map's locales come to, each over a memory of its own, put together and then put to the reduce
  -- variables as they were: where each index's row is its owner's, and there a turn does by itself what it does over the whole memory.
  pub forall-located : ((t : Index) → row_in h m t ≡ row_in h (ms (owner axes t)) t)
      → ((l : ℕ) → AllByRecursion (λ t. (row : Row) → turn_alone h m turn t row ≡ turn_alone h (ms l) turn t row) (part ranges axes l))
      → (done : Deeds)
      → in_order turn (indices ranges) m done
      ≡ loop_left (held_in h m) (last_index None (indices ranges)) done
      (onto joins (words_in h.reduced m) (merged joins (owner axes) (λ l. ran_in h place turn (part ranges axes l) (ms l)) (Finished (row_in h m) units) (numbered 0 n)))
  forall-located rows alike done =
      let same : row_in h m ≡ dealt (owner axes) (λ l. row_in h (ms l)) = λ i t. rows t i in
      let same_ran : (λ l. run (loop_in h m place turn) (part ranges axes l) (row_in h (ms l)) units) ≡ (λ l. ran_in h place turn (part ranges axes l) (ms l)) =
      λ i l. run-alike (loop_in h m place turn) (turn_alone h (ms l) turn) (part ranges axes l) (row_in h (ms l)) units (alike l) i in
      ap (λ s. in_order turn (indices ranges) s done) (sym (holds-own h m pieces))
      ∙ ap (λ rs. in_order turn (indices ranges) (held_in h m None rs (words_in h.reduced m)) done) same
      ∙ in_order-located (held_in h m) (loop_in h m place turn) turn (keep-reducing h m place turn keep) keep.apart axes ranges (λ l. row_in h (ms l)) n below rising (indices-of-rank ranges h.rank of_rank) None (words_in h.reduced m) done exact
      ∙ ap (λ r. loop_left (held_in h m) (last_index None (indices ranges)) done (onto joins (words_in h.reduced m) (merged joins (owner axes) r (Finished (dealt (owner axes) (λ l. row_in h (ms l))) units) (numbered 0 n)))) same_ran
      ∙ ap (λ rs. loop_left (held_in h m) (last_index None (indices ranges)) done (onto joins (words_in h.reduced m) (merged joins (owner axes) (λ l. ran_in h place turn (part ranges axes l) (ms l)) (Finished rs units) (numbered 0 n)))) (sym same)

-- ---- turns that may be made apart
pub named-may : (h : Changes) (turn : Index → Run Memory) → MayBeApart h turn → MayBeApart h (named_turn turn)
named-may h turn may = record {
  keep = λ b place formed. named-keep h b place turn (may.keep b place formed);
  alike = λ t s b of_rank first second like row.
      let begun : Memory → Memory = λ b. held_in h b None (λ x. row) (unit_words (operators_of h.reduced)) in
      turned-named h s (λ t. 0) turn t row (turn t (begun s) no_deeds) ∙ ap (named t) (may.alike t s b of_rank first second like row) ∙ sym (turned-named h b (λ t. 0) turn t row (turn t (begun b) no_deeds));
}

-- the indices of a part are its locale's
pub part-owners : (owns : Index → ℕ) (l : ℕ) (ts : List Index) → AllByRecursion (λ t. owns t ≡ l) (filter (λ t. owns t == l) ts)
part-owners owns l [] = tt
part-owners owns l (t ∷ ts) = by (owns t == l) refl (part-owners owns l ts) where
  by : (c : Bool) → (owns t == l) ≡ c → AllByRecursion (λ t. owns t ≡ l) (filter (λ t. owns t == l) ts) → AllByRecursion (λ t. owns t ≡ l) (cond c (t ∷ filter (λ t. owns t == l) ts) (filter (λ t. owns t == l) ts))
  by true e rest = (eqb-true (owns t) l e, rest)
  by false e rest = rest

pub each-both : {A : Type 0} (P Q : A → Type 0) (xs : List A) → AllByRecursion P xs → AllByRecursion Q xs → AllByRecursion (λ x. P x × Q x) xs
each-both P Q [] h k = tt
each-both P Q (x ∷ xs) h k = ((h.0, k.0), each-both P Q xs h.1 k.1)

module _ (h : Changes) (turn : Index → Run Memory) (may : MayBeApart h turn) (m : Memory) (formed : IsFormed h m) (exact : AreExact (operators_of h.reduced) (words_in h.reduced m)) (axes : List AxisValue) (ranges : List RangeValue) (limits : AreRanges ranges) (of_rank : length ranges ≡ h.rank) (n : ℕ) (below : (t : Index) → owner axes t < n) (ms : ℕ → Memory) (workers : (l : ℕ) → IsFormed h (ms l)) where
  like-alike : ((t : Index) → IsOfRank h t → IsLike h t m (ms (owner axes t))) → (l : ℕ) → AllByRecursion (λ t. (row : Row) → turn_alone h m turn t row ≡ turn_alone h (ms l) turn t row) (part ranges axes l)
  unfolding part
  like-alike like l =
      each-weaker _ _ (part ranges axes l)
      (λ (t : Index) (own : (owner axes t ≡ l) × IsOfRank h t) row. may.alike t m (ms l) own.1 formed (workers l) (subst (λ k. IsLike h t m (ms k)) own.0 (like t own.1)) row)
      (each-both _ _ (part ranges axes l) (part-owners (owner axes) l (indices ranges)) (each-filter (IsOfRank h) (λ t. owner axes t == l) (indices ranges) (indices-of-rank ranges h.rank of_rank)))

  -- A forall whose turns may be made apart is what its workers come to, each over a memory that is like the whole one for its own indices
  -- and has their rows.
  pub forall-apart : ((t : Index) → row_in h m t ≡ row_in h (ms (owner axes t)) t) → ((t : Index) → IsOfRank h t → IsLike h t m (ms (owner axes t))) → (done : Deeds)
      → in_order turn (indices ranges) m done
      ≡ loop_left (held_in h m) (last_index None (indices ranges)) done
      (onto (all_combined (operators_of h.reduced)) (words_in h.reduced m)
      (merged (all_combined (operators_of h.reduced)) (owner axes) (λ l. ran_in h (place_in (indices ranges)) turn (part ranges axes l) (ms l)) (Finished (row_in h m) (unit_words (operators_of h.reduced))) (numbered 0 n)))
  forall-apart rows like done =
      forall-located h m (place_in (indices ranges)) turn (may.keep m (place_in (indices ranges)) formed) formed.pieces exact axes ranges n below (indices-rising ranges limits) of_rank ms rows (like-alike like) done

-- In whatever order the turns of such a forall are made, the same of them have faults, and where none has the same rows and reduce variables
-- are left. What is left besides is what the last one leaves.
module _ (h : Changes) (turn : Index → Run Memory) (may : MayBeApart h turn) (m : Memory) (formed : IsFormed h m) (exact : AreExact (operators_of h.reduced) (words_in h.reduced m)) (ranges : List RangeValue) (limits : AreRanges ranges) (of_rank : length ranges ≡ h.rank) (done : Deeds) where
  places : Index → ℕ
  places = place_in (indices ranges)

  keeps : KeepApart h m places turn
  keeps = may.keep m places formed

  own : held_in h m None (row_in h m) (words_in h.reduced m) ≡ m
  own = holds-own h m formed.pieces

  all : All (IsOfRank h) (indices ranges)
  all = All-from_recursion (IsOfRank h) (indices ranges) (indices-of-rank ranges h.rank of_rank)

  rises : IsRising places (indices ranges)
  unfolding places
  rises = indices-rising ranges limits

  pub forall-faults : (before : List Index) (t : Index) (rest : List Index) (u : Memory) (made : Deeds) → IsPermutation (before ++ t ∷ rest) (indices ranges)
      → in_order turn before m done ≡ Done u made → EndsAs (turn t m done) (turn t u made)
  forall-faults before t rest u made p e =
      subst (λ s. EndsAs (turn t s done) (turn t u made)) own
      (faults-anywhere (held_in h m) (loop_in h m places turn) turn (keep-reducing h m places turn keeps) keeps.apart (indices ranges) None (row_in h m) (words_in h.reduced m) done exact all rises before t rest u made p
      (ap (λ s. in_order turn before s done) own ∙ e))

  pub forall-leaves : (us : List Index) (u : Memory) (made : Deeds) → IsPermutation us (indices ranges) → in_order turn (indices ranges) m done ≡ Done u made
      → (rows : Index → Row) × (words : List ℤ) × (u ≡ held_in h m (last_index None (indices ranges)) rows words) × (in_order turn us m done ≡ Done (held_in h m (last_index None us) rows words) made)
  forall-leaves us u made p e =
      let same = leaves-but-last (held_in h m) (loop_in h m places turn) turn (keep-reducing h m places turn keeps) keeps.apart us (indices ranges) None (row_in h m) (words_in h.reduced m) done u made exact all p
      (ap (λ s. in_order turn (indices ranges) s done) own ∙ e) in
      (same.0, same.1, same.2, ap (λ s. in_order turn us s done) (sym own) ∙ same.3)

-- Turns in another order of the same indices, of which the last is the same, leave the same memory: as a part's, domain by domain.
pub leaves-reordered : (h : Changes) (turn : Index → Run Memory) (may : MayBeApart h turn) (b : Memory) (formed : IsFormed h b) (exact : AreExact (operators_of h.reduced) (words_in h.reduced b)) (us ts : List Index)
    → All (IsOfRank h) us → IsPermutation ts us → last_index None us ≡ last_index None ts → (u : Memory) (done made : Deeds) → in_order turn us b done ≡ Done u made → in_order turn ts b done ≡ Done u made
leaves-reordered h turn may b formed exact us ts all p last u done made e =
    let keep : KeepApart h b (λ t. 0) turn = may.keep b (λ t. 0) formed in
    let own : held_in h b None (row_in h b) (words_in h.reduced b) ≡ b = holds-own h b formed.pieces in
    let same =
    leaves-but-last (held_in h b) (loop_in h b (λ t. 0) turn) turn (keep-reducing h b (λ t. 0) turn keep) keep.apart ts us None (row_in h b) (words_in h.reduced b) done u made exact all p
    (ap (λ s. in_order turn us s done) own ∙ e) in
    ap (λ s. in_order turn ts s done) (sym own) ∙ same.3 ∙ ap (λ last. Done (held_in h b last same.0 same.1) made) (sym last) ∙ ap (λ s. Done s made) (sym same.2)
