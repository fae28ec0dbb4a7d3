-- What two memories that went along in a turn say of it: the one holds the row that the turn leaves in the other, and what it adds there; and
-- turns over such memories may be made apart.
use Rattle.std.proofs.Common.{eqb-true, ◌≡◌, ℕ, ◌<◌, Bool, true, false, ℤ, pos, List, [], ◌∷◌, Option, Some, None, Result, Ok, Err, is_some, length, get_or, refl, sym, ap, ◌∙◌, subst, arith}
use Rattle.std.specs.Prelude.{if◌then◌else◌, unwrap_or, not, ◌==◌, ◌||◌, ◌&&◌}
use Rattle.std.specs.List.{AllByRecursion, list_any}
use Rattle.std.proofs.lemmas.List.{ext_get_or}
use Rattle.dpl_language.specs.Tree.{Op}
use Rattle.dpl_language.specs.Values.{Index, Fault}
use Rattle.dpl_language.specs.Ranges.{same_index}
use Rattle.dpl_language.specs.Outcome.{Deeds, no_deeds, Outcome, Done, Stop, Waits, Run}
use Rattle.dpl_words.specs.Words.{no_range}
use Rattle.dpl_memory.specs.Memory.{Held, Memory, no_tuple, no_array, array_at, held_at, word_at, is_among, rest_of}
use Rattle.dpl_agreement.specs.Agreement.{EndsAlike}
use Rattle.dpl_apart.specs.Operands.{all_combined, unit_words, AreExact}
use Rattle.dpl_apart.specs.Rows.{Leaves, with_row, Adds}
use Rattle.dpl_apart.specs.Apart.{turn_left}
use Rattle.dpl_apart.specs.Memories.{Changes, Row, held_by_if, with_elements, with_words, with_values, with_left, words_in, operators_of, held_in, row_in, turned_in, turn_alone, IsFormed, is_kept, IsLike, IsOfRank, KeepApart, MayBeApart}
use Rattle.dpl_apart.specs.Workers.{worker_end}
use Rattle.dpl_apart.proofs.Indices.{same_index-refl, same_index-sound}
use Rattle.dpl_apart.proofs.Memories.{map-same, element-here, element-length, word-found, words-length}
use Rattle.dpl_apart.proofs.Rejoined.{or-true}
use Rattle.dpl_apart.proofs.ReduceWords.{reduce_words}
use Rattle.dpl_turns.specs.Alongside.{slots_of, words_at, ValuesAlong, IsAlongside, KeepsRest, IsQuiet}
use Rattle.dpl_turns.proofs.Lists.{values-length, value-among, value-other, own-words, words-alike}

-- ---- slots
-- a slot that begins anew is no reduce variable's
pub apart-slots : (ps : List (ℕ × Op)) (slots : List ℕ) (j : ℕ) → AllByRecursion (λ (p : ℕ × Op). is_among p.0 slots ≡ false) ps → is_among j slots ≡ true → is_among j (slots_of ps) ≡ false
apart-slots [] slots j h among = refl
apart-slots (p ∷ ps) slots j h among = by (j == p.0) refl (apart-slots ps slots j h.1 among) where
  by : (c : Bool) → (j == p.0) ≡ c → is_among j (slots_of ps) ≡ false → (c || is_among j (slots_of ps)) ≡ false
  by true e rest = absurd (let same : is_among j slots ≡ is_among p.0 slots = ap (λ i. is_among i slots) (eqb-true j p.0 e) in let no : true ≡ false = sym among ∙ same ∙ h.0 in cc)
  by false e rest = rest

-- and one that turns don't change is neither
pub kept-slots : (h : Changes) (slot : ℕ) → is_kept h slot ≡ true → (is_among slot h.numbers ≡ false) × (is_among slot (slots_of h.reduced) ≡ false)
kept-slots h slot kept = by (is_among slot h.numbers) (is_among slot (slots_of h.reduced)) kept where
  by : (c d : Bool) → (not c && not d) ≡ true → (c ≡ false) × (d ≡ false)
  by true d e = absurd cc
  by false true e = absurd cc
  by false false e = (refl, refl)

pub exact-length : (ops : List Op) (ws : List ℤ) → AreExact ops ws → length ws ≡ length ops
exact-length [] [] h = refl
exact-length [] (w ∷ ws) h = absurd h
exact-length (op ∷ ops) [] h = absurd h
exact-length (op ∷ ops) (w ∷ ws) h = let rest = exact-length ops ws h.1 in omega (arith, rest)

-- ---- arrays
all-listed : (P : Index → Type 0) (keys : List Index) → ((x : Index) → list_any (same_index x) keys ≡ true → P x) → AllByRecursion P keys
all-listed P [] h = tt
all-listed P (k ∷ ks) h = (h k (ap (λ c. c || list_any (same_index k) ks) (same_index-refl k)), all-listed P ks (λ x e. h x (ap (λ c. same_index x k || c) e ∙ or-true (same_index x k))))

-- rows that are the same at the indices which arrays have
rows-same : (written : List ℕ) (rows others : Index → Row) (hs : List Held)
    → ((slot : ℕ) (x : Index) → is_among slot written ≡ true → list_any (same_index x) (get_or hs slot no_array).keys ≡ true → (rows x).elements slot ≡ (others x).elements slot)
    → with_elements 0 written rows hs ≡ with_elements 0 written others hs
rows-same written rows others hs same =
    ext_get_or no_array (with_elements 0 written rows hs) (with_elements 0 written others hs) (element-length 0 written rows hs ∙ sym (element-length 0 written others hs))
    (λ slot within. element-here slot written rows hs ∙ by slot (is_among slot written) refl ∙ sym (element-here slot written others hs))
  where
    by : (slot : ℕ) (c : Bool) → is_among slot written ≡ c
        → held_by_if c (λ x. (rows x).elements slot) (get_or hs slot no_array) ≡ held_by_if c (λ x. (others x).elements slot) (get_or hs slot no_array)
    by slot true e =
        let a : Held = get_or hs slot no_array in
        ap (λ ws. record a { words = ws })
        (map-same (λ x. (rows x).elements slot) (λ x. (others x).elements slot) a.keys (all-listed (λ x. (rows x).elements slot ≡ (others x).elements slot) a.keys (λ x. same slot x e)))
    by slot false e = refl

module _ (h : Changes) (b : Memory) (rows : Index → Row) (hs : List Held) (are : hs ≡ with_elements 0 h.written rows b.arrays) where
  pub array-of : (slot : ℕ) → get_or hs slot no_array ≡ held_by_if (is_among slot h.written) (λ t. (rows t).elements slot) (array_at slot b)
  array-of slot = ap (λ hs. get_or hs slot no_array) are ∙ element-here slot h.written rows b.arrays

  pub element-of : (slot : ℕ) (t : Index) → is_among slot h.written ≡ true
      → held_at t (get_or hs slot no_array) ≡ (if list_any (same_index t) (array_at slot b).keys then Some ((rows t).elements slot) else None)
  element-of slot t e =
      ap (held_at t) (array-of slot ∙ ap (λ c. held_by_if c (λ t. (rows t).elements slot) (array_at slot b)) e) ∙ word-found t (λ t. (rows t).elements slot) (array_at slot b).keys

  pub lent-array : (slot : ℕ) → is_among slot h.written ≡ false → get_or hs slot no_array ≡ array_at slot b
  lent-array slot e = array-of slot ∙ ap (λ c. held_by_if c (λ t. (rows t).elements slot) (array_at slot b)) e

  pub ranges-of : (slot : ℕ) → (get_or hs slot no_array).ranges ≡ (array_at slot b).ranges
  ranges-of slot = ap (λ (a : Held). a.ranges) (array-of slot) ∙ by (is_among slot h.written) where
    by : (c : Bool) → (held_by_if c (λ t. (rows t).elements slot) (array_at slot b)).ranges ≡ (array_at slot b).ranges
    by true = refl
    by false = refl

-- an index that a piece has, by its words
has-word : (t : Index) (keys : List Index) (ws : List ℤ) → length ws ≡ length keys → list_any (same_index t) keys ≡ is_some (word_at t keys ws)
has-word t [] ws long = refl
has-word t (k ∷ ks) [] long = absurd (omega (arith, long))
has-word t (k ∷ ks) (w ∷ ws) long =
    elim (same_index t k) as (λ c. (c || list_any (same_index t) ks) ≡ is_some (if c then Some w else word_at t ks ws)) [ true ↦ refl | false ↦ has-word t ks ws (omega (arith, long)) ]

-- memories that are like for an index have it alike
pub same-keys : (h : Changes) (t : Index) (s b : Memory) → IsFormed h s → IsFormed h b → IsLike h t s b → (slot : ℕ) → is_among slot h.written ≡ true
    → list_any (same_index t) (array_at slot s).keys ≡ list_any (same_index t) (array_at slot b).keys
same-keys h t s b first second like slot e =
    has-word t (array_at slot s).keys (array_at slot s).words (first.pieces slot e).long ∙ ap is_some (like.own slot e)
    ∙ sym (has-word t (array_at slot b).keys (array_at slot b).words (second.pieces slot e).long)

pub like-itself : (h : Changes) (t : Index) (b : Memory) → IsLike h t b b
like-itself h t b = record {
  own = λ slot e. refl;
  lent = λ slot e i. refl;
  array_domains = λ slot. refl;
  numbers = λ slot e. refl;
  ranges = λ slot e. refl;
  tuples = λ slot e. refl;
  number_slots = refl;
  range_slots = refl;
  tuple_slots = refl;
  array_slots = refl;
  domains = refl;
  intents = refl;
  sets = refl;
  rest = refl;
}

-- ---- values that go along
values-end : {A : Type 0} (d : A) (slots : List ℕ) (kept xs ys : List A) (value : ℕ → A) → ValuesAlong d slots kept xs ys → ((j : ℕ) → is_among j slots ≡ true → value j ≡ get_or xs j d)
    → ys ≡ with_values slots value kept
values-end {A} d slots kept xs ys value along left =
    ext_get_or d ys (with_values slots value kept) (along.long ∙ sym (values-length slots value kept)) (λ j within. by j (is_among j slots) refl within)
  where
    by : (j : ℕ) (c : Bool) → is_among j slots ≡ c → j < length ys → get_or ys j d ≡ get_or (with_values slots value kept) j d
    by j true e within =
        let long = along.long in
        ap (λ xs. get_or xs j d) (sym along.same) ∙ sym (left j e) ∙ sym (value-among slots value kept j d e (omega (arith, within, long)))
    by j false e within = along.stay j e ∙ sym (value-other slots value kept j d e)

module _ (h : Changes) (b : Memory) (formed : IsFormed h b) (t : Index) (rows : Index → Row) (words : List ℤ) (s u : Memory) (along : IsAlongside h t b b rows words s u) (kept : rest_of u ≡ rest_of b) where
  abbrev left : Row
  left = row_in h s t

  abbrev added : List ℤ
  added = all_combined (operators_of h.reduced) words (words_in h.reduced s)

  left-element : (slot : ℕ) → is_among slot h.written ≡ true → list_any (same_index t) (array_at slot b).keys ≡ true → left.elements slot ≡ (along.arrays.first_rows t).elements slot
  left-element slot e listed =
      ap (λ c. if c then unwrap_or (held_at t (array_at slot s)) (pos 0) else pos 0) e
      ∙ ap (λ o. unwrap_or o (pos 0)) (element-of h b along.arrays.first_rows s.arrays along.arrays.first_arrays slot t e ∙ ap (λ c. if c then Some ((along.arrays.first_rows t).elements slot) else None) listed)

  arrays-end : u.arrays ≡ with_elements 0 h.written (with_row t left rows) b.arrays
  arrays-end = along.arrays.second_arrays ∙ rows-same h.written along.arrays.second_rows (with_row t left rows) b.arrays (λ slot x e listed. by slot x (same_index x t) refl e listed) where
    by : (slot : ℕ) (x : Index) (c : Bool) → same_index x t ≡ c → is_among slot h.written ≡ true → list_any (same_index x) (array_at slot b).keys ≡ true
        → (along.arrays.second_rows x).elements slot ≡ (if c then left else rows x).elements slot
    by slot x true at e listed =
        let here : x ≡ t = same_index-sound x t at in
        ap (λ x. (along.arrays.second_rows x).elements slot) here ∙ sym (along.arrays.own slot)
        ∙ sym (left-element slot e (ap (λ x. list_any (same_index x) (array_at slot b).keys) (sym here) ∙ listed))
    by slot x false at e listed = along.arrays.others x slot at

  long-words : length (words_in h.reduced u) ≡ length h.reduced
  long-words = by h.reduced where
    by : (ps : List (ℕ × Op)) → length (words_at ps u.words.numbers) ≡ length ps
    by [] = refl
    by (p ∷ ps) = let rest = by ps in omega (arith, rest)

  numbers-end : u.words.numbers ≡ with_values h.numbers left.numbers (with_words h.reduced added b.words.numbers)
  numbers-end =
      ext_get_or (pos 0) u.words.numbers (with_values h.numbers left.numbers (with_words h.reduced added b.words.numbers))
      (along.numbers.second_slots ∙ sym (values-length h.numbers left.numbers (with_words h.reduced added b.words.numbers) ∙ words-length h.reduced added b.words.numbers))
      (λ j within. by j (is_among j h.numbers) refl within)
    where
      by : (j : ℕ) (c : Bool) → is_among j h.numbers ≡ c → j < length u.words.numbers
          → get_or u.words.numbers j (pos 0) ≡ get_or (with_values h.numbers left.numbers (with_words h.reduced added b.words.numbers)) j (pos 0)
      by j true e within =
          let long = along.numbers.second_slots in
          let kept = words-length h.reduced added b.words.numbers in
          let its : left.numbers j ≡ get_or s.words.numbers j (pos 0) = ap (λ c. if c then get_or s.words.numbers j (pos 0) else pos 0) e in
          sym (along.numbers.same j (apart-slots h.reduced h.numbers j formed.stay e)) ∙ sym its
          ∙ sym (value-among h.numbers left.numbers (with_words h.reduced added b.words.numbers) j (pos 0) e (omega (arith, within, long, kept)))
      by j false e within =
          ap (λ ns. get_or ns j (pos 0)) (sym (own-words h.reduced u.words.numbers))
          ∙ words-alike h.reduced (words_in h.reduced u) u.words.numbers b.words.numbers j long-words along.numbers.second_slots
          (λ other. along.numbers.stay j (ap (λ c. not c && not (is_among j (slots_of h.reduced))) e ∙ ap not other))
          ∙ ap (λ ws. get_or (with_words h.reduced ws b.words.numbers) j (pos 0)) along.numbers.reduced
          ∙ sym (value-other h.numbers left.numbers (with_words h.reduced added b.words.numbers) j (pos 0) e)

  -- so the second memory holds the row that is left in the first, and what is added there
  pub holds-left : u ≡ held_in h b (Some t) (with_row t left rows) added
  holds-left = now ∙ sym (ap (λ row. with_left h row (record b { words = record b.words { numbers = with_words h.reduced added b.words.numbers }; arrays = with_elements 0 h.written (with_row t left rows) b.arrays })) here) where
    here : with_row t left rows t ≡ left
    here = ap (λ c. if c then left else rows t) (same_index-refl t)

    now : u ≡ with_left h left (record b { words = record b.words { numbers = with_words h.reduced added b.words.numbers }; arrays = with_elements 0 h.written (with_row t left rows) b.arrays })
    now =
        let numbers = numbers-end in
        let ranges = values-end no_range h.ranges b.words.ranges s.words.ranges u.words.ranges left.ranges along.ranges (λ j e. ap (λ c. if c then get_or s.words.ranges j no_range else no_range) e) in
        let tuples = values-end no_tuple h.tuples b.tuples s.tuples u.tuples left.tuples along.tuples (λ j e. ap (λ c. if c then get_or s.tuples j no_tuple else no_tuple) e) in
        let arrays = arrays-end in
        let domains = along.domains.1 in
        let rest = kept in
        let intents = along.intents.1 in
        let sets = along.sets.1 in
        λ i. record {
          words = record { numbers = numbers i; ranges = ranges i; intents = intents i; sets = sets i };
          domains = domains i;
          tuples = tuples i;
          arrays = arrays i;
          roots = (rest i).roots;
          cells = (rest i).cells;
          here = (rest i).here;
          coming = (rest i).coming;
        }

-- ---- what both memories have
module _ (h : Changes) (t : Index) (first second : Memory) (formed_first : IsFormed h first) (formed : IsFormed h second) (like : IsLike h t first second) (rows : Index → Row) (words : List ℤ) (s u : Memory) (along : IsAlongside h t first second rows words s u) where
  pub element-along : (slot : ℕ) → is_among slot h.written ≡ true → held_at t (array_at slot s) ≡ held_at t (array_at slot u)
  element-along slot e =
      element-of h first along.arrays.first_rows s.arrays along.arrays.first_arrays slot t e
      ∙ ap (λ c. if c then Some ((along.arrays.first_rows t).elements slot) else None) (same-keys h t first second formed_first formed like slot e)
      ∙ ap (λ w. if list_any (same_index t) (array_at slot second).keys then Some w else None) (along.arrays.own slot)
      ∙ sym (element-of h second along.arrays.second_rows u.arrays along.arrays.second_arrays slot t e)

  pub lent-along : (slot : ℕ) → is_among slot h.written ≡ false → (i : Index) → held_at i (array_at slot s) ≡ held_at i (array_at slot u)
  lent-along slot e i =
      ap (held_at i) (lent-array h first along.arrays.first_rows s.arrays along.arrays.first_arrays slot e) ∙ like.lent slot e i
      ∙ sym (ap (held_at i) (lent-array h second along.arrays.second_rows u.arrays along.arrays.second_arrays slot e))

  pub domains-along : (slot : ℕ) → (array_at slot s).ranges ≡ (array_at slot u).ranges
  domains-along slot =
      ranges-of h first along.arrays.first_rows s.arrays along.arrays.first_arrays slot ∙ like.array_domains slot
      ∙ sym (ranges-of h second along.arrays.second_rows u.arrays along.arrays.second_arrays slot)

  -- so they are like for the index
  pub like-along : IsLike h t s u
  like-along = record {
    own = element-along;
    lent = lent-along;
    array_domains = domains-along;
    numbers = λ slot kept. along.numbers.same slot (kept-slots h slot kept).1;
    ranges = λ slot e. ap (λ rs. get_or rs slot no_range) along.ranges.same;
    tuples = λ slot e. ap (λ ts. get_or ts slot no_tuple) along.tuples.same;
    number_slots = along.numbers.first_slots ∙ sym along.numbers.second_slots;
    range_slots = ap length along.ranges.same;
    tuple_slots = ap length along.tuples.same;
    array_slots = ap length along.arrays.first_arrays ∙ element-length 0 h.written along.arrays.first_rows first.arrays ∙ like.array_slots
        ∙ sym (ap length along.arrays.second_arrays ∙ element-length 0 h.written along.arrays.second_rows second.arrays);
    domains = along.domains.0;
    intents = along.intents.0;
    sets = along.sets.0;
    rest = along.rest;
  }

module _ (h : Changes) (t : Index) (first second : Memory) (formed_first : IsFormed h first) (formed : IsFormed h second) (like : IsLike h t first second) (rows : Index → Row) (s u : Memory) (along : IsAlongside h t first second rows (unit_words (operators_of h.reduced)) s u) where
  abbrev ops : List Op
  ops = operators_of h.reduced

  -- both have the same row
  pub same-row : row_in h s t ≡ row_in h u t
  same-row = λ i. record {
    elements = λ slot. elements slot (is_among slot h.written) refl i;
    numbers = λ slot. numbers slot (is_among slot h.numbers) refl i;
    ranges = λ slot. if is_among slot h.ranges then get_or (along.ranges.same i) slot no_range else no_range;
    tuples = λ slot. if is_among slot h.tuples then get_or (along.tuples.same i) slot no_tuple else no_tuple;
  } where
    elements : (slot : ℕ) (c : Bool) → is_among slot h.written ≡ c → (row_in h s t).elements slot ≡ (row_in h u t).elements slot
    elements slot true e = ap (λ o. if is_among slot h.written then unwrap_or o (pos 0) else pos 0) (element-along h t first second formed_first formed like rows (unit_words ops) s u along slot e)
    elements slot false e = rw e refl

    numbers : (slot : ℕ) (c : Bool) → is_among slot h.numbers ≡ c → (row_in h s t).numbers slot ≡ (row_in h u t).numbers slot
    numbers slot true e = ap (λ w. if is_among slot h.numbers then w else pos 0) (along.numbers.same slot (apart-slots h.reduced h.numbers slot formed.stay e))
    numbers slot false e = rw e refl

  -- and the same was added
  pub same-words : words_in h.reduced s ≡ words_in h.reduced u
  same-words =
      sym (along.numbers.reduced
      ∙ (reduce_words ops).comm (unit_words ops) (words_in h.reduced s) (reduce_words ops).one along.numbers.exact
      ∙ (reduce_words ops).neutral (words_in h.reduced s) along.numbers.exact)

-- ---- turns
ended-same : (r : Result Memory Fault) (u : Memory) (done : Deeds) → worker_end r no_deeds ≡ Done u no_deeds → worker_end r done ≡ Done u done
ended-same (Ok v) u done e = let same : v ≡ u = cc in ap (λ v. Done v done) same
ended-same (Err f) u done e = absurd cc

stopped-same : (r : Result Memory Fault) (f : Fault) (done : Deeds) → worker_end r no_deeds ≡ Stop f no_deeds → worker_end r done ≡ Stop f done
stopped-same (Ok v) f done e = absurd cc
stopped-same (Err g) f done e = let same : g ≡ f = cc in ap (λ f. Stop f done) same

kept-rest : (r : Result Memory Fault) (s u : Memory) → worker_end r no_deeds ≡ Done u no_deeds → KeepsRest s r → rest_of u ≡ rest_of s
kept-rest (Ok v) s u e kept = let same : v ≡ u = cc in ap rest_of (sym same) ∙ kept
kept-rest (Err f) s u e kept = absurd cc

pub last-rest : (h : Changes) (b : Memory) (rows : Index → Row) (a : List ℤ) (last : Option Index) → rest_of (held_in h b last rows a) ≡ rest_of b
last-rest h b rows a None = refl
last-rest h b rows a (Some t) = refl

-- Turns that see an index each, which is their own where it is one of the loop's rank, and do the same in two memories that go along.
module _ (h : Changes) (turn : Index → Run Memory) (own : Index → Index) (owned : (t : Index) → IsOfRank h t → own t ≡ t) (quiet : (t : Index) → IsQuiet (turn t))
    (along : (t : Index) (first second : Memory) → IsFormed h first → IsFormed h second → IsLike h (own t) first second → (last : Option Index) (rows : Index → Row) (row : Row) (words : List ℤ) → rows (own t) ≡ row
    → AreExact (operators_of h.reduced) words
    → EndsAlike (IsAlongside h (own t) first second rows words) (turn t (held_in h first None (λ x. row) (unit_words (operators_of h.reduced))) no_deeds) (turn t (held_in h second last rows words) no_deeds)) where
  abbrev units : List ℤ
  units = unit_words (operators_of h.reduced)

  module _ (b : Memory) (formed : IsFormed h b) where
    each : (t : Index) (last : Option Index) (rows : Index → Row) (words : List ℤ) (done : Deeds) → IsOfRank h t → AreExact (operators_of h.reduced) words
        → turn t (held_in h b last rows words) done ≡ turn_left (held_in h b) (all_combined (operators_of h.reduced)) t rows words done (turn_alone h b turn t (rows t))
    each t last rows words done of_rank exact = by r1.0 r2.0 r1.1 r2.1 r2.2 ends where
      s1 : Memory
      s1 = held_in h b None (λ x. rows t) units

      s2 : Memory
      s2 = held_in h b last rows words

      r1 : (r : Result Memory Fault) × ((done : Deeds) → turn t s1 done ≡ worker_end r done) × KeepsRest s1 r
      r1 = quiet t s1

      r2 : (r : Result Memory Fault) × ((done : Deeds) → turn t s2 done ≡ worker_end r done) × KeepsRest s2 r
      r2 = quiet t s2

      ends : EndsAlike (IsAlongside h t b b rows words) (turn t s1 no_deeds) (turn t s2 no_deeds)
      ends =
          subst (λ x. EndsAlike (IsAlongside h x b b rows words) (turn t s1 no_deeds) (turn t s2 no_deeds)) (owned t of_rank)
          (along t b b formed formed (like-itself h (own t) b) last rows (rows t) words (ap rows (owned t of_rank)) exact)

      by : (p q : Result Memory Fault) → ((done : Deeds) → turn t s1 done ≡ worker_end p done) → ((done : Deeds) → turn t s2 done ≡ worker_end q done) → KeepsRest s2 q
          → EndsAlike (IsAlongside h t b b rows words) (turn t s1 no_deeds) (turn t s2 no_deeds)
          → turn t s2 done ≡ turn_left (held_in h b) (all_combined (operators_of h.reduced)) t rows words done (turned_in h t (rows t) (turn t s1 no_deeds))
      by (Ok u1) q e1 e2 kept alike =
          let its : EndsAlike (IsAlongside h t b b rows words) (Done u1 no_deeds) (turn t s2 no_deeds) = subst (λ o. EndsAlike (IsAlongside h t b b rows words) o (turn t s2 no_deeds)) (e1 no_deeds) alike in
          e2 done ∙ ended-same q its.0 done (sym (e2 no_deeds) ∙ its.2)
          ∙ ap (λ u. Done u done) (holds-left h b formed t rows words u1 its.0 its.1 (kept-rest q s2 its.0 (sym (e2 no_deeds) ∙ its.2) kept ∙ last-rest h b rows words last))
          ∙ sym (ap (λ o. turn_left (held_in h b) (all_combined (operators_of h.reduced)) t rows words done (turned_in h t (rows t) o)) (e1 no_deeds))
      by (Err f) q e1 e2 kept alike =
          let its : EndsAlike (IsAlongside h t b b rows words) (Stop f no_deeds) (turn t s2 no_deeds) = subst (λ o. EndsAlike (IsAlongside h t b b rows words) o (turn t s2 no_deeds)) (e1 no_deeds) alike in
          e2 done ∙ stopped-same q f done (sym (e2 no_deeds) ∙ its)
          ∙ sym (ap (λ o. turn_left (held_in h b) (all_combined (operators_of h.reduced)) t rows words done (turned_in h t (rows t) o)) (e1 no_deeds))

    adds : (t : Index) (row : Row) → Adds (AreExact (operators_of h.reduced)) (turn_alone h b turn t row)
    adds t row = by (turn t s no_deeds) (along t b b formed formed (like-itself h (own t) b) None (λ x. row) row units refl (reduce_words (operators_of h.reduced)).one) where
      s : Memory
      s = held_in h b None (λ x. row) units

      by : (o : Outcome Memory) → EndsAlike (IsAlongside h (own t) b b (λ x. row) units) o (turn t s no_deeds) → Adds (AreExact (operators_of h.reduced)) (turned_in h t row o)
      by (Done u done) alike = alike.1.numbers.exact
      by (Stop f done) alike = tt
      by (Waits at c op done) alike = (reduce_words (operators_of h.reduced)).one

    keeps : (place : Index → ℕ) → KeepApart h b place turn
    keeps place = record { apart = record { each = each }; adds = adds }

  turns-alike : (t : Index) (s b : Memory) → IsOfRank h t → IsFormed h s → IsFormed h b → IsLike h t s b → (row : Row) → turn_alone h s turn t row ≡ turn_alone h b turn t row
  turns-alike t s b of_rank first second like row = by (turn t s1 no_deeds) (turn t s2 no_deeds) ends where
    s1 : Memory
    s1 = held_in h s None (λ x. row) units

    s2 : Memory
    s2 = held_in h b None (λ x. row) units

    ends : EndsAlike (IsAlongside h t s b (λ x. row) units) (turn t s1 no_deeds) (turn t s2 no_deeds)
    ends =
        subst (λ x. EndsAlike (IsAlongside h x s b (λ x. row) units) (turn t s1 no_deeds) (turn t s2 no_deeds)) (owned t of_rank)
        (along t s b first second (subst (λ x. IsLike h x s b) (sym (owned t of_rank)) like) None (λ x. row) row units refl (reduce_words (operators_of h.reduced)).one)

    by : (o p : Outcome Memory) → EndsAlike (IsAlongside h t s b (λ x. row) units) o p → turned_in h t row o ≡ turned_in h t row p
    by (Done u done) p alike =
        let rows = same-row h t s b first second like (λ x. row) u alike.0 alike.1 in
        let words = same-words h t s b first second like (λ x. row) u alike.0 alike.1 in
        (λ i. Leaves (rows i) (words i)) ∙ sym (ap (turned_in h t row) alike.2)
    by (Stop f done) p alike = sym (ap (turned_in h t row) alike)
    by (Waits at c op done) p alike = sym (ap (turned_in h t row) alike)

  pub may_be_apart : MayBeApart h turn
  may_be_apart = record { keep = λ b place formed. keeps b formed place; alike = turns-alike }
