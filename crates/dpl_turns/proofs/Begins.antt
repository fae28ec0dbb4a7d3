-- Two memories that hold the same row go along from where what begins anew in a turn has begun; and an element that is put into both leaves
-- them so.
use Rattle.std.proofs.Common.{◌≡◌, ℕ, suc, true, false, ℤ, pos, List, [], ◌∷◌, Option, Some, None, length, get_or, set, refl, sym, ap, ◌∙◌, subst}
use Rattle.std.specs.Prelude.{if◌then◌else◌, not, ◌==◌, ◌&&◌}
use Rattle.std.specs.List.{AllByRecursion}
use Rattle.std.proofs.lemmas.List.{ext_get_or}
use Rattle.dpl_sets.specs.TextRanges.{TextRange}
use Rattle.dpl_language.specs.Tree.{Op, Kind}
use Rattle.dpl_language.specs.Values.{Value, Index, kept_number}
use Rattle.dpl_language.specs.Ranges.{same_index}
use Rattle.dpl_words.specs.Words.{no_range}
use Rattle.dpl_memory.specs.Memory.{ArrayKind, variable, in_memory, Held, Memory, no_tuple, no_array, held_with, is_among}
use Rattle.dpl_apart.specs.Operands.{all_combined, unit_words, AreExact}
use Rattle.dpl_apart.specs.Memories.{Changes, Row, with_elements, with_words, operators_of, held_in, IsFormed, IsLike}
use Rattle.dpl_apart.proofs.Split.{each-weaker}
use Rattle.dpl_apart.proofs.Memories.{map-same, words-length, held-arrays, held-words, with_element, put-held}
use Rattle.dpl_apart.proofs.ReduceWords.{reduce_words}
use Rattle.dpl_turns.specs.Alongside.{slots_of, words_at, put_in, slots_in, begun, ArraysAlong, NumbersAlong, ValuesAlong, IsAlongside}
use Rattle.dpl_turns.proofs.Lists.{values-length, value-other, word-other, put-length, put-alike, put-other}
use Rattle.dpl_turns.proofs.Ends.{exact-length, kept-slots, last-rest}

-- ---- a memory that holds rows, but for what the last turn has left
module _ (h : Changes) (b : Memory) (rows : Index → Row) (a : List ℤ) where
  last-number : (last : Option Index) (j : ℕ) → is_among j h.numbers ≡ false → get_or (held_in h b last rows a).words.numbers j (pos 0) ≡ get_or (with_words h.reduced a b.words.numbers) j (pos 0)
  last-number None j e = refl
  last-number (Some t) j e = value-other h.numbers (rows t).numbers (with_words h.reduced a b.words.numbers) j (pos 0) e

  last-range : (last : Option Index) (j : ℕ) → is_among j h.ranges ≡ false → get_or (held_in h b last rows a).words.ranges j no_range ≡ get_or b.words.ranges j no_range
  last-range None j e = refl
  last-range (Some t) j e = value-other h.ranges (rows t).ranges b.words.ranges j no_range e

  last-tuple : (last : Option Index) (j : ℕ) → is_among j h.tuples ≡ false → get_or (held_in h b last rows a).tuples j no_tuple ≡ get_or b.tuples j no_tuple
  last-tuple None j e = refl
  last-tuple (Some t) j e = value-other h.tuples (rows t).tuples b.tuples j no_tuple e

  pub number_slots-held : (last : Option Index) → length (held_in h b last rows a).words.numbers ≡ length b.words.numbers
  number_slots-held None = words-length h.reduced a b.words.numbers
  number_slots-held (Some t) = values-length h.numbers (rows t).numbers (with_words h.reduced a b.words.numbers) ∙ words-length h.reduced a b.words.numbers

  range-slots : (last : Option Index) → length (held_in h b last rows a).words.ranges ≡ length b.words.ranges
  range-slots None = refl
  range-slots (Some t) = values-length h.ranges (rows t).ranges b.words.ranges

  pub tuple_slots-held : (last : Option Index) → length (held_in h b last rows a).tuples ≡ length b.tuples
  tuple_slots-held None = refl
  tuple_slots-held (Some t) = values-length h.tuples (rows t).tuples b.tuples

  last-domains : (last : Option Index) → (held_in h b last rows a).domains ≡ b.domains
  last-domains None = refl
  last-domains (Some t) = refl

  last-intents : (last : Option Index) → (held_in h b last rows a).words.intents ≡ b.words.intents
  last-intents None = refl
  last-intents (Some t) = refl

  last-sets : (last : Option Index) → (held_in h b last rows a).words.sets ≡ b.words.sets
  last-sets None = refl
  last-sets (Some t) = refl

-- ---- what begins anew
values-begin : {A : Type 0} (d : A) (slots : List ℕ) (ps : List (ℕ × A)) (kept xs ys : List A) → ((j : ℕ) → is_among j slots ≡ is_among j (slots_in ps))
    → ((j : ℕ) → is_among j slots ≡ false → get_or xs j d ≡ get_or ys j d) → ((j : ℕ) → is_among j slots ≡ false → get_or ys j d ≡ get_or kept j d)
    → length xs ≡ length ys → length ys ≡ length kept → ValuesAlong d slots kept (put_in ps xs) (put_in ps ys)
values-begin d slots ps kept xs ys these same stay long all = record {
  same =
      ext_get_or d (put_in ps xs) (put_in ps ys) (put-length ps xs ∙ long ∙ sym (put-length ps ys))
      (λ j within. put-alike ps xs ys j d long (λ none. same j (these j ∙ none)));
  stay = λ j none. put-other ps ys j d (sym (these j) ∙ none) ∙ stay j none;
  long = put-length ps ys ∙ all;
}

words-put : (slots : List ℕ) (ns : List (ℕ × ℤ)) (ps : List (ℕ × Op)) (xs : List ℤ) → ((j : ℕ) → is_among j slots ≡ is_among j (slots_in ns)) → AllByRecursion (λ (p : ℕ × Op). is_among p.0 slots ≡ false) ps
    → words_at ps (put_in ns xs) ≡ words_at ps xs
words-put slots ns ps xs these apart =
    map-same (λ (p : ℕ × Op). get_or (put_in ns xs) p.0 (pos 0)) (λ (p : ℕ × Op). get_or xs p.0 (pos 0)) ps
    (each-weaker _ _ ps (λ p none. put-other ns xs p.0 (pos 0) (sym (these p.0) ∙ none)) apart)

module _ (h : Changes) (t : Index) (first second : Memory) (formed_first : IsFormed h first) (formed : IsFormed h second) (like : IsLike h t first second)
    (ns : List (ℕ × ℤ)) (rs : List (ℕ × TextRange)) (ts : List (ℕ × Index)) (of_numbers : (j : ℕ) → is_among j h.numbers ≡ is_among j (slots_in ns))
    (of_ranges : (j : ℕ) → is_among j h.ranges ≡ is_among j (slots_in rs)) (of_tuples : (j : ℕ) → is_among j h.tuples ≡ is_among j (slots_in ts))
    (last : Option Index) (rows : Index → Row) (row : Row) (words : List ℤ) (its : rows t ≡ row) (exact : AreExact (operators_of h.reduced) words) where
  abbrev units : List ℤ
  units = unit_words (operators_of h.reduced)

  abbrev s : Memory
  s = held_in h first None (λ x. row) units

  abbrev u : Memory
  u = held_in h second last rows words

  long-operators : length (operators_of h.reduced) ≡ length h.reduced
  long-operators = by h.reduced where
    by : (ps : List (ℕ × Op)) → length (operators_of ps) ≡ length ps
    by [] = refl
    by (p ∷ ps) = ap suc (by ps)

  first-words : words_at h.reduced (put_in ns s.words.numbers) ≡ units
  first-words =
      words-put h.numbers ns h.reduced s.words.numbers of_numbers formed.stay
      ∙ held-words h first None (λ x. row) units formed_first (exact-length (operators_of h.reduced) units (reduce_words (operators_of h.reduced)).one ∙ long-operators)

  second-words : words_at h.reduced (put_in ns u.words.numbers) ≡ words
  second-words =
      words-put h.numbers ns h.reduced u.words.numbers of_numbers formed.stay
      ∙ held-words h second last rows words formed (exact-length (operators_of h.reduced) words exact ∙ long-operators)

  second-number : (j : ℕ) → is_among j h.numbers ≡ false → is_among j (slots_of h.reduced) ≡ false → get_or u.words.numbers j (pos 0) ≡ get_or second.words.numbers j (pos 0)
  second-number j none other = last-number h second rows words last j none ∙ word-other h.reduced words second.words.numbers j other

  same-number : (j : ℕ) → is_among j (slots_of h.reduced) ≡ false → get_or (put_in ns s.words.numbers) j (pos 0) ≡ get_or (put_in ns u.words.numbers) j (pos 0)
  same-number j other =
      put-alike ns s.words.numbers u.words.numbers j (pos 0) (words-length h.reduced units first.words.numbers ∙ like.number_slots ∙ sym (number_slots-held h second rows words last))
      (λ none. let out : is_among j h.numbers ≡ false = of_numbers j ∙ none in
      word-other h.reduced units first.words.numbers j other ∙ like.numbers j (ap (λ c. not c && not (is_among j (slots_of h.reduced))) out ∙ ap not other) ∙ sym (second-number j out other))

  numbers-begin : NumbersAlong h second.words.numbers words (put_in ns s.words.numbers) (put_in ns u.words.numbers)
  numbers-begin = record {
    same = same-number;
    reduced =
        second-words ∙ sym ((reduce_words (operators_of h.reduced)).neutral words exact) ∙ ap (all_combined (operators_of h.reduced) words) (sym first-words);
    exact = subst (AreExact (operators_of h.reduced)) (sym first-words) (reduce_words (operators_of h.reduced)).one;
    stay = λ j kept. let slots = kept-slots h j kept in put-other ns u.words.numbers j (pos 0) (sym (of_numbers j) ∙ slots.0) ∙ second-number j slots.0 slots.1;
    first_slots = put-length ns s.words.numbers ∙ words-length h.reduced units first.words.numbers ∙ like.number_slots;
    second_slots = put-length ns u.words.numbers ∙ number_slots-held h second rows words last;
  }

  pub begins : IsAlongside h t first second rows words (begun ns rs ts s) (begun ns rs ts u)
  begins = record {
    arrays = record {
      first_rows = λ x. row;
      second_rows = rows;
      first_arrays = refl;
      second_arrays = held-arrays h second last rows words;
      own = λ slot. ap (λ (r : Row). r.elements slot) (sym its);
      others = λ x slot e. refl;
    };
    numbers = numbers-begin;
    ranges =
        values-begin no_range h.ranges rs second.words.ranges first.words.ranges u.words.ranges of_ranges
        (λ j none. like.ranges j none ∙ sym (last-range h second rows words last j none)) (last-range h second rows words last)
        (like.range_slots ∙ sym (range-slots h second rows words last)) (range-slots h second rows words last);
    tuples =
        values-begin no_tuple h.tuples ts second.tuples first.tuples u.tuples of_tuples
        (λ j none. like.tuples j none ∙ sym (last-tuple h second rows words last j none)) (last-tuple h second rows words last)
        (like.tuple_slots ∙ sym (tuple_slots-held h second rows words last)) (tuple_slots-held h second rows words last);
    domains = (like.domains ∙ sym (last-domains h second rows words last), last-domains h second rows words last);
    rest = like.rest ∙ sym (last-rest h second rows words last);
    intents = (like.intents ∙ sym (last-intents h second rows words last), last-intents h second rows words last);
    sets = (like.sets ∙ sym (last-sets h second rows words last), last-sets h second rows words last);
  }

-- ---- an element that is put
module _ (h : Changes) (t : Index) (slot : ℕ) (w : ℤ) (written : is_among slot h.written ≡ true) where
  element-put : (b : Memory) → IsFormed h b → (rows : Index → Row) (hs : List Held) → hs ≡ with_elements 0 h.written rows b.arrays
      → set hs slot (held_with t w (get_or hs slot no_array)) ≡ with_elements 0 h.written (with_element t slot w rows) b.arrays
  element-put b formed rows hs are =
      ap (λ hs. set hs slot (held_with t w (get_or hs slot no_array))) are
      ∙ ap (λ (m : Memory). m.arrays) (put-held h b rows slot t w written (formed.within slot written) (formed.pieces slot written).distinct None [])

  pub arrays-put : (first second : Memory) → IsFormed h first → IsFormed h second → (rows : Index → Row) (hs ks : List Held) → ArraysAlong h t first.arrays second.arrays rows hs ks
      → ArraysAlong h t first.arrays second.arrays rows (set hs slot (held_with t w (get_or hs slot no_array))) (set ks slot (held_with t w (get_or ks slot no_array)))
  arrays-put first second formed_first formed rows hs ks along = record {
    first_rows = with_element t slot w along.first_rows;
    second_rows = with_element t slot w along.second_rows;
    first_arrays = element-put first formed_first along.first_rows hs along.first_arrays;
    second_arrays = element-put second formed along.second_rows ks along.second_arrays;
    own = λ i. ap (λ v. if same_index t t && (i == slot) then w else v) (along.own i);
    others = λ x i e. rw e (along.others x i e);
  }

module _ (h : Changes) (t : Index) (first second : Memory) (formed_first : IsFormed h first) (formed : IsFormed h second) (rows : Index → Row) (words : List ℤ) where
  pub put-along : (slot : ℕ) (k : Kind) (v : Value) (s u : Memory) → is_among slot h.written ≡ true → IsAlongside h t first second rows words s u
      → IsAlongside h t first second rows words (in_memory.put_element (variable (ArrayKind k) slot) t v s) (in_memory.put_element (variable (ArrayKind k) slot) t v u)
  put-along slot k v s u written along = record {
    arrays = arrays-put h t slot (kept_number v) written first second formed_first formed rows s.arrays u.arrays along.arrays;
    numbers = along.numbers;
    ranges = along.ranges;
    tuples = along.tuples;
    domains = along.domains;
    rest = along.rest;
    intents = along.intents;
    sets = along.sets;
  }
