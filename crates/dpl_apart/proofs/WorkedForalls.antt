-- Rows of memories that hold rows; and turns over a memory that keep apart: A[i] = f(i, A[i]), which has F1 where A has no such index. So what
-- is asked of turns can be met.
use Rattle.std.proofs.Common.{eqb-true, ◌≡◌, ℕ, ◌<◌, Bool, true, false, ℤ, pos, List, [], ◌∷◌, Option, Some, None, is_some, length, refl, sym, ap, ◌∙◌, arith}
use Rattle.std.specs.Prelude.{if◌then◌else◌, unwrap_or, ◌==◌, ◌&&◌, ◌||◌}
use Rattle.std.specs.Prelude.{◌*ℤ◌}
use Rattle.std.specs.List.{list_any}
use Rattle.std.proofs.lemmas.Bool.Decides.{nat_tests}
use Rattle.dpl_syntax.specs.declared.place.Place.{Place}
use Rattle.dpl_language.specs.Tree.{Sum}
use Rattle.dpl_language.specs.Distributions.{no_root}
use Rattle.dpl_words.specs.Words.{no_range}
use Rattle.dpl_language.specs.Values.{Index, fault, Outside}
use Rattle.dpl_language.specs.Ranges.{same_index, unstrided}
use Rattle.dpl_language.specs.Outcome.{Deeds, no_deeds, Done, Stop, Run}
use Rattle.dpl_memory.specs.Memory.{Held, no_domain, no_tuple, no_array, Memory, array_at, held_at, held_with, with_array, is_among, word_at}
use Rattle.dpl_apart.specs.Operands.{all_combined, AreExact}
use Rattle.dpl_apart.specs.Rows.{IsDistinct, with_row, Adds, Leaves, Fails}
use Rattle.dpl_apart.specs.Apart.{turn_left}
use Rattle.dpl_apart.specs.Memories.{Changes, Row, with_elements, held_in, row_in, turned_in, turn_alone, KeepApart, IsFormed, IsLike, MayBeApart}
use Rattle.dpl_apart.proofs.Indices.{same_index-refl}
use Rattle.dpl_apart.proofs.Memories.{with_element, put-held, held-element, elements-alike}

-- ---- rows: in slot 0 a turn's variable, in slot 1 a reduce variable, and in slot 2 an array over 1..3, or a piece of it
abbrev pub on_a_line : ℤ → Index
on_a_line i = i ∷ []

abbrev pub held_with_keys : List Index → List ℤ → Held
held_with_keys keys words = record { ranges = unstrided (pos 1) (pos 3) ∷ []; keys = keys; words = words }

abbrev pub memory_with : ℤ → ℤ → Held → Memory
memory_with i s a = record {
  words = record { numbers = i ∷ s ∷ pos 9 ∷ []; ranges = no_range ∷ no_range ∷ no_range ∷ []; intents = (1, Sum) ∷ []; sets = [] };
  domains = no_domain ∷ no_domain ∷ no_domain ∷ [];
  tuples = no_tuple ∷ no_tuple ∷ no_tuple ∷ [];
  arrays = no_array ∷ no_array ∷ a ∷ [];
  roots = no_root ∷ no_root ∷ no_root ∷ [];
  cells = [];
  here = pos 0;
  coming = record { replies = None; histories = [] };
}

abbrev pub changes : Changes
changes = record { rank = 1; written = 2 ∷ []; reduced = (1, Sum) ∷ []; numbers = 0 ∷ []; ranges = []; tuples = [] }

abbrev pub whole : Held
whole = held_with_keys (on_a_line (pos 1) ∷ on_a_line (pos 2) ∷ on_a_line (pos 3) ∷ []) (pos 10 ∷ pos 20 ∷ pos 30 ∷ [])

abbrev piece : Held
piece = held_with_keys (on_a_line (pos 3) ∷ []) (pos 30 ∷ [])

-- the row of an index that a memory has, and of one that it hasn't
own_row : (row_in changes (memory_with (pos 7) (pos 5) piece) (on_a_line (pos 3))).elements 2 ≡ pos 30
own_row = refl

no_row : (row_in changes (memory_with (pos 7) (pos 5) piece) (on_a_line (pos 1))).elements 2 ≡ pos 0
no_row = refl

-- each index squared, its turn having left its number in slot 0
abbrev pub squares : Index → Row
squares [] = record { elements = λ slot. pos 0; numbers = λ slot. pos 0; ranges = λ slot. no_range; tuples = λ slot. no_tuple }
squares (i ∷ is) = record { elements = λ slot. i *ℤ i; numbers = λ slot. i; ranges = λ slot. no_range; tuples = λ slot. no_tuple }

-- a memory with these rows, in which the turn of 3 was the last, and 6 was added
squares_held : held_in changes (memory_with (pos 7) (pos 5) whole) (Some (on_a_line (pos 3))) squares (pos 11 ∷ [])
    ≡ memory_with (pos 3) (pos 11) (held_with_keys (on_a_line (pos 1) ∷ on_a_line (pos 2) ∷ on_a_line (pos 3) ∷ []) (pos 1 ∷ pos 4 ∷ pos 9 ∷ []))
squares_held = refl

-- a worker's, which has 3 alone, and where no turn was made yet
piece_held : held_in changes (memory_with (pos 7) (pos 5) piece) None squares (pos 0 ∷ []) ≡ memory_with (pos 7) (pos 0) (held_with_keys (on_a_line (pos 3) ∷ []) (pos 9 ∷ []))
piece_held = refl

-- ---- A[i] = f(i, A[i])
module _ (rank slot : ℕ) (at : Place) (f : Index → ℤ → ℤ) where
  abbrev pub put_by : Option ℤ → Index → Run Memory
  put_by None t s done = Stop (fault Outside at) done
  put_by (Some v) t s done = Done (with_array slot (held_with t (f t v) (array_at slot s)) s) done

  abbrev pub put_turn : Index → Run Memory
  put_turn t s done = put_by (held_at t (array_at slot s)) t s done

  abbrev pub writes : Changes
  writes = record { rank = rank; written = slot ∷ []; reduced = []; numbers = []; ranges = []; tuples = [] }

  listed : is_among slot (slot ∷ []) ≡ true
  listed = let yes : (slot == slot) ≡ true = grind (arith, nat_tests) in rw yes refl

  module _ (b : Memory) (within : slot < length b.arrays) (distinct : IsDistinct (array_at slot b).keys) where
    element-there : (t : Index) (last : Option Index) (rows : Index → Row) (a : List ℤ) (c : Bool) → list_any (same_index t) (array_at slot b).keys ≡ c
        → held_at t (array_at slot (held_in writes b last rows a)) ≡ (if c then Some ((rows t).elements slot) else None)
    element-there t last rows a c e = held-element writes b last rows a slot t listed ∙ ap (λ c. if c then Some ((rows t).elements slot) else None) e

    put-there : (t : Index) (last : Option Index) (rows : Index → Row) (a : List ℤ) (done : Deeds) → list_any (same_index t) (array_at slot b).keys ≡ true
        → put_turn t (held_in writes b last rows a) done ≡ Done (held_in writes b last (with_element t slot (f t ((rows t).elements slot)) rows) a) done
    put-there t last rows a done e =
        ap (λ o. put_by o t (held_in writes b last rows a) done) (element-there t last rows a true e)
        ∙ ap (λ s. Done s done) (put-held writes b rows slot t (f t ((rows t).elements slot)) listed within distinct last a)

    put-absent : (t : Index) (last : Option Index) (rows : Index → Row) (a : List ℤ) (done : Deeds) → list_any (same_index t) (array_at slot b).keys ≡ false
        → put_turn t (held_in writes b last rows a) done ≡ Stop (fault Outside at) done
    put-absent t last rows a done e = ap (λ o. put_by o t (held_in writes b last rows a) done) (element-there t last rows a false e)

    -- what a turn leaves of an element, and so of its row
    abbrev word_left : Index → (Index → Row) → ℤ
    word_left t rows = f t ((rows t).elements slot)

    abbrev state_left : Index → (Index → Row) → Memory
    state_left t rows = held_in writes b None (with_element t slot (word_left t rows) (λ x. rows t)) []

    word-there : (t : Index) (rows : Index → Row) → list_any (same_index t) (array_at slot b).keys ≡ true → (row_in writes (state_left t rows) t).elements slot ≡ word_left t rows
    word-there t rows e =
        let put : Index → Row = with_element t slot (word_left t rows) (λ x. rows t) in
        let self : (slot == slot) ≡ true = grind (arith, nat_tests) in
        let own : (put t).elements slot ≡ word_left t rows = rw (same_index-refl t, self) refl in
        ap (λ c. if c then unwrap_or (held_at t (array_at slot (state_left t rows))) (pos 0) else pos 0) listed
        ∙ ap (λ o. unwrap_or o (pos 0)) (element-there t None put [] true e) ∙ own

    -- the rows behind a turn
    same-rows : (t : Index) (rows : Index → Row) → list_any (same_index t) (array_at slot b).keys ≡ true → (x : Index) (i : ℕ) → is_among i (slot ∷ []) ≡ true
        → (with_element t slot (word_left t rows) rows x).elements i ≡ (with_row t (row_in writes (state_left t rows) t) rows x).elements i
    same-rows t rows e x i among = ap (λ i. (with_element t slot (word_left t rows) rows x).elements i) is ∙ by (same_index x t) ∙ sym (ap (λ i. (with_row t (row_in writes (state_left t rows) t) rows x).elements i) is)
      where
        only : (i : ℕ) (c : Bool) → (i == slot) ≡ c → (c || false) ≡ true → i ≡ slot
        only i true e h = eqb-true i slot e
        only i false e h = absurd cc

        is : i ≡ slot
        is = only i (i == slot) refl among

        self : (slot == slot) ≡ true
        self = grind (arith, nat_tests)

        by : (c : Bool)
            → (if c && (slot == slot) then word_left t rows else (rows x).elements slot) ≡ (if c then row_in writes (state_left t rows) t else rows x).elements slot
        by true = ap (λ c. if c then word_left t rows else (rows x).elements slot) self ∙ sym (word-there t rows e)
        by false = refl

    no_words : (last : Option Index) (rows : Index → Row) (a : List ℤ) → held_in writes b last rows a ≡ record b { arrays = with_elements 0 (slot ∷ []) rows b.arrays }
    no_words None rows a = refl
    no_words (Some t) rows a = refl

    state-same : (t : Index) (last : Option Index) (rows : Index → Row) (a c : List ℤ) → list_any (same_index t) (array_at slot b).keys ≡ true
        → held_in writes b last (with_element t slot (word_left t rows) rows) a ≡ held_in writes b (Some t) (with_row t (row_in writes (state_left t rows) t) rows) c
    state-same t last rows a c e =
        no_words last (with_element t slot (word_left t rows) rows) a
        ∙ ap (λ hs. record b { arrays = hs }) (elements-alike 0 (slot ∷ []) (with_element t slot (word_left t rows) rows) (with_row t (row_in writes (state_left t rows) t) rows) b.arrays (same-rows t rows e))
        ∙ sym (no_words (Some t) (with_row t (row_in writes (state_left t rows) t) rows) c)

    each : (t : Index) (last : Option Index) (rows : Index → Row) (a : List ℤ) (done : Deeds) (c : Bool) → list_any (same_index t) (array_at slot b).keys ≡ c
        → put_turn t (held_in writes b last rows a) done ≡ turn_left (held_in writes b) (all_combined []) t rows a done (turn_alone writes b put_turn t (rows t))
    each t last rows a done true e =
        put-there t last rows a done e ∙ ap (λ s. Done s done) (state-same t last rows a [] e)
        ∙ sym (ap (λ o. turn_left (held_in writes b) (all_combined []) t rows a done (turned_in writes t (rows t) o)) (put-there t None (λ x. rows t) [] no_deeds e))
    each t last rows a done false e =
        put-absent t last rows a done e
        ∙ sym (ap (λ o. turn_left (held_in writes b) (all_combined []) t rows a done (turned_in writes t (rows t) o)) (put-absent t None (λ x. rows t) [] no_deeds e))

    keeps : (place : Index → ℕ) → KeepApart writes b place put_turn
    keeps place = record {
      apart = record { each = λ t last rows a done of_rank ha. each t last rows a done (list_any (same_index t) (array_at slot b).keys) refl };
      adds = λ t row.
          let s : Memory = held_in writes b None (λ x. row) [] in
          elim (held_at t (array_at slot s)) as (λ o. Adds (AreExact []) (turned_in writes t row (put_by o t s no_deeds))) [ None ↦ tt | Some v ↦ tt ];
    }

  -- an index that an array has, by its words
  has_word : (t : Index) (keys : List Index) (ws : List ℤ) → length ws ≡ length keys → list_any (same_index t) keys ≡ is_some (word_at t keys ws)
  has_word t [] ws long = refl
  has_word t (k ∷ ks) [] long = absurd (omega (arith, long))
  has_word t (k ∷ ks) (w ∷ ws) long =
      elim (same_index t k) as (λ c. (c || list_any (same_index t) ks) ≡ is_some (if c then Some w else word_at t ks ws)) [ true ↦ refl | false ↦ has_word t ks ws (omega (arith, long)) ]

  row-same : (t : Index) (row : Row) (s b : Memory) → (row_in writes s t).elements slot ≡ (row_in writes b t).elements slot → row_in writes s t ≡ row_in writes b t
  row-same t row s b e = λ i. record (row_in writes s t) { elements = λ x. by x (x == slot) refl i } where
    by : (x : ℕ) (c : Bool) → (x == slot) ≡ c → (row_in writes s t).elements x ≡ (row_in writes b t).elements x
    by x true is = ap (row_in writes s t).elements (eqb-true x slot is) ∙ e ∙ sym (ap (row_in writes b t).elements (eqb-true x slot is))
    by x false is = rw is refl

  module _ (s b : Memory) (first : IsFormed writes s) (second : IsFormed writes b) (t : Index) (like : IsLike writes t s b) (row : Row) where
    here : (m : Memory) → IsFormed writes m → list_any (same_index t) (array_at slot m).keys ≡ is_some (held_at t (array_at slot m))
    here m formed = has_word t (array_at slot m).keys (array_at slot m).words (formed.pieces slot listed).long

    both : list_any (same_index t) (array_at slot b).keys ≡ list_any (same_index t) (array_at slot s).keys
    both = here b second ∙ sym (here s first ∙ ap is_some (like.own slot listed))

    -- what the turn leaves, begun with this row
    abbrev left_in : (m : Memory) → IsFormed writes m → Memory
    left_in m formed = state_left m (formed.within slot listed) (formed.pieces slot listed).distinct t (λ x. row)

    alone : (m : Memory) (formed : IsFormed writes m) → list_any (same_index t) (array_at slot m).keys ≡ true
        → turn_alone writes m put_turn t row ≡ Leaves (row_in writes (left_in m formed) t) []
    alone m formed e = ap (turned_in writes t row) (put-there m (formed.within slot listed) (formed.pieces slot listed).distinct t None (λ x. row) [] no_deeds e)

    absent : (m : Memory) (formed : IsFormed writes m) → list_any (same_index t) (array_at slot m).keys ≡ false → turn_alone writes m put_turn t row ≡ Fails (fault Outside at)
    absent m formed e = ap (turned_in writes t row) (put-absent m (formed.within slot listed) (formed.pieces slot listed).distinct t None (λ x. row) [] no_deeds e)

    word : (m : Memory) (formed : IsFormed writes m) → list_any (same_index t) (array_at slot m).keys ≡ true
        → (row_in writes (left_in m formed) t).elements slot ≡ f t (row.elements slot)
    word m formed e = word-there m (formed.within slot listed) (formed.pieces slot listed).distinct t (λ x. row) e

    turns-alike : (c : Bool) → list_any (same_index t) (array_at slot s).keys ≡ c → turn_alone writes s put_turn t row ≡ turn_alone writes b put_turn t row
    turns-alike true e =
        alone s first e ∙ ap (λ r. Leaves r []) (row-same t row (left_in s first) (left_in b second) (word s first e ∙ sym (word b second (both ∙ e)))) ∙ sym (alone b second (both ∙ e))
    turns-alike false e = absent s first e ∙ sym (absent b second (both ∙ e))

  pub may_be_apart : MayBeApart writes put_turn
  may_be_apart = record {
    keep = λ b place formed. keeps b (formed.within slot listed) (formed.pieces slot listed).distinct place;
    alike = λ t s b of_rank first second like row. turns-alike s b first second t like row (list_any (same_index t) (array_at slot s).keys) refl;
  }
