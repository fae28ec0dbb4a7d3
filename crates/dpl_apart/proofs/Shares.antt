-- What workers begin with: a locale's share of a memory is a memory in which its turns may be made, and finds there what the whole one has.
use Rattle.std.proofs.Common.{eqb-true, ◌≡◌, ◌≢◌, ℕ, zero, suc, ◌+◌, ◌<◌, ◌==◌, Bool, true, false, cond, ℤ, pos, List, [], ◌∷◌, Some, None, map, length, get_or, set, slice_get, refl, sym, ap, ◌∙◌, subst, arith}
use Rattle.std.specs.Prelude.{if◌then◌else◌, unwrap_or, ◌||◌, not}
use Rattle.std.specs.List.{AllByRecursion, list_any, filter}
use Rattle.std.proofs.lemmas.Bool.{and_parts}
use Rattle.std.proofs.lemmas.Bool.Decides.{nat_tests}
use Rattle.std.proofs.lemmas.List.{length-map, get_or-set_other}
use Rattle.std.proofs.lemmas.Option.{none-some, same_Some}
use Rattle.dpl_language.specs.Tree.{Op}
use Rattle.dpl_language.specs.Values.{Index}
use Rattle.dpl_language.specs.Ranges.{same_index}
use Rattle.dpl_memory.specs.Memory.{Held, Memory, no_array, array_at, word_at, held_at, is_among}
use Rattle.dpl_memory.specs.Pieces.{owned_piece, owned_if, shares_from}
use Rattle.dpl_apart.specs.Operands.{unit_words, AreExact}
use Rattle.dpl_apart.specs.Rows.{IsDistinct}
use Rattle.dpl_apart.specs.Memories.{Changes, IsPiece, IsFormed, IsLike, is_kept, with_words, words_in, operators_of, row_in}
use Rattle.dpl_apart.specs.Workers.{worker_memory}
use Rattle.dpl_apart.proofs.Indices.{same_index-refl, same_index-sound}
use Rattle.dpl_apart.proofs.ReduceWords.{reduce_words}
use Rattle.dpl_apart.proofs.Places.{distinct-rest, distinct-first}
use Rattle.dpl_apart.proofs.Memories.{word-found, words-length, words-of}

-- ---- lists
pub each-at : {A : Type 0} (P : A → Type 0) (xs : List A) (k : ℕ) (x : A) → AllByRecursion P xs → slice_get xs k ≡ Some x → P x
each-at P [] k x h at = absurd (none-some x at)
each-at P (y ∷ ys) zero x h at = subst P (same_Some y x at) h.0
each-at P (y ∷ ys) (suc k) x h at = each-at P ys k x h.1 at

-- an index that differs from each of some is none of them, and is listed before them once
unlisted : (t : Index) (ts : List Index) → AllByRecursion (λ x. same_index x t ≡ false) ts → (k : ℕ) → slice_get ts k ≡ Some t → ⊥
unlisted t ts other k at = let self : same_index t t ≡ false = each-at (λ x. same_index x t ≡ false) ts k t other at in let no : true ≡ false = sym (same_index-refl t) ∙ self in cc

distinct-more : (t : Index) (ts : List Index) → ((k : ℕ) → slice_get ts k ≡ Some t → ⊥) → IsDistinct ts → IsDistinct (t ∷ ts)
distinct-more t ts none distinct zero zero x here there = refl
distinct-more t ts none distinct zero (suc k) x here there = absurd (none k (there ∙ sym here))
distinct-more t ts none distinct (suc j) zero x here there = absurd (none j (here ∙ sym there))
distinct-more t ts none distinct (suc j) (suc k) x here there = ap suc (distinct j k x here there)

pub distinct-next : (t : Index) (ts : List Index) → AllByRecursion (λ x. same_index x t ≡ false) ts → IsDistinct ts → IsDistinct (t ∷ ts)
distinct-next t ts other rest = distinct-more t ts (unlisted t ts other) rest

-- ---- some of the indices of a list
-- where a filter has an index the list has it too
filter-from : (p : Index → Bool) (ts : List Index) (k : ℕ) (t : Index) → slice_get (filter p ts) k ≡ Some t → (j : ℕ) × (slice_get ts j ≡ Some t)
filter-from p [] k t at = absurd (none-some t at)
filter-from p (x ∷ xs) k t at =
    elim (p x) as (λ b. slice_get (cond b (x ∷ filter p xs) (filter p xs)) k ≡ Some t → (j : ℕ) × (slice_get (x ∷ xs) j ≡ Some t)) [
      | true ↦ kept (λ k. filter-from p xs k t) k
      | false ↦ λ at. let there = filter-from p xs k t at in (suc there.0, there.1)
    ] at
  where
    kept : ((k : ℕ) → slice_get (filter p xs) k ≡ Some t → (j : ℕ) × (slice_get xs j ≡ Some t)) → (k : ℕ) → slice_get (x ∷ filter p xs) k ≡ Some t → (j : ℕ) × (slice_get (x ∷ xs) j ≡ Some t)
    kept rest zero at = (0, at)
    kept rest (suc k) at = let there = rest k at in (suc there.0, there.1)

pub distinct-filter : (p : Index → Bool) (ts : List Index) → IsDistinct ts → IsDistinct (filter p ts)
distinct-filter p [] distinct = distinct
distinct-filter p (t ∷ ts) distinct =
    let rest : IsDistinct (filter p ts) = distinct-filter p ts (distinct-rest t ts distinct) in
    elim (p t) as (λ b. IsDistinct (cond b (t ∷ filter p ts) (filter p ts))) [
      | true ↦ distinct-more t (filter p ts) (λ k at. let there = filter-from p ts k t at in distinct-first t ts distinct there.0 there.1) rest
      | false ↦ rest
    ]

-- an index that passes is listed behind a filter where it was before
pub filter-listed : (p : Index → Bool) (t : Index) (ts : List Index) → p t ≡ true → list_any (same_index t) (filter p ts) ≡ list_any (same_index t) ts
filter-listed p t [] e = refl
filter-listed p t (x ∷ xs) e =
    elim (p x) as (λ b. p x ≡ b → list_any (same_index t) (cond b (x ∷ filter p xs) (filter p xs)) ≡ list_any (same_index t) (x ∷ xs)) [
      | true ↦ λ passes. ap (λ c. same_index t x || c) (filter-listed p t xs e)
      | false ↦ λ passes.
          elim (same_index t x) as (λ c. same_index t x ≡ c → list_any (same_index t) (filter p xs) ≡ (c || list_any (same_index t) xs)) [
            | true ↦ λ same. absurd (let no : true ≡ false = sym e ∙ ap p (same_index-sound t x same) ∙ passes in cc)
            | false ↦ λ same. filter-listed p t xs e
          ] refl
    ] refl

-- ---- pieces
-- an array that has a word for each of its indices has one where it has the index
word-there : (t : Index) (keys : List Index) (ws : List ℤ) → length ws ≡ length keys
    → word_at t keys ws ≡ (if list_any (same_index t) keys then Some (unwrap_or (word_at t keys ws) (pos 0)) else None)
word-there t [] ws long = refl
word-there t (k ∷ ks) [] long = absurd (omega (arith, long))
word-there t (k ∷ ks) (w ∷ ws) long =
    elim (same_index t k) as (λ c. (if c then Some w else word_at t ks ws) ≡ (if c || list_any (same_index t) ks then Some (unwrap_or (if c then Some w else word_at t ks ws) (pos 0)) else None)) [
      | true ↦ refl
      | false ↦ word-there t ks ws (omega (arith, long))
    ]

module _ (owns : Index → ℕ) (l : ℕ) where
  -- a piece of a piece is one
  pub owned-piece : (a : Held) → IsPiece a → IsPiece (owned_piece owns l a)
  owned-piece a piece = record { distinct = distinct-filter (λ t. owns t == l) a.keys piece.distinct; long = length-map (filter (λ t. owns t == l) a.keys) (λ t. unwrap_or (held_at t a) (pos 0)) }

  -- the elements of an array at the indices that a locale owns are its piece's
  pub owned-element : (t : Index) (a : Held) → IsPiece a → owns t ≡ l → held_at t (owned_piece owns l a) ≡ held_at t a
  owned-element t a piece own =
      let passes : (owns t == l) ≡ true = grind (arith, nat_tests) in
      word-found t (λ t. unwrap_or (held_at t a) (pos 0)) (filter (λ t. owns t == l) a.keys)
      ∙ ap (λ c. if c then Some (unwrap_or (held_at t a) (pos 0)) else None) (filter-listed (λ t. owns t == l) t a.keys passes)
      ∙ sym (word-there t a.keys a.words piece.long)

  -- ---- arrays by slots
  share-none : (b : Bool) → no_array ≡ owned_if b owns l no_array
  share-none true = refl
  share-none false = refl

  share-slot : (first slot : ℕ) (written : List ℕ) (hs : List Held) → get_or (shares_from first written owns l hs) slot no_array ≡ owned_if (is_among (first + slot) written) owns l (get_or hs slot no_array)
  share-slot first slot written [] = share-none (is_among (first + slot) written)
  share-slot first zero written (a ∷ more) = let same : first ≡ first + 0 = omega arith in ap (λ n. owned_if (is_among n written) owns l a) same
  share-slot first (suc slot) written (a ∷ more) =
      let same : (first + 1) + slot ≡ first + suc slot = omega arith in
      share-slot (first + 1) slot written more ∙ ap (λ n. owned_if (is_among n written) owns l (get_or more slot no_array)) same

  share-length : (first : ℕ) (written : List ℕ) (hs : List Held) → length (shares_from first written owns l hs) ≡ length hs
  share-length first written [] = refl
  share-length first written (a ∷ more) = ap suc (share-length (first + 1) written more)

-- ---- the words of reduce variables are put into their own slots alone
pub words-other : (ps : List (ℕ × Op)) (ws numbers : List ℤ) (slot : ℕ) → is_among slot (map (λ (p : ℕ × Op). p.0) ps) ≡ false → get_or (with_words ps ws numbers) slot (pos 0) ≡ get_or numbers slot (pos 0)
words-other [] ws numbers slot h = refl
words-other (p ∷ ps) [] numbers slot h = refl
words-other (p ∷ ps) (w ∷ ws) numbers slot h = by (slot == p.0) refl h (words-other ps ws numbers slot) where
  by : (c : Bool) → (slot == p.0) ≡ c → (c || is_among slot (map (λ (p : ℕ × Op). p.0) ps)) ≡ false
      → (is_among slot (map (λ (p : ℕ × Op). p.0) ps) ≡ false → get_or (with_words ps ws numbers) slot (pos 0) ≡ get_or numbers slot (pos 0))
      → get_or (set (with_words ps ws numbers) p.0 w) slot (pos 0) ≡ get_or numbers slot (pos 0)
  by true e h rest = absurd cc
  by false e h rest = let other : slot ≢ p.0 = grind (arith, nat_tests) in get_or-set_other (with_words ps ws numbers) p.0 slot w (pos 0) other ∙ rest h

-- a slot that begins anew is no reduce variable's
pub anew-other : (ps : List (ℕ × Op)) (numbers : List ℕ) (slot : ℕ) → AllByRecursion (λ (p : ℕ × Op). is_among p.0 numbers ≡ false) ps → is_among slot numbers ≡ true
    → is_among slot (map (λ (p : ℕ × Op). p.0) ps) ≡ false
anew-other [] numbers slot stay anew = refl
anew-other (p ∷ ps) numbers slot stay anew = by (slot == p.0) refl (anew-other ps numbers slot stay.1 anew) where
  by : (c : Bool) → (slot == p.0) ≡ c → is_among slot (map (λ (p : ℕ × Op). p.0) ps) ≡ false → (c || is_among slot (map (λ (p : ℕ × Op). p.0) ps)) ≡ false
  by true e rest = absurd (let here : slot ≡ p.0 = eqb-true slot p.0 e in let no : true ≡ false = sym anew ∙ ap (λ i. is_among i numbers) here ∙ stay.0 in cc)
  by false e rest = rest

-- ---- a worker's memory
module _ (h : Changes) (owns : Index → ℕ) (l : ℕ) (m : Memory) where
  pub share-array : (slot : ℕ) → array_at slot (worker_memory h owns l m) ≡ owned_if (is_among slot h.written) owns l (array_at slot m)
  share-array slot = let same : 0 + slot ≡ slot = omega arith in share-slot owns l 0 slot h.written m.arrays ∙ ap (λ n. owned_if (is_among n h.written) owns l (get_or m.arrays slot no_array)) same

  pub share-written : (slot : ℕ) → is_among slot h.written ≡ true → array_at slot (worker_memory h owns l m) ≡ owned_piece owns l (array_at slot m)
  share-written slot e = share-array slot ∙ ap (λ c. owned_if c owns l (array_at slot m)) e

  pub share-lent : (slot : ℕ) → is_among slot h.written ≡ false → array_at slot (worker_memory h owns l m) ≡ array_at slot m
  share-lent slot e = share-array slot ∙ ap (λ c. owned_if c owns l (array_at slot m)) e

  module _ (formed : IsFormed h m) where
    unit-long : length (unit_words (operators_of h.reduced)) ≡ length h.reduced
    unit-long = length-map (operators_of h.reduced) _ ∙ length-map h.reduced _

    -- A worker's memory is one in which turns may be made apart,
    pub worker-formed : IsFormed h (worker_memory h owns l m)
    worker-formed =
        let numbers = words-length h.reduced (unit_words (operators_of h.reduced)) m.words.numbers in
        let arrays = share-length owns l 0 h.written m.arrays in
        record {
          pieces = λ slot e. subst IsPiece (sym (share-written slot e)) (owned-piece owns l (array_at slot m) (formed.pieces slot e));
          within = λ slot e. subst (λ n. slot < n) (sym arrays) (formed.within slot e);
          intents = formed.intents;
          apart = formed.apart;
          there = subst (λ n. AllByRecursion (λ (p : ℕ × Op). p.0 < n) h.reduced) (sym numbers) formed.there;
          stay = formed.stay;
          room = subst (λ n. AllByRecursion (λ slot. slot < n) h.numbers) (sym numbers) formed.room;
          tuple_room = formed.tuple_room;
        }

    -- and to whose reduce variables nothing was added.
    pub worker-units : words_in h.reduced (worker_memory h owns l m) ≡ unit_words (operators_of h.reduced)
    worker-units = words-of h.reduced (unit_words (operators_of h.reduced)) m.words.numbers unit-long formed.apart formed.there

    pub worker-exact : AreExact (operators_of h.reduced) (words_in h.reduced (worker_memory h owns l m))
    worker-exact = subst (AreExact (operators_of h.reduced)) (sym worker-units) (reduce_words (operators_of h.reduced)).one

    module _ (t : Index) (own : owns t ≡ l) where
      own-element : (slot : ℕ) → is_among slot h.written ≡ true → held_at t (array_at slot m) ≡ held_at t (array_at slot (worker_memory h owns l m))
      own-element slot e = sym (ap (held_at t) (share-written slot e) ∙ owned-element owns l t (array_at slot m) (formed.pieces slot e) own)

      same-domain : (slot : ℕ) (c : Bool) → (array_at slot m).ranges ≡ (owned_if c owns l (array_at slot m)).ranges
      same-domain slot true = refl
      same-domain slot false = refl

      kept-number : (slot : ℕ) → is_kept h slot ≡ true → get_or m.words.numbers slot (pos 0) ≡ get_or (worker_memory h owns l m).words.numbers slot (pos 0)
      kept-number slot e =
          let other = (and_parts (not (is_among slot h.numbers)) (not (is_among slot (map (λ (p : ℕ × Op). p.0) h.reduced))) e).1 in
          sym (words-other h.reduced (unit_words (operators_of h.reduced)) m.words.numbers slot (no-not (is_among slot (map (λ (p : ℕ × Op). p.0) h.reduced)) other))
        where
          no-not : (c : Bool) → not c ≡ true → c ≡ false
          no-not true e = absurd cc
          no-not false e = refl

      -- In it the turn of an index that its locale owns finds what it finds in the whole memory,
      pub worker-like : IsLike h t m (worker_memory h owns l m)
      worker-like = record {
        own = own-element;
        lent = λ slot e i. ap (held_at i) (sym (share-lent slot e));
        array_domains = λ slot. same-domain slot (is_among slot h.written) ∙ sym (ap (λ (a : Held). a.ranges) (share-array slot));
        numbers = kept-number;
        ranges = λ slot e. refl;
        tuples = λ slot e. refl;
        number_slots = sym (words-length h.reduced (unit_words (operators_of h.reduced)) m.words.numbers);
        range_slots = refl;
        tuple_slots = refl;
        array_slots = sym (share-length owns l 0 h.written m.arrays);
        domains = refl;
        intents = refl;
        sets = refl;
        rest = refl;
      }

      own-numbers : (slot : ℕ) (c : Bool) → is_among slot h.numbers ≡ c
          → (if c then get_or m.words.numbers slot (pos 0) else pos 0) ≡ (if c then get_or (worker_memory h owns l m).words.numbers slot (pos 0) else pos 0)
      own-numbers slot true e = sym (words-other h.reduced (unit_words (operators_of h.reduced)) m.words.numbers slot (anew-other h.reduced h.numbers slot formed.stay e))
      own-numbers slot false e = refl

      own-elements : (slot : ℕ) (c : Bool) → is_among slot h.written ≡ c
          → (if c then unwrap_or (held_at t (array_at slot m)) (pos 0) else pos 0) ≡ (if c then unwrap_or (held_at t (array_at slot (worker_memory h owns l m))) (pos 0) else pos 0)
      own-elements slot true e = ap (λ o. unwrap_or o (pos 0)) (own-element slot e)
      own-elements slot false e = refl

      -- and the row of the index is the same.
      pub worker-row : row_in h m t ≡ row_in h (worker_memory h owns l m) t
      worker-row = λ i. record (row_in h m t) { elements = λ slot. own-elements slot (is_among slot h.written) refl i; numbers = λ slot. own-numbers slot (is_among slot h.numbers) refl i }
