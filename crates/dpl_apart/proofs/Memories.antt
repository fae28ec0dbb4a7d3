-- Memories that hold rows: each holds its own, and a worker's are those of the whole memory at its own indices.
use Rattle.std.proofs.Common.{eqb-true, ◌≢◌, ◌≡◌, ℕ, zero, suc, ◌+◌, ◌<◌, Bool, true, false, cond, ℤ, pos, List, [], ◌∷◌, Option, Some, None, map, length, get_or, set, refl, sym, ap, ◌∙◌, subst, arith}
use Rattle.std.specs.Prelude.{if◌then◌else◌, unwrap_or, ◌&&◌, ◌||◌, ◌==◌}
use Rattle.std.specs.List.{AllByRecursion, list_any}
use Rattle.std.proofs.lemmas.Bool.Decides.{nat_tests}
use Rattle.std.proofs.lemmas.List.{ext_get_or, set-get_or, get_or-set_same, get_or-set_other, length-set, set-set, set_comm}
use Rattle.dpl_language.specs.Tree.{Op}
use Rattle.dpl_language.specs.Values.{Index}
use Rattle.dpl_language.specs.Ranges.{same_index}
use Rattle.dpl_memory.specs.Memory.{Held, Memory, held_with, no_array, array_at, word_at, with_word, held_at, is_among}
use Rattle.dpl_apart.specs.Rows.{AreOnce, IsDistinct}
use Rattle.dpl_apart.specs.Memories.{Changes, Row, IsPiece, IsFormed, held_by, held_by_if, with_elements, with_words, words_in, with_values, with_last, held_in, row_in}
use Rattle.dpl_apart.proofs.Indices.{same_index-refl, same_index-sound, not-same}
use Rattle.dpl_apart.proofs.Split.{each-weaker}
use Rattle.dpl_apart.proofs.Places.{distinct-rest, distinct-first, others}

-- ---- words by their indices
pub map-same : {A B : Type 0} (f g : A → B) (xs : List A) → AllByRecursion (λ x. f x ≡ g x) xs → map f xs ≡ map g xs
map-same f g [] h = refl
map-same f g (x ∷ xs) h = let here = h.0 in let rest = map-same f g xs h.1 in λ i. here i ∷ rest i

-- words that are read by their indices are these words
pub words-read : (keys : List Index) (ws : List ℤ) → IsDistinct keys → length ws ≡ length keys → map (λ t. unwrap_or (word_at t keys ws) (pos 0)) keys ≡ ws
words-read [] [] distinct long = refl
words-read [] (w ∷ ws) distinct long = absurd (omega (arith, long))
words-read (k ∷ ks) [] distinct long = absurd (omega (arith, long))
words-read (k ∷ ks) (w ∷ ws) distinct long =
    let read : List Index → List ℤ → Index → ℤ = λ keys ws t. unwrap_or (word_at t keys ws) (pos 0) in
    let here : read (k ∷ ks) (w ∷ ws) k ≡ w = rw (same_index-refl k) refl in
    let further : (x : Index) → same_index x k ≡ false → read (k ∷ ks) (w ∷ ws) x ≡ read ks ws x = λ x e. rw e refl in
    let rest : map (read (k ∷ ks) (w ∷ ws)) ks ≡ ws =
    map-same (read (k ∷ ks) (w ∷ ws)) (read ks ws) ks (each-weaker _ _ ks further (others k ks (distinct-first k ks distinct)))
    ∙ words-read ks ws (distinct-rest k ks distinct) (omega (arith, long)) in
    λ i. here i ∷ rest i

-- a word that stands by its index is found there, and nowhere else
pub word-found : (t : Index) (f : Index → ℤ) (keys : List Index) → word_at t keys (map f keys) ≡ (if list_any (same_index t) keys then Some (f t) else None)
word-found t f [] = refl
word-found t f (k ∷ ks) = by (same_index t k) refl (word-found t f ks) where
  by : (b : Bool) → same_index t k ≡ b → word_at t ks (map f ks) ≡ (if list_any (same_index t) ks then Some (f t) else None)
      → word_at t (k ∷ ks) (map f (k ∷ ks)) ≡ (if list_any (same_index t) (k ∷ ks) then Some (f t) else None)
  by true e rest = rw e (ap (λ x. Some (f x)) (sym (same_index-sound t k e)))
  by false e rest = rw e rest

-- a word that is put by its index stands there
pub word-put : (t : Index) (w : ℤ) (f : Index → ℤ) (keys : List Index) → IsDistinct keys → with_word t w keys (map f keys) ≡ map (λ x. if same_index x t then w else f x) keys
word-put t w f [] distinct = refl
word-put t w f (k ∷ ks) distinct = by (same_index t k) refl (word-put t w f ks (distinct-rest k ks distinct)) where
  by : (b : Bool) → same_index t k ≡ b → with_word t w ks (map f ks) ≡ map (λ x. if same_index x t then w else f x) ks
      → with_word t w (k ∷ ks) (map f (k ∷ ks)) ≡ map (λ x. if same_index x t then w else f x) (k ∷ ks)
  by true e rest =
      let same : t ≡ k = same_index-sound t k e in
      let back : same_index k t ≡ true = ap (same_index k) same ∙ same_index-refl k in
      let none : AllByRecursion (λ x. same_index x t ≡ false) ks = subst (λ k. AllByRecursion (λ x. same_index x k ≡ false) ks) (sym same) (others k ks (distinct-first k ks distinct)) in
      let further : (x : Index) → same_index x t ≡ false → f x ≡ (if same_index x t then w else f x) = λ x e. rw e refl in
      let behind : map f ks ≡ map (λ x. if same_index x t then w else f x) ks = map-same f (λ x. if same_index x t then w else f x) ks (each-weaker _ _ ks further none) in
      rw (e, back) (ap (λ ws. w ∷ ws) behind)
  by false e rest =
      let back : same_index k t ≡ false = not-same k t (λ same. let yes : same_index t k ≡ true = ap (same_index t) same ∙ same_index-refl t in let no : true ≡ false = sym yes ∙ e in cc) in
      rw (e, back) (ap (λ ws. f k ∷ ws) rest)

-- ---- arrays by slots
held-none : (b : Bool) (f : Index → ℤ) → no_array ≡ held_by_if b f no_array
held-none true f = refl
held-none false f = refl

pub element-slot : (first slot : ℕ) (written : List ℕ) (rows : Index → Row) (hs : List Held)
    → get_or (with_elements first written rows hs) slot no_array ≡ held_by_if (is_among (first + slot) written) (λ t. (rows t).elements (first + slot)) (get_or hs slot no_array)
element-slot first slot written rows [] = held-none (is_among (first + slot) written) (λ t. (rows t).elements (first + slot))
element-slot first zero written rows (a ∷ more) =
    let same : first ≡ first + 0 = omega arith in
    ap (λ n. held_by_if (is_among n written) (λ t. (rows t).elements n) a) same
element-slot first (suc slot) written rows (a ∷ more) =
    let same : (first + 1) + slot ≡ first + suc slot = omega arith in
    element-slot (first + 1) slot written rows more ∙ ap (λ n. held_by_if (is_among n written) (λ t. (rows t).elements n) (get_or more slot no_array)) same

pub element-here : (slot : ℕ) (written : List ℕ) (rows : Index → Row) (hs : List Held)
    → get_or (with_elements 0 written rows hs) slot no_array ≡ held_by_if (is_among slot written) (λ t. (rows t).elements slot) (get_or hs slot no_array)
element-here slot written rows hs =
    let same : 0 + slot ≡ slot = omega arith in
    element-slot 0 slot written rows hs ∙ ap (λ n. held_by_if (is_among n written) (λ t. (rows t).elements n) (get_or hs slot no_array)) same

pub element-length : (first : ℕ) (written : List ℕ) (rows : Index → Row) (hs : List Held) → length (with_elements first written rows hs) ≡ length hs
element-length first written rows [] = refl
element-length first written rows (a ∷ more) = ap suc (element-length (first + 1) written rows more)

-- rows that have the same elements of written arrays
pub elements-alike : (first : ℕ) (written : List ℕ) (rows others : Index → Row) (hs : List Held)
    → ((x : Index) (slot : ℕ) → is_among slot written ≡ true → (rows x).elements slot ≡ (others x).elements slot)
    → with_elements first written rows hs ≡ with_elements first written others hs
elements-alike first written rows others [] same = refl
elements-alike first written rows others (a ∷ more) same =
    let here : held_by_if (is_among first written) (λ t. (rows t).elements first) a ≡ held_by_if (is_among first written) (λ t. (others t).elements first) a = by (is_among first written) refl in
    let rest = elements-alike (first + 1) written rows others more same in
    λ i. here i ∷ rest i
  where
    by : (c : Bool) → is_among first written ≡ c → held_by_if c (λ t. (rows t).elements first) a ≡ held_by_if c (λ t. (others t).elements first) a
    by true e = ap (λ f. held_by f a) (λ i t. same t first e i)
    by false e = refl

-- ---- a memory holds its own rows
own-words : (ps : List (ℕ × Op)) (m : Memory) → with_words ps (words_in ps m) m.words.numbers ≡ m.words.numbers
own-words [] m = refl
own-words (p ∷ ps) m = ap (λ ns. set ns p.0 (get_or m.words.numbers p.0 (pos 0))) (own-words ps m) ∙ set-get_or m.words.numbers p.0 (pos 0)

module _ (h : Changes) (m : Memory) (pieces : (slot : ℕ) → is_among slot h.written ≡ true → IsPiece (array_at slot m)) where
  own-array : (slot : ℕ) (b : Bool) → is_among slot h.written ≡ b → held_by_if b (λ t. (row_in h m t).elements slot) (array_at slot m) ≡ array_at slot m
  own-array slot false e = refl
  own-array slot true e =
      let a : Held = array_at slot m in
      let piece = pieces slot e in
      let by_index : (λ (t : Index). (row_in h m t).elements slot) ≡ (λ t. unwrap_or (held_at t a) (pos 0)) = λ i t. cond (e i) (unwrap_or (held_at t a) (pos 0)) (pos 0) in
      ap (λ f. held_by f a) by_index ∙ ap (λ ws. record a { words = ws }) (words-read a.keys a.words piece.distinct piece.long)

  own-arrays : with_elements 0 h.written (row_in h m) m.arrays ≡ m.arrays
  own-arrays =
      ext_get_or no_array (with_elements 0 h.written (row_in h m) m.arrays) m.arrays (element-length 0 h.written (row_in h m) m.arrays)
      (λ slot within. element-here slot h.written (row_in h m) m.arrays ∙ own-array slot (is_among slot h.written) refl)

  pub holds-own : held_in h m None (row_in h m) (words_in h.reduced m) ≡ m
  holds-own =
      let numbers : with_words h.reduced (words_in h.reduced m) m.words.numbers ≡ m.words.numbers = own-words h.reduced m in
      let arrays = own-arrays in
      λ i. record m { words = record m.words { numbers = numbers i }; arrays = arrays i }

-- ---- what a memory that holds rows has
last-arrays : (h : Changes) (last : Option Index) (rows : Index → Row) (s : Memory) → (with_last h last rows s).arrays ≡ s.arrays
last-arrays h None rows s = refl
last-arrays h (Some t) rows s = refl

module _ (h : Changes) (b : Memory) (last : Option Index) (rows : Index → Row) (a : List ℤ) where
  pub held-arrays : (held_in h b last rows a).arrays ≡ with_elements 0 h.written rows b.arrays
  held-arrays = last-arrays h last rows _

  pub held-array : (slot : ℕ) → array_at slot (held_in h b last rows a) ≡ held_by_if (is_among slot h.written) (λ t. (rows t).elements slot) (array_at slot b)
  held-array slot = ap (λ hs. get_or hs slot no_array) held-arrays ∙ element-here slot h.written rows b.arrays

  -- of a written array, the elements of the rows at the indices that it has
  pub held-element : (slot : ℕ) (t : Index) → is_among slot h.written ≡ true
      → held_at t (array_at slot (held_in h b last rows a)) ≡ (if list_any (same_index t) (array_at slot b).keys then Some ((rows t).elements slot) else None)
  held-element slot t e =
      ap (held_at t) (held-array slot ∙ ap (λ c. held_by_if c (λ t. (rows t).elements slot) (array_at slot b)) e) ∙ word-found t (λ t. (rows t).elements slot) (array_at slot b).keys

  -- and any other array as it is
  pub other-array : (slot : ℕ) → is_among slot h.written ≡ false → array_at slot (held_in h b last rows a) ≡ array_at slot b
  other-array slot e = held-array slot ∙ ap (λ c. held_by_if c (λ t. (rows t).elements slot) (array_at slot b)) e

-- ---- an element that is put
-- the rows with another element of an array at an index
abbrev pub with_element : Index → ℕ → ℤ → (Index → Row) → Index → Row
with_element t slot w rows x = record (rows x) { elements = λ s. if same_index x t && (s == slot) then w else (rows x).elements s }

module _ (h : Changes) (b : Memory) (rows : Index → Row) (slot : ℕ) (t : Index) (w : ℤ) (written : is_among slot h.written ≡ true) (within : slot < length b.arrays) (distinct : IsDistinct (array_at slot b).keys) where
  abbrev changed : Index → Row
  changed = with_element t slot w rows

  -- of another array no element is put
  put-other : (i : ℕ) → (i ≡ slot → ⊥) → (c : Bool) → held_by_if c (λ x. (rows x).elements i) (array_at i b) ≡ held_by_if c (λ x. (changed x).elements i) (array_at i b)
  put-other i other c =
      let no : (i == slot) ≡ false = grind (arith, nat_tests) in
      let same : (x : Index) → (rows x).elements i ≡ (changed x).elements i = λ x. by ((rows x).elements i) (same_index x t) no in
      ap (λ f. held_by_if c f (array_at i b)) (λ k x. same x k)
    where
      by : (v : ℤ) (p : Bool) → (i == slot) ≡ false → v ≡ (if p && (i == slot) then w else v)
      by v true e = rw e refl
      by v false e = refl

  put-own : held_with t w (held_by (λ x. (rows x).elements slot) (array_at slot b)) ≡ held_by (λ x. (changed x).elements slot) (array_at slot b)
  put-own =
      let yes : (slot == slot) ≡ true = grind (arith, nat_tests) in
      let same : (x : Index) → (if same_index x t then w else (rows x).elements slot) ≡ (changed x).elements slot = λ x. by ((rows x).elements slot) (same_index x t) yes in
      ap (λ ws. record (array_at slot b) { words = ws }) (word-put t w (λ x. (rows x).elements slot) (array_at slot b).keys distinct ∙ ap (λ f. map f (array_at slot b).keys) (λ k x. same x k))
    where
      by : (v : ℤ) (p : Bool) → (slot == slot) ≡ true → (if p then w else v) ≡ (if p && (slot == slot) then w else v)
      by v true e = rw e refl
      by v false e = refl

  put-arrays : set (with_elements 0 h.written rows b.arrays) slot (held_with t w (get_or (with_elements 0 h.written rows b.arrays) slot no_array)) ≡ with_elements 0 h.written changed b.arrays
  put-arrays =
      let all : List Held = with_elements 0 h.written rows b.arrays in
      let word : Held → Held = held_with t w in
      let long = element-length 0 h.written rows b.arrays in
      ext_get_or no_array (set all slot (word (get_or all slot no_array))) (with_elements 0 h.written changed b.arrays)
      (length-set all slot (word (get_or all slot no_array)) ∙ long ∙ sym (element-length 0 h.written changed b.arrays))
      (λ i below. by i (i == slot) refl (omega (arith, long, within)))
    where
      by : (i : ℕ) (c : Bool) → (i == slot) ≡ c → slot < length (with_elements 0 h.written rows b.arrays)
          → get_or (set (with_elements 0 h.written rows b.arrays) slot (held_with t w (get_or (with_elements 0 h.written rows b.arrays) slot no_array))) i no_array ≡ get_or (with_elements 0 h.written changed b.arrays) i no_array
      by i true e less =
          let same : i ≡ slot = eqb-true i slot e in
          let all : List Held = with_elements 0 h.written rows b.arrays in
          ap (λ i. get_or (set all slot (held_with t w (get_or all slot no_array))) i no_array) same
          ∙ get_or-set_same all slot (held_with t w (get_or all slot no_array)) no_array less
          ∙ ap (held_with t w) (element-here slot h.written rows b.arrays ∙ ap (λ c. held_by_if c (λ x. (rows x).elements slot) (array_at slot b)) written)
          ∙ put-own
          ∙ sym (ap (λ i. get_or (with_elements 0 h.written changed b.arrays) i no_array) same ∙ element-here slot h.written changed b.arrays ∙ ap (λ c. held_by_if c (λ x. (changed x).elements slot) (array_at slot b)) written)
      by i false e less =
          let all : List Held = with_elements 0 h.written rows b.arrays in
          let other : i ≢ slot = λ same. let yes : (i == slot) ≡ true = grind (arith, nat_tests) in let no : true ≡ false = sym yes ∙ e in cc in
          get_or-set_other all slot i (held_with t w (get_or all slot no_array)) no_array other
          ∙ element-here i h.written rows b.arrays ∙ put-other i other (is_among i h.written) ∙ sym (element-here i h.written changed b.arrays)

  -- So a word that is put into an array of a memory that holds rows is put into the row of its index.
  pub put-held : (last : Option Index) (a : List ℤ)
      → record (held_in h b last rows a) { arrays = set (held_in h b last rows a).arrays slot (held_with t w (array_at slot (held_in h b last rows a))) } ≡ held_in h b last changed a
  put-held last a = ap (λ hs. record (held_in h b last rows a) { arrays = hs }) put ∙ by last where
    put : set (held_in h b last rows a).arrays slot (held_with t w (array_at slot (held_in h b last rows a))) ≡ with_elements 0 h.written changed b.arrays
    put = ap (λ hs. set hs slot (held_with t w (get_or hs slot no_array))) (held-arrays h b last rows a) ∙ put-arrays

    by : (last : Option Index) → record (held_in h b last rows a) { arrays = with_elements 0 h.written changed b.arrays } ≡ held_in h b last changed a
    by None = refl
    by (Some l) = refl

-- ---- the words of reduce variables
pub words-length : (ps : List (ℕ × Op)) (ws numbers : List ℤ) → length (with_words ps ws numbers) ≡ length numbers
words-length [] ws numbers = refl
words-length (p ∷ ps) [] numbers = refl
words-length (p ∷ ps) (w ∷ ws) numbers = length-set (with_words ps ws numbers) p.0 w ∙ words-length ps ws numbers

-- a word isn't put into other slots
other-words : (p : ℕ × Op) (w : ℤ) (ps : List (ℕ × Op)) (numbers : List ℤ) → list_any (λ m. p.0 == m) (map (λ (q : ℕ × Op). q.0) ps) ≡ false
    → map (λ (q : ℕ × Op). get_or (set numbers p.0 w) q.0 (pos 0)) ps ≡ map (λ (q : ℕ × Op). get_or numbers q.0 (pos 0)) ps
other-words p w [] numbers h = refl
other-words p w (q ∷ qs) numbers h = by (p.0 == q.0) refl h (other-words p w qs numbers) where
  by : (c : Bool) → (p.0 == q.0) ≡ c → (c || list_any (λ m. p.0 == m) (map (λ (q : ℕ × Op). q.0) qs)) ≡ false
      → (list_any (λ m. p.0 == m) (map (λ (q : ℕ × Op). q.0) qs) ≡ false → map (λ (q : ℕ × Op). get_or (set numbers p.0 w) q.0 (pos 0)) qs ≡ map (λ (q : ℕ × Op). get_or numbers q.0 (pos 0)) qs)
      → map (λ (q : ℕ × Op). get_or (set numbers p.0 w) q.0 (pos 0)) (q ∷ qs) ≡ map (λ (q : ℕ × Op). get_or numbers q.0 (pos 0)) (q ∷ qs)
  by true e h rest = absurd cc
  by false e h rest =
      let other : q.0 ≢ p.0 = grind (arith, nat_tests) in
      let here = get_or-set_other numbers p.0 q.0 w (pos 0) other in
      let behind = rest h in
      λ i. here i ∷ behind i

pub words-of : (ps : List (ℕ × Op)) (ws numbers : List ℤ) → length ws ≡ length ps → AreOnce (map (λ (p : ℕ × Op). p.0) ps) → AllByRecursion (λ (p : ℕ × Op). p.0 < length numbers) ps
    → map (λ (p : ℕ × Op). get_or (with_words ps ws numbers) p.0 (pos 0)) ps ≡ ws
words-of [] [] numbers long apart there = refl
words-of [] (w ∷ ws) numbers long apart there = absurd (omega (arith, long))
words-of (p ∷ ps) [] numbers long apart there = absurd (omega (arith, long))
words-of (p ∷ ps) (w ∷ ws) numbers long apart there =
    let below = there.0 in
    let same = words-length ps ws numbers in
    let here = get_or-set_same (with_words ps ws numbers) p.0 w (pos 0) (omega (arith, below, same)) in
    let rest = other-words p w ps (with_words ps ws numbers) apart.0 ∙ words-of ps ws numbers (omega (arith, long)) apart.1 there.1 in
    λ i. here i ∷ rest i

-- a value isn't put into other slots
other-value : (slots : List ℕ) (value : ℕ → ℤ) (numbers : List ℤ) (slot : ℕ) → is_among slot slots ≡ false → get_or (with_values slots value numbers) slot (pos 0) ≡ get_or numbers slot (pos 0)
other-value [] value numbers slot h = refl
other-value (i ∷ is) value numbers slot h = by (slot == i) refl h (other-value is value numbers slot) where
  by : (c : Bool) → (slot == i) ≡ c → (c || is_among slot is) ≡ false → (is_among slot is ≡ false → get_or (with_values is value numbers) slot (pos 0) ≡ get_or numbers slot (pos 0))
      → get_or (with_values (i ∷ is) value numbers) slot (pos 0) ≡ get_or numbers slot (pos 0)
  by true e h rest = absurd cc
  by false e h rest =
      let other : slot ≢ i = grind (arith, nat_tests) in
      get_or-set_other (with_values is value numbers) i slot (value i) (pos 0) other ∙ rest h

last-other : (h : Changes) (last : Option Index) (rows : Index → Row) (s : Memory) (ps : List (ℕ × Op)) → AllByRecursion (λ (p : ℕ × Op). is_among p.0 h.numbers ≡ false) ps
    → words_in ps (with_last h last rows s) ≡ words_in ps s
last-other h last rows s ps apart = map-same _ _ ps (each-weaker _ _ ps (by last) apart) where
  by : (last : Option Index) (p : ℕ × Op) → is_among p.0 h.numbers ≡ false → get_or (with_last h last rows s).words.numbers p.0 (pos 0) ≡ get_or s.words.numbers p.0 (pos 0)
  by None p e = refl
  by (Some t) p e = other-value h.numbers (rows t).numbers s.words.numbers p.0 e

-- the reduce variables of a memory that holds them
pub held-words : (h : Changes) (b : Memory) (last : Option Index) (rows : Index → Row) (a : List ℤ) → IsFormed h b → length a ≡ length h.reduced → words_in h.reduced (held_in h b last rows a) ≡ a
held-words h b last rows a formed long =
    last-other h last rows _ h.reduced formed.stay ∙ words-of h.reduced a b.words.numbers long formed.apart formed.there

-- ---- a reduce variable that is changed
-- words of reduce variables with another one for a slot
abbrev pub word_for : List (ℕ × Op) → ℕ → ℤ → List ℤ → List ℤ
word_for (p ∷ ps) r x (w ∷ ws) = if r == p.0 then x ∷ ws else w ∷ word_for ps r x ws
word_for _ r x a = a

words-set : (ps : List (ℕ × Op)) (r : ℕ) (x : ℤ) (a numbers : List ℤ) → is_among r (map (λ (p : ℕ × Op). p.0) ps) ≡ true → length a ≡ length ps → set (with_words ps a numbers) r x ≡ with_words ps (word_for ps r x a) numbers
words-set [] r x a numbers among long = absurd cc
words-set (p ∷ ps) r x [] numbers among long = absurd (omega (arith, long))
words-set (p ∷ ps) r x (w ∷ ws) numbers among long = by (r == p.0) refl among (λ more. words-set ps r x ws numbers more (omega (arith, long))) where
  by : (c : Bool) → (r == p.0) ≡ c → (c || is_among r (map (λ (p : ℕ × Op). p.0) ps)) ≡ true
      → (is_among r (map (λ (p : ℕ × Op). p.0) ps) ≡ true → set (with_words ps ws numbers) r x ≡ with_words ps (word_for ps r x ws) numbers)
      → set (with_words (p ∷ ps) (w ∷ ws) numbers) r x ≡ with_words (p ∷ ps) (word_for (p ∷ ps) r x (w ∷ ws)) numbers
  by true e among rest =
      let here : r ≡ p.0 = eqb-true r p.0 e in
      rw e (ap (λ i. set (set (with_words ps ws numbers) p.0 w) i x) here ∙ set-set (with_words ps ws numbers) p.0 w x)
  by false e among rest =
      let other : p.0 ≢ r = grind (arith, nat_tests) in
      rw e (set_comm (with_words ps ws numbers) p.0 r w x other ∙ ap (λ ns. set ns p.0 w) (rest among))

pub values-set : (slots : List ℕ) (value : ℕ → ℤ) (numbers : List ℤ) (r : ℕ) (x : ℤ) → is_among r slots ≡ false → set (with_values slots value numbers) r x ≡ with_values slots value (set numbers r x)
values-set [] value numbers r x h = refl
values-set (i ∷ is) value numbers r x h = by (r == i) refl h (values-set is value numbers r x) where
  by : (c : Bool) → (r == i) ≡ c → (c || is_among r is) ≡ false → (is_among r is ≡ false → set (with_values is value numbers) r x ≡ with_values is value (set numbers r x))
      → set (with_values (i ∷ is) value numbers) r x ≡ with_values (i ∷ is) value (set numbers r x)
  by true e h rest = absurd cc
  by false e h rest =
      let other : i ≢ r = grind (arith, nat_tests) in
      set_comm (with_values is value numbers) i r (value i) x other ∙ ap (λ ns. set ns i (value i)) (rest h)

-- So a word that is put into a reduce variable of a memory that holds rows is put among its words.
pub reduce-held : (h : Changes) (b : Memory) (last : Option Index) (rows : Index → Row) (a : List ℤ) (r : ℕ) (x : ℤ) → is_among r (map (λ (p : ℕ × Op). p.0) h.reduced) ≡ true → is_among r h.numbers ≡ false
    → length a ≡ length h.reduced
    → record (held_in h b last rows a) { words = record (held_in h b last rows a).words { numbers = set (held_in h b last rows a).words.numbers r x } } ≡ held_in h b last rows (word_for h.reduced r x a)
reduce-held h b last rows a r x among stay long = by last where
  words : set (with_words h.reduced a b.words.numbers) r x ≡ with_words h.reduced (word_for h.reduced r x a) b.words.numbers
  words = words-set h.reduced r x a b.words.numbers among long

  by : (last : Option Index)
      → record (held_in h b last rows a) { words = record (held_in h b last rows a).words { numbers = set (held_in h b last rows a).words.numbers r x } } ≡ held_in h b last rows (word_for h.reduced r x a)
  by None = λ i. record (held_in h b None rows a) { words = record b.words { numbers = words i } }
  by (Some t) =
      let s : Memory = held_in h b (Some t) rows a in
      let numbers : set (with_values h.numbers (rows t).numbers (with_words h.reduced a b.words.numbers)) r x ≡ with_values h.numbers (rows t).numbers (with_words h.reduced (word_for h.reduced r x a) b.words.numbers) =
      values-set h.numbers (rows t).numbers (with_words h.reduced a b.words.numbers) r x stay ∙ ap (with_values h.numbers (rows t).numbers) words in
      λ i. record s { words = record s.words { numbers = numbers i } }
