-- What workers leave together is what the turns leave: of each index what its owner has left, of the reduce variables what all have added, and
-- besides what the worker of the last index has left.
use Rattle.std.proofs.Common.{eqb-true, ◌≡◌, ◌≢◌, ℕ, zero, suc, ◌+◌, ◌==◌, Bool, true, false, cond, ℤ, pos, List, [], ◌∷◌, Option, Some, None, map, length, get_or, set, refl, sym, ap, ◌∙◌, subst, arith}
use Rattle.std.specs.Prelude.{if◌then◌else◌, unwrap_or, ◌||◌}
use Rattle.std.specs.List.{AllByRecursion, list_any, filter}
use Rattle.std.proofs.lemmas.Bool.Decides.{nat_tests}
use Rattle.std.proofs.lemmas.List.{ext_get_or, length-map, set-set, set_comm}
use Rattle.dpl_language.specs.Tree.{Op}
use Rattle.dpl_language.specs.Values.{Index}
use Rattle.dpl_language.specs.Ranges.{same_index}
use Rattle.dpl_memory.specs.Memory.{Held, Memory, no_array, array_at, held_at, is_among}
use Rattle.dpl_memory.specs.Pieces.{left_by}
use Rattle.dpl_apart.specs.Operands.{combined_words, all_combined, unit_words, AreExact}
use Rattle.dpl_apart.specs.Rows.{part_of, is_owned, gathered, all_joined, AreOnce}
use Rattle.dpl_apart.specs.Apart.{last_index}
use Rattle.dpl_apart.specs.Memories.{Changes, Row, IsFormed, held_by_if, with_elements, with_words, words_in, operators_of, with_values, held_in, row_in}
use Rattle.dpl_apart.specs.Workers.{worker_memory, locales_of, rejoined_if, rejoined_from, word_joined, words_joined, together}
use Rattle.dpl_apart.proofs.Indices.{same_index-refl}
use Rattle.dpl_apart.proofs.ReduceWords.{reduce_words}
use Rattle.dpl_apart.proofs.Split.{each-weaker}
use Rattle.dpl_apart.proofs.Memories.{map-same, element-here, element-length, held-element, held-words, values-set}
use Rattle.dpl_apart.proofs.Shares.{filter-listed, share-written, worker-formed}

-- ---- the worker of a locale
-- what is so of each worker is so of a locale's, where it has one
pub of-left : (P : ℕ × Memory → Type 0) (ws : List (ℕ × Memory)) (m : Memory) (l : ℕ) → AllByRecursion P ws → list_any (λ k. l == k) (locales_of ws) ≡ true → P (l, left_by l ws m)
of-left P [] m l all among = absurd cc
of-left P (w ∷ ws) m l all among = by (l == w.0) refl among (of-left P ws m l all.1) where
  by : (c : Bool) → (l == w.0) ≡ c → (c || list_any (λ k. l == k) (locales_of ws)) ≡ true → (list_any (λ k. l == k) (locales_of ws) ≡ true → P (l, left_by l ws m)) → P (l, left_by l (w ∷ ws) m)
  by true e among rest =
      let same : w.0 ≡ l = sym (eqb-true l w.0 e) in
      let yes : (w.0 == l) ≡ true = grind (arith, nat_tests) in
      rw yes (subst (λ k. P (k, w.1)) same all.0)
  by false e among rest = let no : (w.0 == l) ≡ false = grind (arith, nat_tests) in rw no (rest among)

-- and where it has none, the memory is as it was
pub none-left : (ws : List (ℕ × Memory)) (m : Memory) (l : ℕ) → list_any (λ k. l == k) (locales_of ws) ≡ false → left_by l ws m ≡ m
none-left [] m l among = refl
none-left (w ∷ ws) m l among = by (l == w.0) refl among (none-left ws m l) where
  by : (c : Bool) → (l == w.0) ≡ c → (c || list_any (λ k. l == k) (locales_of ws)) ≡ false → (list_any (λ k. l == k) (locales_of ws) ≡ false → left_by l ws m ≡ m) → left_by l (w ∷ ws) m ≡ m
  by true e among rest = absurd cc
  by false e among rest = let no : (w.0 == l) ≡ false = grind (arith, nat_tests) in rw no (rest among)

-- ---- the last index
-- it is the last of those that pass, where it passes
pub last-filter : (p : Index → Bool) (t : Index) → p t ≡ true → (ts : List Index) (kept last : Option Index) → (last ≡ Some t → kept ≡ Some t) → last_index last ts ≡ Some t → last_index kept (filter p ts) ≡ Some t
last-filter p t passes [] kept last as_well e = as_well e
last-filter p t passes (x ∷ xs) kept last as_well e =
    elim (p x) as (λ b. p x ≡ b → last_index kept (cond b (x ∷ filter p xs) (filter p xs)) ≡ Some t) [
      | true ↦ λ yes. last-filter p t passes xs (Some x) (Some x) (λ same. same) e
      | false ↦ λ no. last-filter p t passes xs kept (Some x) (λ same. absurd (let is : x ≡ t = cc in let wrong : true ≡ false = sym passes ∙ ap p (sym is) ∙ no in cc)) e
    ] refl

-- what is so of each index is so of the last
pub last-each : (P : Index → Type 0) (t : Index) (ts : List Index) (last : Option Index) → AllByRecursion P ts → (last ≡ Some t → P t) → last_index last ts ≡ Some t → P t
last-each P t [] last all before e = before e
last-each P t (x ∷ xs) last all before e = last-each P t xs (Some x) all.1 (λ same. let is : x ≡ t = cc in subst P is all.0) e

-- ---- arrays by slots
pub or-true : (c : Bool) → (c || true) ≡ true
or-true true = refl
or-true false = refl

-- the indices of a list are listed
pub all-listed : (ts : List Index) → AllByRecursion (λ t. list_any (same_index t) ts ≡ true) ts
all-listed [] = tt
all-listed (x ∷ xs) = (
  rw (same_index-refl x) refl,
  each-weaker (λ t. list_any (same_index t) xs ≡ true) (λ t. list_any (same_index t) (x ∷ xs) ≡ true) xs (λ t e. ap (λ c. same_index t x || c) e ∙ or-true (same_index t x)) (all-listed xs),
)

module _ (owns : Index → ℕ) (ws : List (ℕ × Memory)) (m : Memory) where
  rejoined-none : (b : Bool) (slot : ℕ) → no_array ≡ rejoined_if b owns ws m slot no_array
  rejoined-none true slot = refl
  rejoined-none false slot = refl

  rejoined-slot : (first slot : ℕ) (written : List ℕ) (hs : List Held)
      → get_or (rejoined_from first written owns ws m hs) slot no_array ≡ rejoined_if (is_among (first + slot) written) owns ws m (first + slot) (get_or hs slot no_array)
  rejoined-slot first slot written [] = rejoined-none (is_among (first + slot) written) (first + slot)
  rejoined-slot first zero written (a ∷ more) = let same : first ≡ first + 0 = omega arith in ap (λ n. rejoined_if (is_among n written) owns ws m n a) same
  rejoined-slot first (suc slot) written (a ∷ more) =
      let same : (first + 1) + slot ≡ first + suc slot = omega arith in
      rejoined-slot (first + 1) slot written more ∙ ap (λ n. rejoined_if (is_among n written) owns ws m n (get_or more slot no_array)) same

  rejoined-here : (slot : ℕ) (written : List ℕ) (hs : List Held) → get_or (rejoined_from 0 written owns ws m hs) slot no_array ≡ rejoined_if (is_among slot written) owns ws m slot (get_or hs slot no_array)
  rejoined-here slot written hs =
      let same : 0 + slot ≡ slot = omega arith in
      rejoined-slot 0 slot written hs ∙ ap (λ n. rejoined_if (is_among n written) owns ws m n (get_or hs slot no_array)) same

  rejoined-length : (first : ℕ) (written : List ℕ) (hs : List Held) → length (rejoined_from first written owns ws m hs) ≡ length hs
  rejoined-length first written [] = refl
  rejoined-length first written (a ∷ more) = ap suc (rejoined-length (first + 1) written more)

-- ---- words of reduce variables
exact-length : (ops : List Op) (ws : List ℤ) → AreExact ops ws → length ws ≡ length ops
exact-length [] [] h = refl
exact-length [] (w ∷ ws) h = absurd h
exact-length (op ∷ ops) [] h = absurd h
exact-length (op ∷ ops) (w ∷ ws) h = ap suc (exact-length ops ws h.1)

pub exact-long : (ps : List (ℕ × Op)) (ws : List ℤ) → AreExact (operators_of ps) ws → length ws ≡ length ps
exact-long ps ws h = exact-length (operators_of ps) ws h ∙ length-map ps _

-- words that are put into other slots than this one
pub words-beside : (ps : List (ℕ × Op)) (ws numbers : List ℤ) (r : ℕ) (x : ℤ) → list_any (λ k. r == k) (map (λ (p : ℕ × Op). p.0) ps) ≡ false → with_words ps ws (set numbers r x) ≡ set (with_words ps ws numbers) r x
words-beside [] ws numbers r x h = refl
words-beside (p ∷ ps) [] numbers r x h = refl
words-beside (p ∷ ps) (w ∷ ws) numbers r x h = by (r == p.0) refl h (words-beside ps ws numbers r x) where
  by : (c : Bool) → (r == p.0) ≡ c → (c || list_any (λ k. r == k) (map (λ (p : ℕ × Op). p.0) ps)) ≡ false
      → (list_any (λ k. r == k) (map (λ (p : ℕ × Op). p.0) ps) ≡ false → with_words ps ws (set numbers r x) ≡ set (with_words ps ws numbers) r x)
      → set (with_words ps ws (set numbers r x)) p.0 w ≡ set (set (with_words ps ws numbers) p.0 w) r x
  by true e h rest = absurd cc
  by false e h rest = let other : r ≢ p.0 = grind (arith, nat_tests) in ap (λ ns. set ns p.0 w) (rest h) ∙ set_comm (with_words ps ws numbers) r p.0 x w other

-- words that are put where there were others
words-twice : (ps : List (ℕ × Op)) (vs ws numbers : List ℤ) → length vs ≡ length ps → AreOnce (map (λ (p : ℕ × Op). p.0) ps) → with_words ps vs (with_words ps ws numbers) ≡ with_words ps vs numbers
words-twice [] vs ws numbers long apart = refl
words-twice (p ∷ ps) [] ws numbers long apart = absurd (omega (arith, long))
words-twice (p ∷ ps) (a ∷ vs) [] numbers long apart = refl
words-twice (p ∷ ps) (a ∷ vs) (w ∷ ws) numbers long apart =
    ap (λ ns. set ns p.0 a) (words-beside ps vs (with_words ps ws numbers) p.0 w apart.0) ∙ set-set (with_words ps vs (with_words ps ws numbers)) p.0 w a
    ∙ ap (λ ns. set ns p.0 a) (words-twice ps vs ws numbers (omega (arith, long)) apart.1)

-- and words beside values in other slots
words-values : (slots : List ℕ) (value : ℕ → ℤ) (ps : List (ℕ × Op)) (vs numbers : List ℤ) → AllByRecursion (λ (p : ℕ × Op). is_among p.0 slots ≡ false) ps
    → with_words ps vs (with_values slots value numbers) ≡ with_values slots value (with_words ps vs numbers)
words-values slots value [] vs numbers stay = refl
words-values slots value (p ∷ ps) [] numbers stay = refl
words-values slots value (p ∷ ps) (a ∷ vs) numbers stay =
    ap (λ ns. set ns p.0 a) (words-values slots value ps vs numbers stay.1) ∙ values-set slots value (with_words ps vs numbers) p.0 a stay.0

-- ---- what workers add
-- the words of workers put to others, one worker after another
abbrev put_on : List (ℕ × Op) → List (ℕ × Memory) → List ℤ → List ℤ
put_on ps [] a = a
put_on ps (w ∷ ws) a = put_on ps ws (all_combined (operators_of ps) a (words_in ps w.1))

combined-each : (ps : List (ℕ × Op)) (f g : ℕ × Op → ℤ) → all_combined (operators_of ps) (map f ps) (map g ps) ≡ map (λ (p : ℕ × Op). combined_words p.1 (f p) (g p)) ps
combined-each [] f g = refl
combined-each (p ∷ ps) f g = ap (λ ws. combined_words p.1 (f p) (g p) ∷ ws) (combined-each ps f g)

words-put : (ps : List (ℕ × Op)) (ws : List (ℕ × Memory)) (f : ℕ × Op → ℤ) → map (λ (p : ℕ × Op). word_joined p ws (f p)) ps ≡ put_on ps ws (map f ps)
words-put ps [] f = refl
words-put ps (w ∷ ws) f =
    let word : ℕ × Op → ℤ = λ p. get_or w.1.words.numbers p.0 (pos 0) in
    words-put ps ws (λ p. combined_words p.1 (f p) (word p)) ∙ ap (put_on ps ws) (sym (combined-each ps f word))

module _ (ps : List (ℕ × Op)) (sums : ℕ → List ℤ) where
  abbrev ops : List Op
  ops = operators_of ps

  -- a worker has added words that may be put together
  record HasAdded (w : ℕ × Memory) : Type 0 where
    exact : AreExact ops (sums w.0)
    words : words_in ps w.1 ≡ sums w.0

  joined-exact : (ws : List (ℕ × Memory)) → AllByRecursion HasAdded ws → AreExact ops (all_joined (all_combined ops) (unit_words ops) sums (locales_of ws))
  joined-exact [] all = (reduce_words ops).one
  joined-exact (w ∷ ws) all = (reduce_words ops).closed (sums w.0) _ all.0.exact (joined-exact ws all.1)

  put-joined : (ws : List (ℕ × Memory)) (a : List ℤ) → AreExact ops a → AllByRecursion HasAdded ws
      → put_on ps ws a ≡ all_combined ops a (all_joined (all_combined ops) (unit_words ops) sums (locales_of ws))
  put-joined [] a exact all = sym ((reduce_words ops).neutral a exact)
  put-joined (w ∷ ws) a exact all =
      ap (λ v. put_on ps ws (all_combined ops a v)) all.0.words
      ∙ put-joined ws (all_combined ops a (sums w.0)) ((reduce_words ops).closed a (sums w.0) exact all.0.exact) all.1
      ∙ (reduce_words ops).assoc a (sums w.0) _ exact all.0.exact (joined-exact ws all.1)

-- ---- all of a memory
module _ (h : Changes) (owns : Index → ℕ) (m : Memory) (ts : List Index) (ends : ℕ → Index → Row) (sums : ℕ → List ℤ) where
  -- a worker has left such rows and such words
  pub record HasLeft (w : ℕ × Memory) : Type 0 where
    pub exact : AreExact (operators_of h.reduced) (sums w.0)
    pub state : held_in h (worker_memory h owns w.0 m) (last_index None (part_of owns w.0 ts)) (ends w.0) (sums w.0) ≡ w.1

  module _ (formed : IsFormed h m) (ws : List (ℕ × Memory)) (left : AllByRecursion HasLeft ws) where
    -- the rows that they have left together
    abbrev rows_left : Index → Row
    rows_left = gathered owns ends (row_in h m) (locales_of ws)

    its-element : (slot : ℕ) (t : Index) → is_among slot h.written ≡ true → list_any (same_index t) (array_at slot m).keys ≡ true → (c : Bool) → is_owned owns (locales_of ws) t ≡ c
        → unwrap_or (held_at t (array_at slot (left_by (owns t) ws m))) (pos 0) ≡ (if c then ends (owns t) t else row_in h m t).elements slot
    its-element slot t written listed true e =
        let its = of-left HasLeft ws m (owns t) left e in
        let passes : (owns t == owns t) ≡ true = grind (arith, nat_tests) in
        let there : list_any (same_index t) (array_at slot (worker_memory h owns (owns t) m)).keys ≡ true =
        ap (λ (a : Held). list_any (same_index t) a.keys) (share-written h owns (owns t) m slot written) ∙ filter-listed (λ x. owns x == owns t) t (array_at slot m).keys passes ∙ listed in
        ap (λ u. unwrap_or (held_at t (array_at slot u)) (pos 0)) (sym its.state)
        ∙ ap (λ o. unwrap_or o (pos 0)) (held-element h (worker_memory h owns (owns t) m) (last_index None (part_of owns (owns t) ts)) (ends (owns t)) (sums (owns t)) slot t written)
        ∙ ap (λ c. unwrap_or (if c then Some ((ends (owns t) t).elements slot) else None) (pos 0)) there
    its-element slot t written listed false e =
        ap (λ u. unwrap_or (held_at t (array_at slot u)) (pos 0)) (none-left ws m (owns t) e)
        ∙ sym (ap (λ c. if c then unwrap_or (held_at t (array_at slot m)) (pos 0) else pos 0) written)

    array-rejoined : (slot : ℕ) (c : Bool) → is_among slot h.written ≡ c → rejoined_if c owns ws m slot (array_at slot m) ≡ held_by_if c (λ t. (rows_left t).elements slot) (array_at slot m)
    array-rejoined slot false e = refl
    array-rejoined slot true e =
        let a : Held = array_at slot m in
        ap (λ words. record a { words = words })
        (map-same (λ t. unwrap_or (held_at t (array_at slot (left_by (owns t) ws m))) (pos 0)) (λ t. (rows_left t).elements slot) a.keys
        (each-weaker _ _ a.keys (λ t listed. its-element slot t e listed (is_owned owns (locales_of ws) t) refl) (all-listed a.keys)))

    arrays-rejoined : rejoined_from 0 h.written owns ws m m.arrays ≡ with_elements 0 h.written rows_left m.arrays
    arrays-rejoined =
        ext_get_or no_array (rejoined_from 0 h.written owns ws m m.arrays) (with_elements 0 h.written rows_left m.arrays)
        (rejoined-length owns ws m 0 h.written m.arrays ∙ sym (element-length 0 h.written rows_left m.arrays))
        (λ slot within. rejoined-here owns ws m slot h.written m.arrays ∙ array-rejoined slot (is_among slot h.written) refl ∙ sym (element-here slot h.written rows_left m.arrays))

    has-added : (w : ℕ × Memory) → HasLeft w → HasAdded h.reduced sums w
    has-added w its = record {
      exact = its.exact;
      words = ap (words_in h.reduced) (sym its.state)
          ∙ held-words h (worker_memory h owns w.0 m) (last_index None (part_of owns w.0 ts)) (ends w.0) (sums w.0) (worker-formed h owns w.0 m formed) (exact-long h.reduced (sums w.0) its.exact);
    }

    -- what they have added together, put to the words as they were
    abbrev words_left : List ℤ
    words_left = all_combined (operators_of h.reduced) (words_in h.reduced m) (all_joined (all_combined (operators_of h.reduced)) (unit_words (operators_of h.reduced)) sums (locales_of ws))

    module _ (exact : AreExact (operators_of h.reduced) (words_in h.reduced m)) where
      all-added : AllByRecursion (HasAdded h.reduced sums) ws
      all-added = each-weaker HasLeft (HasAdded h.reduced sums) ws has-added left

      words-joined : words_joined h.reduced ws m ≡ words_left
      words-joined = words-put h.reduced ws (λ p. get_or m.words.numbers p.0 (pos 0)) ∙ put-joined h.reduced sums ws (words_in h.reduced m) exact all-added

      words-long : length words_left ≡ length h.reduced
      words-long = exact-long h.reduced words_left ((reduce_words (operators_of h.reduced)).closed (words_in h.reduced m) _ exact (joined-exact h.reduced sums ws all-added))

      -- What workers leave together is the memory that holds their rows and what they have added.
      pub together-held : AllByRecursion (λ t. is_owned owns (locales_of ws) t ≡ true) ts → together h owns ws (last_index None ts) m ≡ held_in h m (last_index None ts) rows_left words_left
      together-held owned = by (last_index None ts) refl where
        by : (last : Option Index) → last_index None ts ≡ last → together h owns ws last m ≡ held_in h m last rows_left words_left
        by None e =
            let arrays = arrays-rejoined in
            let words = words-joined in
            λ i. record m { words = record m.words { numbers = with_words h.reduced (words i) m.words.numbers }; arrays = arrays i }
        by (Some t) e =
            let own : is_owned owns (locales_of ws) t ≡ true = last-each (λ t. is_owned owns (locales_of ws) t ≡ true) t ts None owned (λ no. absurd cc) e in
            let its = of-left HasLeft ws m (owns t) left own in
            let passes : (owns t == owns t) ≡ true = grind (arith, nat_tests) in
            let b : Memory = worker_memory h owns (owns t) m in
            let u : Memory = left_by (owns t) ws m in
            let row : rows_left t ≡ ends (owns t) t = ap (λ c. if c then ends (owns t) t else row_in h m t) own in
            let state : u ≡ held_in h b (Some t) (ends (owns t)) (sums (owns t)) =
            sym its.state ∙ ap (λ last. held_in h b last (ends (owns t)) (sums (owns t))) (last-filter (λ x. owns x == owns t) t passes ts None None (λ same. same) e) in
            let words = words-joined in
            let numbers : with_words h.reduced (words_joined h.reduced ws m) u.words.numbers ≡ with_values h.numbers (rows_left t).numbers (with_words h.reduced words_left m.words.numbers) =
            ap (λ a. with_words h.reduced a u.words.numbers) words
            ∙ ap (λ (s : Memory). with_words h.reduced words_left s.words.numbers) state
            ∙ words-values h.numbers (ends (owns t) t).numbers h.reduced words_left (with_words h.reduced (sums (owns t)) b.words.numbers) formed.stay
            ∙ ap (with_values h.numbers (ends (owns t) t).numbers)
            (words-twice h.reduced words_left (sums (owns t)) b.words.numbers words-long formed.apart ∙ words-twice h.reduced words_left (unit_words (operators_of h.reduced)) m.words.numbers words-long formed.apart)
            ∙ ap (λ (r : Row). with_values h.numbers r.numbers (with_words h.reduced words_left m.words.numbers)) (sym row) in
            let ranges : u.words.ranges ≡ with_values h.ranges (rows_left t).ranges m.words.ranges =
            ap (λ (s : Memory). s.words.ranges) state ∙ ap (λ (r : Row). with_values h.ranges r.ranges m.words.ranges) (sym row) in
            let tuples : u.tuples ≡ with_values h.tuples (rows_left t).tuples m.tuples = ap (λ (s : Memory). s.tuples) state ∙ ap (λ (r : Row). with_values h.tuples r.tuples m.tuples) (sym row) in
            let arrays = arrays-rejoined in
            λ i. record m { words = record m.words { numbers = numbers i; ranges = ranges i }; tuples = tuples i; arrays = arrays i }
