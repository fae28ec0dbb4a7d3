-- How workers are started one after another, and what they leave is put together piece by piece and word by word.
use Rattle.std.proofs.Common.{◌≡◌, ◌⊎◌, inl, inr, ℕ, zero, suc, ◌+◌, ◌<◌, ◌==◌, Bool, true, false, ℤ, pos, List, [], ◌∷◌, ◌++◌, Some, map, get_or, set, slice_get, refl, sym, ap, ◌∙◌, arith}
use Rattle.std.specs.Prelude.{if◌then◌else◌, unwrap_or, ◌||◌}
use Rattle.std.specs.List.{AllByRecursion, list_any}
use Rattle.std.proofs.lemmas.Bool.{cases_eq}
use Rattle.std.proofs.lemmas.Bool.Decides.{nat_tests}
use Rattle.std.proofs.lemmas.List.Folds.{list_any-append}
use Rattle.std.proofs.lemmas.Option.{none-some, same_Some}
use Rattle.dpl_language.specs.Tree.{Op}
use Rattle.dpl_language.specs.Values.{Index}
use Rattle.dpl_memory.specs.Memory.{Held, Memory, array_at, held_at, is_among}
use Rattle.dpl_memory.specs.Pieces.{owned_piece, left_by, rejoined}
use Rattle.dpl_apart.specs.Operands.{combined_words}
use Rattle.dpl_apart.specs.Rows.{AreOnce}
use Rattle.dpl_apart.specs.Memories.{IsPiece, with_words}
use Rattle.dpl_apart.specs.Workers.{locales_of, HaveWorkers, word_joined}
use Rattle.dpl_apart.proofs.Split.{each-weaker}
use Rattle.dpl_apart.proofs.Shares.{owned-element}
use Rattle.dpl_apart.proofs.Rejoined.{none-left, or-true, words-beside}

-- ---- one locale after another
not-below : (l : ℕ) (ls : List ℕ) → AllByRecursion (λ m. m < l) ls → list_any (λ m. l == m) ls ≡ false
not-below l [] below = refl
not-below l (m ∷ ms) below =
    let less = below.0 in
    let other : (l == m) ≡ false = grind (arith, nat_tests) in
    ap (λ c. c || list_any (λ m. l == m) ms) other ∙ not-below l ms below.1

once-next : (l : ℕ) (ls : List ℕ) → AreOnce ls → AllByRecursion (λ m. m < l) ls → AreOnce (ls ++ l ∷ [])
once-next l [] once below = (refl, tt)
once-next l (m ∷ ms) once below =
    let less = below.0 in
    let other : (m == l) ≡ false = grind (arith, nat_tests) in
    let last : (false || (m == l || false)) ≡ false = ap (λ c. c || false) other in (
      list_any-append (λ k. m == k) ms (l ∷ []) ∙ ap (λ c. c || (m == l || false)) once.0 ∙ last,
      once-next l ms once.1 below.1,
    )

below-next : (l : ℕ) (ls : List ℕ) → AllByRecursion (λ m. m < l) ls → AllByRecursion (λ m. m < l + 1) (ls ++ l ∷ [])
below-next l [] below = (omega arith, tt)
below-next l (m ∷ ms) below = let less = below.0 in (omega (arith, less), below-next l ms below.1)

module _ (parts : ℕ → List Index) where
  -- no locales have no workers,
  pub workers-none : HaveWorkers parts 0 []
  workers-none = record { once = tt; below = tt; there = λ l less some. absurd (omega (arith, less)) }

  -- a locale whose part is empty needs none,
  pub workers-skip : (n : ℕ) (ls : List ℕ) → HaveWorkers parts n ls → parts n ≡ [] → HaveWorkers parts (n + 1) ls
  workers-skip n ls have empty = record {
    once = have.once;
    below = each-weaker (λ l. l < n) (λ l. l < n + 1) ls (λ l less. omega (arith, less)) have.below;
    there = λ l less some. by l less some (cases_eq l n);
  } where
    by : (l : ℕ) → l < n + 1 → (parts l ≡ [] → ⊥) → (l ≡ n) ⊎ (l ≡ n → ⊥) → is_among l ls ≡ true
    by l less some (inl here) = absurd (some (ap parts here ∙ empty))
    by l less some (inr other) = have.there l (omega (arith, less, other)) some

  -- and another one gets its own.
  pub workers-next : (n : ℕ) (ls : List ℕ) → HaveWorkers parts n ls → HaveWorkers parts (n + 1) (ls ++ n ∷ [])
  workers-next n ls have = record {
    once = once-next n ls have.once have.below;
    below = below-next n ls have.below;
    there = λ l less some. list_any-append (λ k. l == k) ls (n ∷ []) ∙ by l less some (cases_eq l n);
  } where
    by : (l : ℕ) → l < n + 1 → (parts l ≡ [] → ⊥) → (l ≡ n) ⊎ (l ≡ n → ⊥) → (list_any (λ k. l == k) ls || (l == n || false)) ≡ true
    by l less some (inl here) =
        let yes : (l == n) ≡ true = grind (arith, nat_tests) in
        ap (λ c. list_any (λ k. l == k) ls || (c || false)) yes ∙ or-true (list_any (λ k. l == k) ls)
    by l less some (inr other) = ap (λ c. c || (l == n || false)) (have.there l (omega (arith, less, other)) some)

-- ---- the worker that stands at a place
pub left-at : (ws : List (ℕ × Memory)) (m : Memory) (k l : ℕ) (u : Memory) → AreOnce (locales_of ws) → slice_get ws k ≡ Some (l, u) → left_by l ws m ≡ u
left-at [] m k l u once at = absurd (none-some (l, u) at)
left-at (w ∷ ws) m zero l u once at =
    let same = same_Some w (l, u) at in
    let here : w.0 ≡ l = ap (λ (w : ℕ × Memory). w.0) same in
    let yes : (w.0 == l) ≡ true = grind (arith, nat_tests) in
    ap (λ c. if c then w.1 else left_by l ws m) yes ∙ ap (λ (w : ℕ × Memory). w.1) same
left-at (w ∷ ws) m (suc k) l u once at =
    ap (λ c. if c then w.1 else left_by l ws m) (behind ws k at once.0) ∙ left-at ws m k l u once.1 at
  where
    behind : (ws : List (ℕ × Memory)) (k : ℕ) → slice_get ws k ≡ Some (l, u) → list_any (λ m. w.0 == m) (locales_of ws) ≡ false → (w.0 == l) ≡ false
    behind [] k at none = absurd (none-some (l, u) at)
    behind (v ∷ vs) zero at none =
        let here : v.0 ≡ l = ap (λ (v : ℕ × Memory). v.0) (same_Some v (l, u) at) in
        let first : (w.0 == v.0) ≡ false = no-first (w.0 == v.0) none in
        ap (λ n. w.0 == n) (sym here) ∙ first
      where
        no-first : (c : Bool) → (c || list_any (λ m. w.0 == m) (locales_of vs)) ≡ false → c ≡ false
        no-first true e = absurd cc
        no-first false e = refl
    behind (v ∷ vs) (suc k) at none = by (w.0 == v.0) none (behind vs k at) where
      by : (c : Bool) → (c || list_any (λ m. w.0 == m) (locales_of vs)) ≡ false → (list_any (λ m. w.0 == m) (locales_of vs) ≡ false → (w.0 == l) ≡ false) → (w.0 == l) ≡ false
      by true e rest = absurd cc
      by false e rest = rest e

-- ---- words: one worker after another
pub word-next : (p : ℕ × Op) (ws : List (ℕ × Memory)) (v : ℕ × Memory) (w : ℤ) → word_joined p (ws ++ v ∷ []) w ≡ combined_words p.1 (word_joined p ws w) (get_or v.1.words.numbers p.0 (pos 0))
word-next p [] v w = refl
word-next p (x ∷ xs) v w = word-next p xs v (combined_words p.1 w (get_or x.1.words.numbers p.0 (pos 0)))

-- and one reduce variable after another
abbrev pub words_put : List (ℕ × Op) → List ℤ → List ℤ → List ℤ
words_put (p ∷ ps) (w ∷ ws) numbers = words_put ps ws (set numbers p.0 w)
words_put _ _ numbers = numbers

pub words-forward : (ps : List (ℕ × Op)) (ws numbers : List ℤ) → AreOnce (map (λ (p : ℕ × Op). p.0) ps) → words_put ps ws numbers ≡ with_words ps ws numbers
words-forward [] ws numbers apart = refl
words-forward (p ∷ ps) [] numbers apart = refl
words-forward (p ∷ ps) (w ∷ ws) numbers apart = words-forward ps ws (set numbers p.0 w) apart.1 ∙ words-beside ps ws numbers p.0 w apart.0

-- ---- pieces: where each locale has the piece that its worker has left, or its own as it was, the array has what its owners' workers have left
pub rejoined-pieces : (owns : Index → ℕ) (ws : List (ℕ × Memory)) (m : Memory) (slot : ℕ) (piece : ℕ → Held) → IsPiece (array_at slot m)
    → ((l : ℕ) → is_among l (locales_of ws) ≡ true → piece l ≡ array_at slot (left_by l ws m)) → ((l : ℕ) → is_among l (locales_of ws) ≡ false → piece l ≡ owned_piece owns l (array_at slot m))
    → map (λ t. unwrap_or (held_at t (piece (owns t))) (pos 0)) (array_at slot m).keys ≡ (rejoined owns ws m slot (array_at slot m)).words
rejoined-pieces owns ws m slot piece is_piece worked idle = ap (λ f. map f (array_at slot m).keys) (λ i t. ap (λ o. unwrap_or o (pos 0)) (at t (is_among (owns t) (locales_of ws)) refl) i) where
  at : (t : Index) (c : Bool) → is_among (owns t) (locales_of ws) ≡ c → held_at t (piece (owns t)) ≡ held_at t (array_at slot (left_by (owns t) ws m))
  at t true e = ap (held_at t) (worked (owns t) e)
  at t false e =
      ap (held_at t) (idle (owns t) e) ∙ owned-element owns (owns t) t (array_at slot m) is_piece refl ∙ sym (ap (λ u. held_at t (array_at slot u)) (none-left ws m (owns t) e))
