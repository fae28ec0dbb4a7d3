-- Values by slots: those that are put, and those that stay.
use Rattle.std.proofs.Common.{eqb-true, ◌≢◌, ◌≡◌, ℕ, zero, suc, ◌<◌, ◌≤◌, Bool, true, false, ℤ, pos, List, [], ◌∷◌, length, get_or, set, refl, sym, ap, ◌∙◌, arith}
use Rattle.std.specs.Prelude.{◌==◌, ◌||◌, nat_lt}
use Rattle.std.proofs.lemmas.Bool.Decides.{nat_tests}
use Rattle.std.proofs.lemmas.List.{get_or-set_same, get_or-set_other, length-set, set-get_or}
use Rattle.dpl_language.specs.Tree.{Op}
use Rattle.dpl_memory.specs.Memory.{is_among}
use Rattle.dpl_apart.specs.Memories.{with_words, with_values}
use Rattle.dpl_apart.proofs.Memories.{words-length}
use Rattle.dpl_turns.specs.Alongside.{slots_of, words_at, put_in, slots_in}

pub not-equal : (i j : ℕ) → (i == j) ≡ false → i ≢ j
not-equal i j e same = let yes : (i == j) ≡ true = grind (arith, nat_tests) in let no : true ≡ false = sym yes ∙ e in cc

past-end : {A : Type 0} (xs : List A) (i : ℕ) (d : A) → length xs ≤ i → get_or xs i d ≡ d
past-end [] i d h = refl
past-end (x ∷ xs) zero d h = absurd (omega (arith, h))
past-end (x ∷ xs) (suc i) d h = past-end xs i d (omega (arith, h))

-- a value put into two lists of the same length
pub set-alike : {A : Type 0} (xs ys : List A) (i j : ℕ) (v d : A) → length xs ≡ length ys → ((j == i) ≡ false → get_or xs j d ≡ get_or ys j d)
    → get_or (set xs i v) j d ≡ get_or (set ys i v) j d
set-alike xs ys i j v d long same = by (j == i) (nat_lt j (length xs)) refl refl where
  by : (c e : Bool) → (j == i) ≡ c → nat_lt j (length xs) ≡ e → get_or (set xs i v) j d ≡ get_or (set ys i v) j d
  by true true at within =
      let here : j ≡ i = eqb-true j i at in
      let below : i < length xs = grind (arith, nat_tests) in
      ap (λ j. get_or (set xs i v) j d) here ∙ get_or-set_same xs i v d below ∙ sym (ap (λ j. get_or (set ys i v) j d) here ∙ get_or-set_same ys i v d (omega (arith, below, long)))
  by true false at past =
      let least : length xs ≤ j = grind (arith, nat_tests) in
      let first = length-set xs i v in
      let second = length-set ys i v in
      past-end (set xs i v) j d (omega (arith, least, first)) ∙ sym (past-end (set ys i v) j d (omega (arith, least, second, long)))
  by false e at within = get_or-set_other xs i j v d (not-equal j i at) ∙ same at ∙ sym (get_or-set_other ys i j v d (not-equal j i at))

-- ---- other values in some slots
pub values-length : {A : Type 0} (slots : List ℕ) (value : ℕ → A) (xs : List A) → length (with_values slots value xs) ≡ length xs
values-length [] value xs = refl
values-length (i ∷ is) value xs = length-set (with_values is value xs) i (value i) ∙ values-length is value xs

pub value-among : {A : Type 0} (slots : List ℕ) (value : ℕ → A) (xs : List A) (j : ℕ) (d : A) → is_among j slots ≡ true → j < length xs → get_or (with_values slots value xs) j d ≡ value j
value-among [] value xs j d h below = absurd cc
value-among {A} (i ∷ is) value xs j d h below = by (j == i) refl h (λ more. value-among is value xs j d more below) where
  by : (c : Bool) → (j == i) ≡ c → (c || is_among j is) ≡ true → (is_among j is ≡ true → get_or (with_values is value xs) j d ≡ value j) → get_or (with_values (i ∷ is) value xs) j d ≡ value j
  by true at h rest =
      let here : j ≡ i = eqb-true j i at in
      let long = values-length is value xs in
      let below_i : i < length (with_values is value xs) = omega (arith, below, long, here) in
      ap (λ j. get_or (set (with_values is value xs) i (value i)) j d) here ∙ get_or-set_same (with_values is value xs) i (value i) d below_i ∙ sym (ap value here)
  by false at h rest = get_or-set_other (with_values is value xs) i j (value i) d (not-equal j i at) ∙ rest h

pub value-other : {A : Type 0} (slots : List ℕ) (value : ℕ → A) (xs : List A) (j : ℕ) (d : A) → is_among j slots ≡ false → get_or (with_values slots value xs) j d ≡ get_or xs j d
value-other [] value xs j d h = refl
value-other {A} (i ∷ is) value xs j d h = by (j == i) refl h (value-other is value xs j d) where
  by : (c : Bool) → (j == i) ≡ c → (c || is_among j is) ≡ false → (is_among j is ≡ false → get_or (with_values is value xs) j d ≡ get_or xs j d) → get_or (with_values (i ∷ is) value xs) j d ≡ get_or xs j d
  by true at h rest = absurd cc
  by false at h rest = get_or-set_other (with_values is value xs) i j (value i) d (not-equal j i at) ∙ rest h

-- ---- the words of reduce variables
pub own-words : (ps : List (ℕ × Op)) (numbers : List ℤ) → with_words ps (words_at ps numbers) numbers ≡ numbers
own-words [] numbers = refl
own-words (p ∷ ps) numbers = ap (λ ns. set ns p.0 (get_or numbers p.0 (pos 0))) (own-words ps numbers) ∙ set-get_or numbers p.0 (pos 0)

-- put into two lists that are the same but for them
pub words-alike : (ps : List (ℕ × Op)) (ws xs ys : List ℤ) (j : ℕ) → length ws ≡ length ps → length xs ≡ length ys → (is_among j (slots_of ps) ≡ false → get_or xs j (pos 0) ≡ get_or ys j (pos 0))
    → get_or (with_words ps ws xs) j (pos 0) ≡ get_or (with_words ps ws ys) j (pos 0)
words-alike [] ws xs ys j few long same = same refl
words-alike (p ∷ ps) [] xs ys j few long same = absurd (omega (arith, few))
words-alike (p ∷ ps) (w ∷ ws) xs ys j few long same =
    set-alike (with_words ps ws xs) (with_words ps ws ys) p.0 j w (pos 0) (words-length ps ws xs ∙ long ∙ sym (words-length ps ws ys))
    (λ other. words-alike ps ws xs ys j (omega (arith, few)) long (λ none. same (rw other none)))

pub word-other : (ps : List (ℕ × Op)) (ws xs : List ℤ) (j : ℕ) → is_among j (slots_of ps) ≡ false → get_or (with_words ps ws xs) j (pos 0) ≡ get_or xs j (pos 0)
word-other [] ws xs j h = refl
word-other (p ∷ ps) [] xs j h = refl
word-other (p ∷ ps) (w ∷ ws) xs j h = by (j == p.0) refl h (word-other ps ws xs j) where
  by : (c : Bool) → (j == p.0) ≡ c → (c || is_among j (slots_of ps)) ≡ false → (is_among j (slots_of ps) ≡ false → get_or (with_words ps ws xs) j (pos 0) ≡ get_or xs j (pos 0))
      → get_or (with_words (p ∷ ps) (w ∷ ws) xs) j (pos 0) ≡ get_or xs j (pos 0)
  by true at h rest = absurd cc
  by false at h rest = get_or-set_other (with_words ps ws xs) p.0 j w (pos 0) (not-equal j p.0 at) ∙ rest h

-- ---- values that are put one after another
pub put-length : {A : Type 0} (ps : List (ℕ × A)) (xs : List A) → length (put_in ps xs) ≡ length xs
put-length [] xs = refl
put-length (p ∷ ps) xs = length-set (put_in ps xs) p.0 p.1 ∙ put-length ps xs

pub put-alike : {A : Type 0} (ps : List (ℕ × A)) (xs ys : List A) (j : ℕ) (d : A) → length xs ≡ length ys → (is_among j (slots_in ps) ≡ false → get_or xs j d ≡ get_or ys j d)
    → get_or (put_in ps xs) j d ≡ get_or (put_in ps ys) j d
put-alike [] xs ys j d long same = same refl
put-alike (p ∷ ps) xs ys j d long same =
    set-alike (put_in ps xs) (put_in ps ys) p.0 j p.1 d (put-length ps xs ∙ long ∙ sym (put-length ps ys)) (λ other. put-alike ps xs ys j d long (λ none. same (rw other none)))

pub put-other : {A : Type 0} (ps : List (ℕ × A)) (xs : List A) (j : ℕ) (d : A) → is_among j (slots_in ps) ≡ false → get_or (put_in ps xs) j d ≡ get_or xs j d
put-other [] xs j d h = refl
put-other {A} (p ∷ ps) xs j d h = by (j == p.0) refl h (put-other ps xs j d) where
  by : (c : Bool) → (j == p.0) ≡ c → (c || is_among j (slots_in ps)) ≡ false → (is_among j (slots_in ps) ≡ false → get_or (put_in ps xs) j d ≡ get_or xs j d)
      → get_or (put_in (p ∷ ps) xs) j d ≡ get_or xs j d
  by true at h rest = absurd cc
  by false at h rest = get_or-set_other (put_in ps xs) p.0 j p.1 d (not-equal j p.0 at) ∙ rest h
