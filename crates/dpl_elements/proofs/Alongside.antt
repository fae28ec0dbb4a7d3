-- Words put side by side into the array of a slot: what putting them one by one makes of the arrays.
-- What is held elsewhere stays, and an index that is there stays there.
use Rattle.std.proofs.Common.{◌≡◌, ◌≢◌, ◌<◌, ◌*◌, ℕ, zero, suc, ℤ, pos, negsuc, ◌+ℤ◌, ◌*ℤ◌, Bool, true, false, List, [], ◌∷◌, length, set, get_or, slice_get, Option, Some, None, is_some, if◌then◌else◌, refl, sym, ap, ◌∙◌, ◌⊎◌, ⊎_elim, inl, inr, arith}
use Rattle.std.proofs.lemmas.Bool.{cases_Bool}
use Rattle.std.proofs.lemmas.Int.{ints}
use Rattle.std.proofs.lemmas.List.{set-get_or, set-set, get_or-set_same, get_or-set_other}
use Rattle.std.proofs.Math.IntN.{pos-*ℤ-pos, negsuc-*ℤ-pos}
use Rattle.std.proofs.Math.Nat.{mul-lt-mul_of_pos_left}
use Rattle.dpl_array.specs.Elements.{Row, along, behind, put_some, put_in_row}
use Rattle.dpl_array.proofs.ElementLemmas.{same_index-true, not-same}
use Rattle.dpl_language.specs.Values.{Index}
use Rattle.dpl_language.specs.Ranges.{same_index}
use Rattle.dpl_contents.proofs.Members.{is_index-same}
use Rattle.dpl_memory.specs.Memory.{Held, no_array, word_at, with_word, held_at, held_with}
use Rattle.dpl_frame.proofs.EmptySlots.{held_at_none}

-- INDICES BEHIND ONE ANOTHER
distances-apart : (s : ℤ) (j k : ℕ) → s ≢ pos 0 → j < k → s *ℤ pos k ≡ s *ℤ pos j → ⊥
distances-apart (pos zero) j k moves less same = absurd (moves refl)
distances-apart (pos (suc n)) j k moves less same =
    let more : suc n * j < suc n * k = mul-lt-mul_of_pos_left less (omega arith) in
    omega (arith, ints, more, sym (pos-*ℤ-pos (suc n) k) ∙ same ∙ pos-*ℤ-pos (suc n) j)
distances-apart (negsuc n) j k moves less same =
    let more : suc n * j < suc n * k = mul-lt-mul_of_pos_left less (omega arith) in
    omega (arith, ints, more, sym (negsuc-*ℤ-pos n k) ∙ same ∙ negsuc-*ℤ-pos n j)

along-apart : (c d : ℤ) (t : List ℤ) → 0 < length t → along c t ≡ along d t → c ≡ d
along-apart c d [] some same = absurd (omega (arith, some))
along-apart c d (i ∷ []) some same =
    let heads : i +ℤ c ≡ i +ℤ d = ap (λ is. get_or is 0 (pos 0)) same in
    omega (arith, ints, heads)
along-apart c d (i ∷ h ∷ is) some same = along-apart c d (h ∷ is) (omega arith) (ap tail same)
  where
    tail : Index → Index
    tail [] = []
    tail (i ∷ is) = is

pub index-apart : (j k : ℕ) (t : Row) → 0 < length t.first → t.step ≢ pos 0 → j < k → same_index (behind k t) (behind j t) ≡ false
index-apart j k t some moves less =
    is_index-same (behind k t) (behind j t)
    ∙ not-same (behind k t) (behind j t) (λ same. distances-apart t.step j k moves less (along-apart (t.step *ℤ pos k) (t.step *ℤ pos j) t.first some same))

-- A WORD MORE
-- at another index is what was there
elsewhere : (t u : Index) (w : ℤ) (is : List Index) (ws : List ℤ) → same_index u t ≡ false → word_at u is (with_word t w is ws) ≡ word_at u is ws
elsewhere t u w [] ws other = refl
elsewhere t u w (i ∷ is) [] other = refl
elsewhere t u w (i ∷ is) (v ∷ ws) other =
    ⊎_elim
    (λ (here : same_index t i ≡ true).
    let at : t ≡ i = same_index-true t i (sym (is_index-same t i) ∙ here) in
    let no : same_index u i ≡ false = ap (same_index u) (sym at) ∙ other in
    rw here (rw no refl))
    (λ (there : same_index t i ≡ false). rw there (ap (λ o. if same_index u i then Some v else o) (elsewhere t u w is ws other)))
    (cases_Bool (same_index t i))

-- and an index that is there stays there
still : (t u : Index) (w : ℤ) (is : List Index) (ws : List ℤ) → is_some (word_at u is (with_word t w is ws)) ≡ is_some (word_at u is ws)
still t u w [] ws = refl
still t u w (i ∷ is) [] = refl
still t u w (i ∷ is) (v ∷ ws) =
    ⊎_elim
    (λ (here : same_index t i ≡ true). rw here (some (same_index u i) (word_at u is ws)))
    (λ (there : same_index t i ≡ false). rw there (later (same_index u i) _ _ (still t u w is ws)))
    (cases_Bool (same_index t i))
  where
    some : (b : Bool) (o : Option ℤ) → is_some (if b then Some w else o) ≡ is_some (if b then Some v else o)
    some true o = refl
    some false o = refl

    later : (b : Bool) (o q : Option ℤ) → is_some o ≡ is_some q → is_some (if b then Some v else o) ≡ is_some (if b then Some v else q)
    later true o q same = refl
    later false o q same = same

pub held-elsewhere : (t u : Index) (w : ℤ) (a : Held) → same_index u t ≡ false → held_at u (held_with t w a) ≡ held_at u a
held-elsewhere t u w a other = elsewhere t u w a.keys a.words other

pub held-still : (t u : Index) (w : ℤ) (a : Held) → is_some (held_at u (held_with t w a)) ≡ is_some (held_at u a)
held-still t u w a = still t u w a.keys a.words

-- SIDE BY SIDE
-- an array that has an index is in a slot
pub held-within : (slot : ℕ) (t : Index) (arrays : List Held) → is_some (held_at t (get_or arrays slot no_array)) ≡ true → slot < length arrays
held-within slot t [] there = let e : true ≡ false = sym there ∙ ap is_some (held_at_none t) in absurd cc
held-within zero t (a ∷ arrays) there = omega arith
held-within (suc slot) t (a ∷ arrays) there = let rest = held-within slot t arrays there in omega (arith, rest)

pub slots-apart : (m n : ℕ) → (m ≡ n) ⊎ (m ≢ n)
slots-apart zero zero = inl refl
slots-apart zero (suc n) = inr (λ is. absurd (omega (arith, is)))
slots-apart (suc m) zero = inr (λ is. absurd (omega (arith, is)))
slots-apart (suc m) (suc n) =
    ⊎_elim
    (λ (same : m ≡ n). inl (ap suc same))
    (λ (other : m ≢ n). inr (λ (is : suc m ≡ suc n). other (omega (arith, is))))
    (slots-apart m n)

module _ (slot : ℕ) (t : Row) (ws : List ℤ) (arrays : List Held) where
  -- the array, and the arrays of all slots, after so many
  abbrev pub row_put : ℕ → Held
  row_put k = put_in_row held_with t ws k (get_or arrays slot no_array)

  abbrev pub arrays_put : ℕ → List Held
  arrays_put k = set arrays slot (row_put k)

  pub none-put : arrays_put 0 ≡ arrays
  none-put = set-get_or arrays slot no_array

  row-still : (u : Index) (k : ℕ) → is_some (held_at u (row_put k)) ≡ is_some (held_at u (get_or arrays slot no_array))
  row-still u zero = refl
  row-still u (suc k) = by (slice_get ws k) ∙ row-still u k
    where
      by : (o : Option ℤ) → is_some (held_at u (put_some held_with (behind k t) o (row_put k))) ≡ is_some (held_at u (row_put k))
      by None = refl
      by (Some w) = held-still (behind k t) u w (row_put k)

  row-elsewhere : (u : Index) (n : ℕ) → ((k : ℕ) → k < n → same_index u (behind k t) ≡ false) → held_at u (row_put n) ≡ held_at u (get_or arrays slot no_array)
  row-elsewhere u zero other = refl
  row-elsewhere u (suc n) other = by (slice_get ws n) ∙ row-elsewhere u n (λ k below. other k (omega (arith, below)))
    where
      by : (o : Option ℤ) → held_at u (put_some held_with (behind n t) o (row_put n)) ≡ held_at u (row_put n)
      by None = refl
      by (Some w) = held-elsewhere (behind n t) u w (row_put n) (other n (omega arith))

  -- other slots
  pub others-put : (k other : ℕ) → other ≢ slot → get_or (arrays_put k) other no_array ≡ get_or arrays other no_array
  others-put k other apart = get_or-set_other arrays slot other (row_put k) no_array apart

  module _ (within : slot < length arrays) (some : 0 < length t.first) (moves : t.step ≢ pos 0) where
    array-put : (k : ℕ) → get_or (arrays_put k) slot no_array ≡ row_put k
    array-put k = get_or-set_same arrays slot (row_put k) no_array within

    -- what stands at the next index is as it was, in all arrays
    pub next-same : (k other : ℕ) → held_at (behind k t) (get_or (arrays_put k) other no_array) ≡ held_at (behind k t) (get_or arrays other no_array)
    next-same k other =
        ⊎_elim
        (λ (same : other ≡ slot).
        ap (λ m. held_at (behind k t) (get_or (arrays_put k) m no_array)) same
        ∙ ap (held_at (behind k t)) (array-put k)
        ∙ row-elsewhere (behind k t) k (λ j below. index-apart j k t some moves below)
        ∙ ap (λ m. held_at (behind k t) (get_or arrays m no_array)) (sym same))
        (λ (apart : other ≢ slot). ap (held_at (behind k t)) (others-put k other apart))
        (slots-apart other slot)

    -- one more
    pub next-put : (k : ℕ) (w : ℤ) → slice_get ws k ≡ Some w → set (arrays_put k) slot (held_with (behind k t) w (get_or (arrays_put k) slot no_array)) ≡ arrays_put (suc k)
    next-put k w at =
        ap (λ a. set (arrays_put k) slot (held_with (behind k t) w a)) (array-put k)
        ∙ set-set arrays slot (row_put k) (held_with (behind k t) w (row_put k))
        ∙ ap (λ o. set arrays slot (put_some held_with (behind k t) o (row_put k))) (sym at)
