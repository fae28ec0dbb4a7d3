-- A worker's own arrays before those that it is lent, slot by slot.
use Rattle.std.proofs.Common.{◌≡◌, ℕ, zero, suc, ◌+◌, ◌<◌, ◌≤◌, Bool, List, [], ◌∷◌, ◌++◌, length, take, set, get_or, Result, Ok, Err, IfOk, OnOk, refl, sym, ap, ◌∙◌, arith}
use Rattle.std.proofs.Math.ListN.{get_or-eq_default}
use Rattle.std.proofs.lemmas.List.{set_past}
use Rattle.dpl_language.specs.Values.{Index}
use Rattle.dpl_memory.specs.Memory.{Held, no_array, is_among}
use Rattle.dpl_memory.specs.Pieces.{owned_if, shares_from}
use Rattle.dpl_frame.specs.declared.share.Share.{Share}
use Rattle.dpl_frame.specs.declared.share.Share.TheVariants.{Lent}
use Rattle.dpl_frame.specs.Shares.{share_before, share_in, own_before}

-- what holds of a result
pub ok-is : {E : Type 0} (r : Result Bool E) (x y : Bool) → x ≡ y → IfOk r (λ b. b ≡ x) → IfOk r (λ b. b ≡ y)
ok-is (Ok b) x y same is = is ∙ same
ok-is (Err e) x y same is = tt

pub ok-then : {A E P Q : Type 0} (r : Result A E) → (P → Q) → OnOk r P → OnOk r Q
ok-then (Ok a) f p = f p
ok-then (Err e) f p = tt

any-default : {A : Type 0} (xs : List A) (k : ℕ) (d e : A) → k < length xs → get_or xs k d ≡ get_or xs k e
any-default [] k d e within = absurd (omega (arith, within))
any-default (x ∷ xs) zero d e within = refl
any-default (x ∷ xs) (suc k) d e within = any-default xs k d e (omega (arith, within))

-- THE ARRAY IN A SLOT
own_at : (own : List Share) (lent : List Held) → length own ≡ length lent → (slot : ℕ) → get_or (own_before own lent) slot no_array ≡ share_in (get_or own slot Lent) lent slot
own_at [] [] long slot = refl
own_at [] (a ∷ lent) long slot = absurd (omega (arith, long))
own_at (s ∷ own) [] long slot = absurd (omega (arith, long))
own_at (s ∷ own) (a ∷ lent) long zero = refl
own_at (s ∷ own) (a ∷ lent) long (suc slot) = own_at own lent (omega (arith, long)) slot

own_set : (own : List Share) (lent : List Held) → length own ≡ length lent → (slot : ℕ) (s : Share) → own_before (set own slot s) lent ≡ set (own_before own lent) slot (share_in s lent slot)
own_set [] [] long slot s = refl
own_set [] (a ∷ lent) long slot s = absurd (omega (arith, long))
own_set (r ∷ own) [] long slot s = absurd (omega (arith, long))
own_set (r ∷ own) (a ∷ lent) long zero s = refl
own_set (r ∷ own) (a ∷ lent) long (suc slot) s = ap (λ hs. share_before r a ∷ hs) (own_set own lent (omega (arith, long)) slot s)

own_length : (own : List Share) (lent : List Held) → length (own_before own lent) ≡ length lent
own_length [] lent = refl
own_length (s ∷ own) [] = refl
own_length (s ∷ own) (a ∷ lent) = ap suc (own_length own lent)

module _ (own : List Share) (lent : List Held) (long : length own ≡ length lent) (slot : ℕ) (seen : List Held) (view : own_before own lent ≡ seen) where
  -- past the last slot there is none, and nothing is changed
  module _ (past : length own ≤ slot) where
    seen-past : length seen ≤ slot
    seen-past = omega (arith, past, long, own_length own lent, ap length view)

    pub none-past : get_or seen slot no_array ≡ no_array
    none-past = get_or-eq_default seen no_array seen-past

    pub set-past : (a : Held) → set seen slot a ≡ seen
    set-past a = set_past seen slot a seen-past

    pub lent-past : share_in Lent lent slot ≡ get_or seen slot no_array
    lent-past = get_or-eq_default lent no_array (omega (arith, past, long)) ∙ sym none-past

  module _ (was : Share) (within : slot < length own) (is : was ≡ get_or own slot was) where
    -- what is read of a slot
    pub own-seen : get_or seen slot no_array ≡ share_in was lent slot
    own-seen =
        ap (λ hs. get_or hs slot no_array) (sym view) ∙ own_at own lent long slot
        ∙ ap (λ s. share_in s lent slot) (sym (is ∙ any-default own slot was Lent within))

    -- and what is put into it
    pub own-kept : (s : Share) → own_before (set own slot s) lent ≡ set seen slot (share_in s lent slot)
    own-kept s = own_set own lent long slot s ∙ ap (λ hs. set hs slot (share_in s lent slot)) view

    pub own-put : (f : Held → Held) (s : Share) → share_in s lent slot ≡ f (share_in was lent slot) → own_before (set own slot s) lent ≡ set seen slot (f (get_or seen slot no_array))
    own-put f s e = own-kept s ∙ ap (set seen slot) (e ∙ ap f (sym own-seen))

-- AS MANY SHARES AS SLOTS: nothing is changed by one more that is lent, nor by shares past the last slot
pub own_lent : (own : List Share) (lent : List Held) → own_before (own ++ Lent ∷ []) lent ≡ own_before own lent
own_lent [] [] = refl
own_lent [] (a ∷ lent) = refl
own_lent (s ∷ own) [] = refl
own_lent (s ∷ own) (a ∷ lent) = ap (λ hs. share_before s a ∷ hs) (own_lent own lent)

pub own_first : (own : List Share) (lent : List Held) → own_before (take (length lent) own) lent ≡ own_before own lent
own_first [] [] = refl
own_first [] (a ∷ lent) = refl
own_first (s ∷ own) [] = refl
own_first (s ∷ own) (a ∷ lent) = ap (λ hs. share_before s a ∷ hs) (own_first own lent)

-- A LOCALE'S SHARES: where those of its own are its pieces of the arrays that are written, they are what its worker begins with
module _ (written : List ℕ) (owns : Index → ℕ) (l : ℕ) where
  abbrev AreShares : ℕ → List Share → List Held → List Held → Type 0
  AreShares first own lent arrays =
      (k : ℕ) → k < length arrays → share_in (get_or own k Lent) lent k ≡ owned_if (is_among (first + k) written) owns l (get_or arrays k no_array)

  abbrev share_of : ℕ → Held → Held
  share_of slot a = owned_if (is_among slot written) owns l a

  -- the first of them, and the others
  first-share : (first : ℕ) (own : List Share) (lent : List Held) (b : Held) (arrays : List Held) → AreShares first own lent (b ∷ arrays) → share_in (get_or own 0 Lent) lent 0 ≡ share_of first b
  first-share first own lent b arrays are = let e : first + 0 ≡ first = omega arith in are 0 (omega arith) ∙ ap (λ slot. share_of slot b) e

  later-shares : (first : ℕ) (s : Share) (own : List Share) (a : Held) (lent : List Held) (b : Held) (arrays : List Held) → AreShares first (s ∷ own) (a ∷ lent) (b ∷ arrays) → AreShares (first + 1) own lent arrays
  later-shares first s own a lent b arrays are k below =
      let e : first + suc k ≡ (first + 1) + k = omega arith in
      are (suc k) (omega (arith, below)) ∙ ap (λ slot. share_of slot (get_or arrays k no_array)) e

  none-own : (first : ℕ) (a : Held) (lent : List Held) (b : Held) (arrays : List Held) → AreShares first [] (a ∷ lent) (b ∷ arrays) → AreShares (first + 1) [] lent arrays
  none-own first a lent b arrays are k below =
      let e : first + suc k ≡ (first + 1) + k = omega arith in
      are (suc k) (omega (arith, below)) ∙ ap (λ slot. share_of slot (get_or arrays k no_array)) e

  pub own_shares : (first : ℕ) (own : List Share) (lent arrays : List Held) → length lent ≡ length arrays → AreShares first own lent arrays → own_before own lent ≡ shares_from first written owns l arrays
  own_shares first [] [] [] long are = refl
  own_shares first [] [] (b ∷ arrays) long are = absurd (omega (arith, long))
  own_shares first [] (a ∷ lent) [] long are = absurd (omega (arith, long))
  own_shares first [] (a ∷ lent) (b ∷ arrays) long are =
      ap (λ (h : Held). h ∷ lent) (first-share first [] (a ∷ lent) b arrays are)
      ∙ ap (λ (hs : List Held). share_of first b ∷ hs) (own_shares (first + 1) [] lent arrays (omega (arith, long)) (none-own first a lent b arrays are))
  own_shares first (s ∷ own) [] [] long are = refl
  own_shares first (s ∷ own) [] (b ∷ arrays) long are = absurd (omega (arith, long))
  own_shares first (s ∷ own) (a ∷ lent) [] long are = absurd (omega (arith, long))
  own_shares first (s ∷ own) (a ∷ lent) (b ∷ arrays) long are =
      ap (λ (h : Held). h ∷ own_before own lent) (first-share first (s ∷ own) (a ∷ lent) b arrays are)
      ∙ ap (λ (hs : List Held). share_of first b ∷ hs) (own_shares (first + 1) own lent arrays (omega (arith, long)) (later-shares first s own a lent b arrays are))
