-- Arrays that are taken out of a memory, and apart: what stays of the memory, and what each locale's piece is.
use Rattle.std.proofs.Common.{◌≡◌, ℕ, zero, suc, ◌+◌, ◌<◌, ◌≤◌, ◌==◌, Bool, true, false, List, [], ◌∷◌, ◌++◌, length, map, take, drop, get_or, set, Option, Some, None, IsSome, refl, sym, subst, ap, ◌∙◌, slice_index_or, arith, append_assoc}
use Rattle.std.specs.Prelude.{◌||◌, if◌then◌else◌, slice_set}
use Rattle.std.proofs.lemmas.Bool.Decides.{nat_tests}
use Rattle.std.proofs.lemmas.List.{length-set, get_or-set_other, length-take-le, set_at, take_more, drop_more, get_or_append_left, get_or-take}
use Rattle.dpl_map.specs.Maps.{AxisValue, owner, locales}
use Rattle.dpl_array.specs.Arrays.{counted}
use Rattle.dpl_memory.specs.Memory.{Held, Memory, no_array, array_at, with_array, is_among}
use Rattle.dpl_memory.specs.Pieces.{owned_piece}
use Rattle.dpl_contents.specs.Parted.{Parted, parted, piece_of, with_piece}
use Rattle.dpl_apart.specs.Rows.{AreOnce}
use Rattle.dpl_frame.specs.declared.share.Share.{Share}
use Rattle.dpl_frame.specs.declared.share.Share.TheVariants.{Lent, Piece}
use Rattle.dpl_workers.specs.declared.taken.Taken.{Taken}
use Rattle.dpl_workers.specs.Taken.{emptied, taken_from, all_taken, AreThere, piece_share, share_of, without, lacking}

-- WHAT STAYS
-- only arrays are gone
pub emptied-arrays : (slots : List ℕ) (m : Memory) → emptied slots m ≡ record m { arrays = (emptied slots m).arrays }
emptied-arrays [] m = refl
emptied-arrays (slot ∷ slots) m = emptied-arrays slots (with_array slot no_array m)

pub emptied-length : (slots : List ℕ) (m : Memory) → length (emptied slots m).arrays ≡ length m.arrays
emptied-length [] m = refl
emptied-length (slot ∷ slots) m = emptied-length slots (with_array slot no_array m) ∙ length-set m.arrays slot no_array

-- and those in no other slots
other-array : (slot k : ℕ) (m : Memory) → (k == slot) ≡ false → array_at k (with_array slot no_array m) ≡ array_at k m
other-array slot k m other = get_or-set_other m.arrays slot k no_array no_array (λ same. apart same)
  where
    apart : k ≡ slot → ⊥
    apart same = grind (arith, nat_tests)

pub emptied-other : (slots : List ℕ) (m : Memory) (k : ℕ) → is_among k slots ≡ false → array_at k (emptied slots m) ≡ array_at k m
emptied-other [] m k none = refl
emptied-other (slot ∷ slots) m k none = by (k == slot) refl none (emptied-other slots (with_array slot no_array m) k) where
  by : (c : Bool) → (k == slot) ≡ c → (c || is_among k slots) ≡ false
      → (is_among k slots ≡ false → array_at k (emptied slots (with_array slot no_array m)) ≡ array_at k (with_array slot no_array m))
      → array_at k (emptied slots (with_array slot no_array m)) ≡ array_at k m
  by true e none rest = absurd cc
  by false e none rest = rest none ∙ other-array slot k m e

-- WHAT IS TAKEN
-- one array is taken before those in other slots
taken-beside : (axes : List AxisValue) (m : Memory) (slot : ℕ) (slots : List ℕ) → is_among slot slots ≡ false → map (taken_from axes (with_array slot no_array m)) slots ≡ map (taken_from axes m) slots
taken-beside axes m slot [] none = refl
taken-beside axes m slot (k ∷ slots) none = by (slot == k) refl none (taken-beside axes m slot slots) where
  by : (c : Bool) → (slot == k) ≡ c → (c || is_among slot slots) ≡ false
      → (is_among slot slots ≡ false → map (taken_from axes (with_array slot no_array m)) slots ≡ map (taken_from axes m) slots)
      → map (taken_from axes (with_array slot no_array m)) (k ∷ slots) ≡ map (taken_from axes m) (k ∷ slots)
  by true e none rest = absurd cc
  by false e none rest =
      let other : (k == slot) ≡ false = grind (arith, nat_tests) in
      ap (λ (a : Held). record { slot = k; pieces = parted axes a } ∷ map (taken_from axes (with_array slot no_array m)) slots) (other-array slot k m other)
      ∙ ap (λ ts. taken_from axes m k ∷ ts) (rest none)

pub taken-next : (axes : List AxisValue) (m : Memory) (slot : ℕ) (slots : List ℕ) (before : List Taken) (t : Taken) → AreOnce (slot ∷ slots) → t ≡ taken_from axes m slot
    → (before ++ t ∷ []) ++ map (taken_from axes (with_array slot no_array m)) slots ≡ before ++ map (taken_from axes m) (slot ∷ slots)
taken-next axes m slot slots before t once is =
    ap (λ ts. (before ++ t ∷ []) ++ ts) (taken-beside axes m slot slots once.0)
    ∙ append_assoc before (t ∷ []) (map (taken_from axes m) slots)
    ∙ ap (λ t. before ++ t ∷ map (taken_from axes m) slots) is

-- THE PIECES OF LOCALES
-- a piece that is there was there before others were taken out
kept-piece : (ps : List (Option Held)) (k l : ℕ) (a : Held) → slice_index_or (slice_set ps k None) l None ≡ Some a → slice_index_or ps l None ≡ Some a
kept-piece [] k l a e = e
kept-piece (p ∷ ps) zero zero a e = absurd cc
kept-piece (p ∷ ps) zero (suc l) a e = e
kept-piece (p ∷ ps) (suc k) zero a e = e
kept-piece (p ∷ ps) (suc k) (suc l) a e = kept-piece ps k l a e

left-piece : (ls : List ℕ) (p : Parted) (l : ℕ) (a : Held) → piece_of l (without ls p) ≡ Some a → piece_of l p ≡ Some a
left-piece [] p l a e = e
left-piece (k ∷ ls) p l a e = kept-piece p.pieces k l a (left-piece ls (with_piece k None p) l a e)

piece-before : (ls : List ℕ) (p : Parted) (l : ℕ) → IsSome (piece_of l (without ls p)) → piece_of l p ≡ piece_of l (without ls p)
piece-before ls p l some = by (piece_of l (without ls p)) refl some where
  by : (o : Option Held) → piece_of l (without ls p) ≡ o → IsSome o → piece_of l p ≡ o
  by None e some = absurd cc
  by (Some a) e some = left-piece ls p l a e

pub there-before : (ls : List ℕ) (l : ℕ) (ts : List Taken) → AreThere l (map (lacking ls) ts) → AreThere l ts
there-before ls l [] there = tt
there-before ls l (t ∷ ts) there = (subst IsSome (sym (piece-before ls t.pieces l there.0)) there.0, there-before ls l ts there.1)

pub share-before : (ls : List ℕ) (l slot : ℕ) (ts : List Taken) → AreThere l (map (lacking ls) ts) → share_of l slot (map (lacking ls) ts) ≡ share_of l slot ts
share-before ls l slot [] there = refl
share-before ls l slot (t ∷ ts) there =
    ap (λ o. if slot == t.slot then piece_share o else share_of l slot (map (lacking ls) ts)) (sym (piece-before ls t.pieces l there.0))
    ∙ ap (λ s. if slot == t.slot then piece_share (piece_of l t.pieces) else s) (share-before ls l slot ts there.1)

-- one locale's pieces more are taken out
without-next : (ls : List ℕ) (l : ℕ) (p : Parted) → with_piece l None (without ls p) ≡ without (ls ++ l ∷ []) p
without-next [] l p = refl
without-next (k ∷ ls) l p = without-next ls l (with_piece k None p)

pub lacking-next : (ls : List ℕ) (l : ℕ) (ts : List Taken) → map (lacking (l ∷ [])) (map (lacking ls) ts) ≡ map (lacking (ls ++ l ∷ [])) ts
lacking-next ls l [] = refl
lacking-next ls l (t ∷ ts) =
    ap (λ (p : Parted). record { slot = t.slot; pieces = p } ∷ map (lacking (l ∷ [])) (map (lacking ls) ts)) (without-next ls l t.pieces)
    ∙ ap (λ ts. lacking (ls ++ l ∷ []) t ∷ ts) (lacking-next ls l ts)

pub lacking-none : (ts : List Taken) → map (lacking []) ts ≡ ts
lacking-none [] = refl
lacking-none (t ∷ ts) = ap (λ ts. t ∷ ts) (lacking-none ts)

-- each piece of an array is what its locale owns
counted-piece : (f : ℕ → Held) (first n l : ℕ) (a : Held) → slice_index_or (map (λ k. Some (f k)) (counted first n)) l None ≡ Some a → Some (f (first + l)) ≡ Some a
counted-piece f first zero l a e = absurd cc
counted-piece f first (suc n) zero a e = let here : first + 0 ≡ first = omega arith in ap (λ k. Some (f k)) here ∙ e
counted-piece f first (suc n) (suc l) a e =
    let next : first + suc l ≡ (first + 1) + l = omega arith in
    ap (λ k. Some (f k)) next ∙ counted-piece f (first + 1) n l a e

parted-piece : (axes : List AxisValue) (a : Held) (l : ℕ) → IsSome (piece_of l (parted axes a)) → piece_of l (parted axes a) ≡ Some (owned_piece (owner axes) l a)
parted-piece axes a l some = by (piece_of l (parted axes a)) refl some where
  by : (o : Option Held) → piece_of l (parted axes a) ≡ o → IsSome o → o ≡ Some (owned_piece (owner axes) l a)
  by None e some = absurd cc
  by (Some p) e some =
      let here : 0 + l ≡ l = omega arith in
      sym (counted-piece (λ k. owned_piece (owner axes) k a) 0 (locales axes) l p e) ∙ ap (λ k. Some (owned_piece (owner axes) k a)) here

-- so a locale's share before what is lent is its piece of the array, where that was taken
module _ (axes : List AxisValue) (m : Memory) (l k : ℕ) where
  pub taken-share : (slots : List ℕ) → AreThere l (map (taken_from axes m) slots) → is_among k slots ≡ true
      → share_of l k (map (taken_from axes m) slots) ≡ Piece (owned_piece (owner axes) l (array_at k m))
  taken-share [] there among = absurd cc
  taken-share (slot ∷ slots) there among = by (k == slot) refl among (taken-share slots there.1) where
    by : (c : Bool) → (k == slot) ≡ c → (c || is_among k slots) ≡ true
        → (is_among k slots ≡ true → share_of l k (map (taken_from axes m) slots) ≡ Piece (owned_piece (owner axes) l (array_at k m)))
        → (if c then piece_share (piece_of l (parted axes (array_at slot m))) else share_of l k (map (taken_from axes m) slots)) ≡ Piece (owned_piece (owner axes) l (array_at k m))
    by true e among rest =
        let here : slot ≡ k = grind (arith, nat_tests) in
        ap piece_share (parted-piece axes (array_at slot m) l there.0) ∙ ap (λ slot. Piece (owned_piece (owner axes) l (array_at slot m))) here
    by false e among rest = rest among

  pub lent-share : (slots : List ℕ) → is_among k slots ≡ false → share_of l k (map (taken_from axes m) slots) ≡ Lent
  lent-share [] none = refl
  lent-share (slot ∷ slots) none = by (k == slot) refl none (lent-share slots) where
    by : (c : Bool) → (k == slot) ≡ c → (c || is_among k slots) ≡ false → (is_among k slots ≡ false → share_of l k (map (taken_from axes m) slots) ≡ Lent)
        → (if c then piece_share (piece_of l (parted axes (array_at slot m))) else share_of l k (map (taken_from axes m) slots)) ≡ Lent
    by true e none rest = absurd cc
    by false e none rest = rest none

-- FROM THE LAST ARRAY ON a locale's pieces are taken out
module _ (l : ℕ) (ts now : List Taken) (k n : ℕ) (next : n ≡ k + 1) (long : n ≤ length ts) (so_far : now ≡ take n ts ++ map (lacking (l ∷ [])) (drop n ts)) (t : Taken) (is : t ≡ get_or now k t) where
  below : k < length ts
  below = omega (arith, next, long)

  here : t ≡ get_or ts k t
  here =
      let within : k < length (take n ts) = let many = length-take-le n ts long in omega (arith, next, many) in
      let less : k < n = omega (arith, next) in
      is ∙ ap (λ (us : List Taken). get_or us k t) so_far ∙ get_or_append_left (take n ts) (map (lacking (l ∷ [])) (drop n ts)) t k within ∙ get_or-take n ts k t less

  split : drop k ts ≡ t ∷ drop n ts
  split = drop_more ts k t below ∙ ap (λ (x : Taken). x ∷ drop (k + 1) ts) (sym here) ∙ ap (λ (j : ℕ). t ∷ drop j ts) (sym next)

  firsts : take n ts ≡ take k ts ++ t ∷ []
  firsts = ap (λ (j : ℕ). take j ts) next ∙ take_more ts k t below ∙ ap (λ (x : Taken). take k ts ++ x ∷ []) (sym here)

  pub lacking-from : (one : Taken) → one ≡ lacking (l ∷ []) t → set now k one ≡ take k ts ++ map (lacking (l ∷ [])) (drop k ts)
  lacking-from one made =
      let rest : List Taken = map (lacking (l ∷ [])) (drop n ts) in
      let most : k ≤ length ts = omega (arith, next, long) in
      ap (λ (us : List Taken). set us k one) (so_far ∙ ap (λ (us : List Taken). us ++ rest) firsts ∙ append_assoc (take k ts) (t ∷ []) rest)
      ∙ set_at (take k ts) t rest one k (length-take-le k ts most)
      ∙ ap (λ (x : Taken). take k ts ++ x ∷ rest) made
      ∙ ap (λ (us : List Taken). take k ts ++ map (lacking (l ∷ [])) us) (sym split)

  pub there-from : (p : Held) → Some p ≡ piece_of l t.pieces → AreThere l (drop n ts) → AreThere l (drop k ts)
  there-from p some there = subst (AreThere l) (sym split) (subst IsSome some refl, there)

  pub share-from : (p : Held) → Some p ≡ piece_of l t.pieces → (slot : ℕ) → slot ≡ t.slot → (old new : List Share)
      → ((k : ℕ) → get_or new k Lent ≡ (if k == slot then Piece p else get_or old k Lent)) → ((k : ℕ) → get_or old k Lent ≡ share_of l k (drop n ts)) → (j : ℕ) → get_or new j Lent ≡ share_of l j (drop k ts)
  share-from p some slot own old new put before j =
      put j
      ∙ ap (λ (i : ℕ). if j == i then Piece p else get_or old j Lent) own
      ∙ ap (λ (o : Option Held). if j == t.slot then piece_share o else get_or old j Lent) some
      ∙ ap (λ (s : Share). if j == t.slot then piece_share (piece_of l t.pieces) else s) (before j)
      ∙ ap (share_of l j) (sym split)
