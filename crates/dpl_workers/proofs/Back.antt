-- The arrays that come back, in the slots of those that were taken apart, are what workers leave together.
use Rattle.std.proofs.Common.{◌≡◌, ◌≢◌, ℕ, zero, suc, ◌+◌, ◌<◌, ◌==◌, Bool, true, false, List, [], ◌∷◌, Option, Some, None, map, length, get_or, set, eqb-true, refl, sym, ap, subst, ◌∙◌, arith}
use Rattle.std.specs.Prelude.{if◌then◌else◌, ◌||◌}
use Rattle.std.specs.List.{AllByRecursion}
use Rattle.std.proofs.lemmas.Bool.Decides.{nat_tests}
use Rattle.std.proofs.lemmas.List.{ext_get_or, length-map, length-set, get_or-set_same, get_or-set_other}
use Rattle.dpl_map.specs.Maps.{AxisValue, owner, locales}
use Rattle.dpl_array.specs.Arrays.{counted}
use Rattle.dpl_array.proofs.UnionLemmas.{counted-at}
use Rattle.dpl_language.specs.Values.{Index}
use Rattle.dpl_memory.specs.Memory.{Held, Memory, no_array, array_at, held_at, is_among, with_array}
use Rattle.dpl_memory.specs.Pieces.{owned_piece, left_by, rejoined}
use Rattle.dpl_apart.specs.Rows.{AreOnce}
use Rattle.dpl_apart.specs.Memories.{Changes, IsPiece, IsFormed}
use Rattle.dpl_apart.specs.Workers.{locales_of, rejoined_if, rejoined_from}
use Rattle.dpl_apart.proofs.Shares.{owned-element}
use Rattle.dpl_apart.proofs.Rejoined.{none-left, or-true}
use Rattle.dpl_contents.specs.Parted.{Parted, parted, piece_of, with_piece, word_in, whole_of}
use Rattle.dpl_contents.proofs.Rejoined.{whole-rejoined}
use Rattle.dpl_frame.specs.declared.share.Share.{Share}
use Rattle.dpl_frame.specs.declared.share.Share.TheVariants.{Lent, Piece, Whole}
use Rattle.dpl_frame.specs.Shares.{share_before, share_in, own_before}
use Rattle.dpl_workers.specs.declared.job.Worked.{Worked}
use Rattle.dpl_workers.specs.declared.taken.Taken.{Taken}
use Rattle.dpl_workers.specs.Taken.{IsCut, emptied, taken_from, without, lacking, IsPieceShare, ArePieces, put_in, all_put, given_back}

-- WHAT WORKERS HAVE LEFT: each a memory of so many slots, with its own arrays before those that it was lent
pub record HasLeft (slots : ℕ) (w : Worked) (u : ℕ × Memory) : Type 0 where
  pub locale : w.locale ≡ u.0
  pub shares : (lent : List Held) × (u.1.arrays ≡ own_before w.own.items lent)
  pub long : length u.1.arrays ≡ slots

abbrev pub HaveLeft : ℕ → List Worked → List (ℕ × Memory) → Type 0
HaveLeft slots [] [] = Unit {0}
HaveLeft slots (w ∷ ws) (u ∷ us) = HasLeft slots w u × HaveLeft slots ws us
HaveLeft slots _ _ = ⊥

-- ---- tests
no-or : (a b : Bool) → (a || b) ≡ false → (a ≡ false) × (b ≡ false)
no-or true b e = absurd cc
no-or false b e = (refl, e)

-- ---- an array of one's own
own-length : (own : List Share) (lent : List Held) → length (own_before own lent) ≡ length lent
own-length [] lent = refl
own-length (s ∷ own) [] = refl
own-length (s ∷ own) (a ∷ lent) = ap suc (own-length own lent)

own-at : (own : List Share) (lent : List Held) (slot : ℕ) → slot < length lent → get_or (own_before own lent) slot no_array ≡ share_in (get_or own slot Lent) lent slot
own-at [] lent slot below = refl
own-at (s ∷ own) [] slot below = absurd (omega (arith, below))
own-at (s ∷ own) (a ∷ lent) zero below = refl
own-at (s ∷ own) (a ∷ lent) (suc slot) below = own-at own lent slot (omega (arith, below))

-- ---- PIECES IN THEIR PLACES
-- the same array, cut by the same map, whatever pieces are there
record IsOver (p q : Parted) : Type 0 where
  ranges : q.ranges ≡ p.ranges
  axes : q.axes ≡ p.axes
  long : length q.pieces ≡ length p.pieces

over-put : (p q : Parted) → IsOver p q → (l : ℕ) (s : Share) → IsOver p (put_in l s q)
over-put p q over l Lent = over
over-put p q over l (Piece r) = record { ranges = over.ranges; axes = over.axes; long = length-set q.pieces l (Some (record r { ranges = q.ranges })) ∙ over.long }
over-put p q over l (Whole a) = over

over-all : (slot : ℕ) (p : Parted) (ws : List Worked) (q : Parted) → IsOver p q → IsOver p (all_put slot ws q)
over-all slot p [] q over = over
over-all slot p (w ∷ ws) q over = over-all slot p ws (put_in w.locale (get_or w.own.items slot Lent) q) (over-put p q over w.locale (get_or w.own.items slot Lent))

over-without : (p : Parted) (ls : List ℕ) (q : Parted) → IsOver p q → IsOver p (without ls q)
over-without p [] q over = over
over-without p (l ∷ ls) q over = over-without p ls (with_piece l None q) (record { ranges = over.ranges; axes = over.axes; long = length-set q.pieces l None ∙ over.long })

-- in other places nothing changes
piece-other : (l k : ℕ) (o : Option Held) (p : Parted) → (l == k) ≡ false → piece_of l (with_piece k o p) ≡ piece_of l p
piece-other l k o p other = let apart : l ≢ k = grind (arith, nat_tests) in get_or-set_other p.pieces k l o None apart

put-other : (l k : ℕ) (s : Share) (p : Parted) → (l == k) ≡ false → piece_of l (put_in k s p) ≡ piece_of l p
put-other l k Lent p other = refl
put-other l k (Piece q) p other = piece-other l k (Some (record q { ranges = p.ranges })) p other
put-other l k (Whole a) p other = refl

without-other : (l : ℕ) (ls : List ℕ) (p : Parted) → is_among l ls ≡ false → piece_of l (without ls p) ≡ piece_of l p
without-other l [] p none = refl
without-other l (k ∷ ks) p none =
    let no = no-or (l == k) (is_among l ks) none in
    without-other l ks (with_piece k None p) no.1 ∙ piece-other l k None p no.0

-- and in its own a piece has the words that it had before any array
put-here : (l : ℕ) (s : Share) (p : Parted) → IsPieceShare s → l < length p.pieces → (t : Index) (a : Held) → word_in t (piece_of l (put_in l s p)) ≡ held_at t (share_before s a)
put-here l Lent p is below t a = absurd is
put-here l (Piece q) p is below t a = ap (word_in t) (get_or-set_same p.pieces l (Some (record q { ranges = p.ranges })) None below)
put-here l (Whole b) p is below t a = absurd is

module _ (slots slot : ℕ) where
  abbrev share : Worked → Share
  share w = get_or w.own.items slot Lent

  all-other : (l : ℕ) (ws : List Worked) (us : List (ℕ × Memory)) (p : Parted) → HaveLeft slots ws us → is_among l (locales_of us) ≡ false → piece_of l (all_put slot ws p) ≡ piece_of l p
  all-other l [] [] p left none = refl
  all-other l [] (u ∷ us) p left none = absurd left
  all-other l (w ∷ ws) [] p left none = absurd left
  all-other l (w ∷ ws) (u ∷ us) p left none =
      let no = no-or (l == u.0) (is_among l (locales_of us)) none in
      all-other l ws us (put_in w.locale (share w) p) left.1 no.1 ∙ put-other l w.locale (share w) p (ap (λ k. l == k) left.0.locale ∙ no.0)

  -- of a locale that has a worker
  all-here : slot < slots → (l : ℕ) (t : Index) (m : Memory) (ws : List Worked) (us : List (ℕ × Memory)) (p : Parted) → HaveLeft slots ws us → ArePieces ws slot → AreOnce (locales_of us)
      → l < length p.pieces → is_among l (locales_of us) ≡ true → word_in t (piece_of l (all_put slot ws p)) ≡ held_at t (array_at slot (left_by l us m))
  all-here within l t m [] [] p left are once below among = absurd cc
  all-here within l t m [] (u ∷ us) p left are once below among = absurd left
  all-here within l t m (w ∷ ws) [] p left are once below among = absurd left
  all-here within l t m (w ∷ ws) (u ∷ us) p left are once below among =
      let over = over-put p p (record { ranges = refl; axes = refl; long = refl }) w.locale (share w) in
      by (l == u.0) refl among (all-here within l t m ws us (put_in w.locale (share w) p) left.1 are.1 once.1 (subst (λ n. l < n) (sym over.long) below))
    where
      by : (c : Bool) → (l == u.0) ≡ c → (c || is_among l (locales_of us)) ≡ true
          → (is_among l (locales_of us) ≡ true → word_in t (piece_of l (all_put slot ws (put_in w.locale (share w) p))) ≡ held_at t (array_at slot (left_by l us m)))
          → word_in t (piece_of l (all_put slot ws (put_in w.locale (share w) p))) ≡ held_at t (array_at slot (left_by l (u ∷ us) m))
      by true e h rest =
          let here : u.0 ≡ l = sym (eqb-true l u.0 e) in
          let yes : (u.0 == l) ≡ true = grind (arith, nat_tests) in
          let lent = left.0.shares.0 in
          let there : slot < length lent = subst (λ n. slot < n) (sym left.0.long ∙ ap length left.0.shares.1 ∙ own-length w.own.items lent) within in
          ap (word_in t) (all-other l ws us (put_in w.locale (share w) p) left.1 (ap (λ k. is_among k (locales_of us)) (sym here) ∙ once.0))
          ∙ ap (λ k. word_in t (piece_of l (put_in k (share w) p))) (left.0.locale ∙ here)
          ∙ put-here l (share w) p are.0 below t (get_or lent slot no_array)
          ∙ ap (held_at t) (sym (own-at w.own.items lent slot there))
          ∙ ap (λ (hs : List Held). held_at t (get_or hs slot no_array)) (sym left.0.shares.1)
          ∙ sym (ap (λ c. held_at t (array_at slot (if c then u.1 else left_by l us m))) yes)
      by false e h rest = let no : (u.0 == l) ≡ false = grind (arith, nat_tests) in rest h ∙ sym (ap (λ c. held_at t (array_at slot (if c then u.1 else left_by l us m))) no)

-- ---- ARRAYS IN THEIR SLOTS
abbrev kept : List ℕ → (ℕ → Held) → List Held → List Held
kept [] f hs = hs
kept (slot ∷ slots) f hs = kept slots f (set hs slot (f slot))

kept-long : (slots : List ℕ) (f : ℕ → Held) (hs : List Held) → length (kept slots f hs) ≡ length hs
kept-long [] f hs = refl
kept-long (slot ∷ slots) f hs = kept-long slots f (set hs slot (f slot)) ∙ length-set hs slot (f slot)

either-way : {A : Type 0} (c : Bool) (a : A) → (if c then a else a) ≡ a
either-way true a = refl
either-way false a = refl

kept-slot : (f : ℕ → Held) (k : ℕ) (slots : List ℕ) (hs : List Held) → k < length hs → get_or (kept slots f hs) k no_array ≡ (if is_among k slots then f k else get_or hs k no_array)
kept-slot f k [] hs below = refl
kept-slot f k (slot ∷ slots) hs below = kept-slot f k slots (set hs slot (f slot)) (subst (λ n. k < n) (sym (length-set hs slot (f slot))) below) ∙ by (k == slot) refl where
  by : (c : Bool) → (k == slot) ≡ c → (if is_among k slots then f k else get_or (set hs slot (f slot)) k no_array) ≡ (if c || is_among k slots then f k else get_or hs k no_array)
  by true e =
      let here : k ≡ slot = eqb-true k slot e in
      ap (λ (a : Held). if is_among k slots then f k else a) (ap (λ j. get_or (set hs j (f j)) k no_array) (sym here) ∙ get_or-set_same hs k (f k) no_array below)
      ∙ either-way (is_among k slots) (f k)
  by false e = let other : k ≢ slot = grind (arith, nat_tests) in ap (λ (a : Held). if is_among k slots then f k else a) (get_or-set_other hs slot k (f slot) no_array other)

emptied-long : (slots : List ℕ) (m : Memory) → length (emptied slots m).arrays ≡ length m.arrays
emptied-long [] m = refl
emptied-long (slot ∷ slots) m = emptied-long slots (with_array slot no_array m) ∙ length-set m.arrays slot no_array

emptied-slot : (slots : List ℕ) (m : Memory) (k : ℕ) → is_among k slots ≡ false → array_at k (emptied slots m) ≡ array_at k m
emptied-slot [] m k none = refl
emptied-slot (slot ∷ slots) m k none =
    let no = no-or (k == slot) (is_among k slots) none in
    let apart = no.0 in
    let other : k ≢ slot = grind (arith, nat_tests) in
    emptied-slot slots (with_array slot no_array m) k no.1 ∙ get_or-set_other m.arrays slot k no_array no_array other

module _ (owns : Index → ℕ) (us : List (ℕ × Memory)) (m : Memory) where
  rejoined-past : (c : Bool) (slot : ℕ) → no_array ≡ rejoined_if c owns us m slot no_array
  rejoined-past true slot = refl
  rejoined-past false slot = refl

  rejoined-long : (first : ℕ) (written : List ℕ) (hs : List Held) → length (rejoined_from first written owns us m hs) ≡ length hs
  rejoined-long first written [] = refl
  rejoined-long first written (a ∷ more) = ap suc (rejoined-long (first + 1) written more)

  rejoined-at : (first k : ℕ) (written : List ℕ) (hs : List Held)
      → get_or (rejoined_from first written owns us m hs) k no_array ≡ rejoined_if (is_among (first + k) written) owns us m (first + k) (get_or hs k no_array)
  rejoined-at first k written [] = rejoined-past (is_among (first + k) written) (first + k)
  rejoined-at first zero written (a ∷ more) = let same : first ≡ first + 0 = omega arith in ap (λ n. rejoined_if (is_among n written) owns us m n a) same
  rejoined-at first (suc k) written (a ∷ more) =
      let same : (first + 1) + k ≡ first + suc k = omega arith in
      rejoined-at (first + 1) k written more ∙ ap (λ n. rejoined_if (is_among n written) owns us m n (get_or more k no_array)) same

  kept-rejoined : (written : List ℕ) (hs : List Held) → hs ≡ (emptied written m).arrays → kept written (λ slot. rejoined owns us m slot (array_at slot m)) hs ≡ rejoined_from 0 written owns us m m.arrays
  kept-rejoined written hs same =
      ext_get_or no_array (kept written f hs) (rejoined_from 0 written owns us m m.arrays)
      (kept-long written f hs ∙ many ∙ sym (rejoined-long 0 written m.arrays))
      (λ k below.
      kept-slot f k written hs (subst (λ n. k < n) (kept-long written f hs) below) ∙ by k (is_among k written) refl
      ∙ sym (let first : 0 + k ≡ k = omega arith in rejoined-at 0 k written m.arrays ∙ ap (λ n. rejoined_if (is_among n written) owns us m n (get_or m.arrays k no_array)) first))
    where
      f : ℕ → Held
      f slot = rejoined owns us m slot (array_at slot m)

      many : length hs ≡ length m.arrays
      many = ap length same ∙ emptied-long written m

      by : (k : ℕ) (c : Bool) → is_among k written ≡ c → (if c then rejoined owns us m k (array_at k m) else get_or hs k no_array) ≡ rejoined_if c owns us m k (array_at k m)
      by k true e = refl
      by k false e = ap (λ (hs : List Held). get_or hs k no_array) same ∙ emptied-slot written m k e

counted-long : (first n : ℕ) → length (counted first n) ≡ n
counted-long first zero = refl
counted-long first (suc n) = ap suc (counted-long (first + 1) n)

module _ (axes : List AxisValue) (m : Memory) (ws : List Worked) (us : List (ℕ × Memory)) (left : HaveLeft (length m.arrays) ws us) (once : AreOnce (locales_of us)) where
  abbrev ls : List ℕ
  ls = locales_of us

  module _ (slot : ℕ) (within : slot < length m.arrays) (piece : IsPiece (array_at slot m)) (cut : IsCut axes m slot) (are : ArePieces ws slot) where
    abbrev a : Held
    a = array_at slot m

    abbrev begun : Parted
    begun = without ls (parted axes a)

    abbrev back : Parted
    back = all_put slot ws begun

    begun-over : IsOver (parted axes a) begun
    begun-over = over-without (parted axes a) ls (parted axes a) (record { ranges = refl; axes = refl; long = refl })

    back-over : IsOver (parted axes a) back
    back-over = over-all slot (parted axes a) ws begun begun-over

    enough : (t : Index) → owner axes t < length begun.pieces
    enough t = subst (λ n. owner axes t < n) (sym (begun-over.long ∙ length-map (counted 0 (locales axes)) (λ l. Some (owned_piece (owner axes) l a)) ∙ counted-long 0 (locales axes))) (cut.owners t)

    word-back : (t : Index) (c : Bool) → is_among (owner axes t) ls ≡ c → word_in t (piece_of (owner axes t) back) ≡ held_at t (array_at slot (left_by (owner axes t) us m))
    word-back t true e = all-here (length m.arrays) slot within (owner axes t) t m ws us begun left are once (enough t) e
    word-back t false e =
        let first : 0 + owner axes t ≡ owner axes t = omega arith in
        ap (word_in t)
        (all-other (length m.arrays) slot (owner axes t) ws us begun left e ∙ without-other (owner axes t) ls (parted axes a) e
        ∙ counted-at (λ l. Some (owned_piece (owner axes) l a)) 0 (locales axes) (owner axes t) (cut.owners t) ∙ ap (λ l. Some (owned_piece (owner axes) l a)) first)
        ∙ owned-element (owner axes) (owner axes t) t a piece refl
        ∙ sym (ap (λ u. held_at t (array_at slot u)) (none-left us m (owner axes t) e))

    array-back : whole_of back ≡ rejoined (owner axes) us m slot a
    array-back =
        subst (λ ax. whole_of back ≡ rejoined (owner ax) us m slot a) back-over.axes
        (whole-rejoined back a us m slot (sym back-over.ranges) cut.whole
        (λ t at. subst (λ ax. word_in t (piece_of (owner ax t) back) ≡ held_at t (array_at slot (left_by (owner ax t) us m))) (sym back-over.axes) (word-back t (is_among (owner axes t) ls) refl)))

  abbrev apart : List ℕ → List Taken
  apart written = map (lacking ls) (map (taken_from axes m) written)

  given-kept : (written : List ℕ) → ((slot : ℕ) → is_among slot written ≡ true → slot < length m.arrays) → ((slot : ℕ) → is_among slot written ≡ true → IsPiece (array_at slot m))
      → AllByRecursion (IsCut axes m) written → AllByRecursion (λ (t : Taken). ArePieces ws t.slot) (apart written) → (s : Memory)
      → given_back (apart written) ws s ≡ record s { arrays = kept written (λ slot. rejoined (owner axes) us m slot (array_at slot m)) s.arrays }
  given-kept [] within pieces cut are s = refl
  given-kept (slot ∷ slots) within pieces cut are s =
      let self : (slot == slot) ≡ true = grind (arith, nat_tests) in
      let first : is_among slot (slot ∷ slots) ≡ true = ap (λ c. c || is_among slot slots) self in
      ap (λ (a : Held). given_back (apart slots) ws (with_array slot a s)) (array-back slot (within slot first) (pieces slot first) cut.0 are.0)
      ∙ given-kept slots (λ k among. within k (later k among)) (λ k among. pieces k (later k among)) cut.1 are.1 (with_array slot (rejoined (owner axes) us m slot (array_at slot m)) s)
    where
      later : (k : ℕ) → is_among k slots ≡ true → is_among k (slot ∷ slots) ≡ true
      later k among = ap (λ c. (k == slot) || c) among ∙ or-true (k == slot)

  -- The arrays that come back are what the workers have left together, and all else is as it was.
  pub given-together : (h : Changes) → IsFormed h m → AllByRecursion (IsCut axes m) h.written → AllByRecursion (λ (t : Taken). ArePieces ws t.slot) (apart h.written)
      → (s : Memory) → s.arrays ≡ (emptied h.written m).arrays → given_back (apart h.written) ws s ≡ record s { arrays = rejoined_from 0 h.written (owner axes) us m m.arrays }
  given-together h formed cut are s same =
      given-kept h.written formed.within formed.pieces cut are s ∙ ap (λ (hs : List Held). record s { arrays = hs }) (kept-rejoined (owner axes) us m h.written s.arrays same)
