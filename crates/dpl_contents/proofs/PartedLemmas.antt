-- An array that is taken apart, and what its pieces make together.
use Rattle.std.proofs.Common.{◌≡◌, ◌↔◌, ◌==◌, ◌<◌, Bool, ℕ, zero, suc, List, [], ◌∷◌, ℤ, pos, map, filter, length, All, Option, Some, None, IsSome, refl, ap, sym, subst, ◌∙◌, slice_index_or, arith, true, Result, Ok, Err, OnOk}
use Rattle.std.specs.Prelude.{unwrap_or}
use Rattle.std.specs.Option.{option_map}
use Rattle.std.specs.Result.{is_ok}
use Rattle.std.proofs.lemmas.List.{length-map, map-set}
use Rattle.std.proofs.lemmas.Option.{same_Some}
use Rattle.std.proofs.lemmas.Simd.{map-map}
use Rattle.dpl_sets.specs.TextRanges.{TextRange}
use Rattle.dpl_sets.specs.Indices.{indices}
use Rattle.dpl_map.specs.Maps.{AxisValue, owner, locales}
use Rattle.dpl_language.specs.Values.{Index}
use Rattle.dpl_language.specs.Ranges.{indices_in}
use Rattle.dpl_memory.specs.Memory.{Held, whole_held, held_at, held_over}
use Rattle.dpl_memory.specs.Pieces.{owned_piece}
use Rattle.dpl_array.specs.Elements.{Elements, value_at, owned, element_before, tabulated}
use Rattle.dpl_array.specs.Arrays.{ArrayValue, PieceValue, PiecesValue, IsWhole, counted, in_slot, piece_in, pieces_of, union, with_slot, held_at as has_at}
use Rattle.dpl_array.specs.Rows.{StandsIn}
use Rattle.dpl_array.proofs.ElementLemmas.{stands-later, over-some, owned-tabulated, tabulated-over}
use Rattle.dpl_array.proofs.RowLemmas.{filter-stands}
use Rattle.dpl_array.proofs.UnionLemmas.{held-some}
use Rattle.dpl_contents.specs.Arrays.{words_of, IsArrayOver}
use Rattle.dpl_contents.specs.Parted.{Parted, parted, piece_of, with_piece, word_in, whole_of}
use Rattle.dpl_contents.specs.Pieces.{held_piece, held_slot, held_pieces, ArePiecesOver}
use Rattle.dpl_contents.proofs.Words.{seen, held_at-seen, word_at-words}

maps-alike : {A B : Type 0} (f g : A → B) → ((x : A) → f x ≡ g x) → (xs : List A) → map f xs ≡ map g xs
maps-alike f g same [] = refl
maps-alike f g same (x ∷ xs) = ap (λ y. y ∷ map f xs) (same x) ∙ ap (λ ys. g x ∷ ys) (maps-alike f g same xs)

-- THE WORDS OF A FUNCTION that has a value at each of some indices
words-tabulated : (ts : List Index) (f : Index → Option ℤ) → ((t : Index) → StandsIn ts t → (w : ℤ) × (f t ≡ Some w)) → words_of (tabulated ts f) ≡ map (λ t. unwrap_or (f t) (pos 0)) ts
words-tabulated [] f some = refl
words-tabulated (t ∷ ts) f some =
    let here = some t (0, refl) in
    ap (λ o. words_of (element_before t o (tabulated ts f))) here.1
    ∙ ap (λ o. unwrap_or o (pos 0) ∷ words_of (tabulated ts f)) (sym here.1)
    ∙ ap (λ ws. unwrap_or (f t) (pos 0) ∷ ws) (words-tabulated ts f (λ s at. some s (stands-later t ts s at)))

-- over its own domain an array keeps all its words
pub held_over-own : (ranges : List TextRange) (a : ArrayValue ℤ) (h : Held) → IsArrayOver ranges a → seen ranges a ≡ h → held_over ranges h ≡ h
held_over-own ranges a h over is =
    ap (held_over ranges) (sym is)
    ∙ ap (whole_held ranges)
    (maps-alike (λ t. unwrap_or (held_at t (seen ranges a)) (pos 0)) (λ t. unwrap_or (value_at t a.elements) (pos 0)) (λ t. ap (λ o. unwrap_or o (pos 0)) (held_at-seen ranges a over t)) (indices_in ranges)
    ∙ ap (λ vs. map (λ t. unwrap_or (value_at t a.elements) (pos 0)) (indices vs)) (sym over.domain)
    ∙ sym (words-tabulated (indices a.domain) (λ t. value_at t a.elements) (λ t at. over-some (indices a.domain) a.elements t over.keys at))
    ∙ ap words_of over.keys.values)
    ∙ is

-- THE PIECE THAT A LOCALE OWNS
module _ (ranges : List TextRange) (a : ArrayValue ℤ) (over : IsArrayOver ranges a) (axes : List AxisValue) (l : ℕ) where
  abbrev own : Index → Bool
  own t = owner axes t == l

  abbrev at : Index → Option ℤ
  at t = value_at t a.elements

  abbrev mine : List Index
  mine = filter own (indices a.domain)

  are-there : (t : Index) → StandsIn mine t → (w : ℤ) × (at t ≡ Some w)
  are-there t here = over-some (indices a.domain) a.elements t over.keys (filter-stands own (indices a.domain) here.0 t here.1)

  owned-is : owned axes l a.elements ≡ tabulated mine at
  owned-is = ap (owned axes l) (sym over.keys.values) ∙ owned-tabulated axes l (indices a.domain) at

  abbrev made : List Index → (Index → Option ℤ) → Held
  made ts f = record { ranges = ranges; keys = ts; words = map (λ t. unwrap_or (f t) (pos 0)) ts }

  owned-made : held_piece ranges (owned axes l a.elements) ≡ made mine at
  owned-made =
      ap (held_piece ranges) owned-is
      ∙ ap (λ (ks : List Index). piece_of_words ks (words_of (tabulated mine at))) (tabulated-over mine at are-there).keys
      ∙ ap (piece_of_words mine) (words-tabulated mine at are-there)
    where
      piece_of_words : List Index → List ℤ → Held
      piece_of_words ks ws = record { ranges = ranges; keys = ks; words = ws }

  pub owned-held : held_piece ranges (owned axes l a.elements) ≡ owned_piece (owner axes) l (seen ranges a)
  owned-held =
      owned-made
      ∙ ap (λ vs. made (filter own (indices vs)) at) over.domain
      ∙ ap (words_made (filter own (indices_in ranges)))
      (maps-alike (λ t. unwrap_or (at t) (pos 0)) (λ t. unwrap_or (held_at t (seen ranges a)) (pos 0)) (λ t. ap (λ o. unwrap_or o (pos 0)) (sym (held_at-seen ranges a over t))) (filter own (indices_in ranges)))
    where
      words_made : List Index → List ℤ → Held
      words_made ks ws = record { ranges = ranges; keys = ks; words = ws }

-- WHAT STANDS IN THE PLACE OF A LOCALE
slot-held : (ranges : List TextRange) (slots : List (Option (Elements ℤ))) (l : ℕ) → slice_index_or (map (held_slot ranges) slots) l None ≡ held_slot ranges (slice_index_or slots l None)
slot-held ranges [] l = refl
slot-held ranges (o ∷ slots) zero = refl
slot-held ranges (o ∷ slots) (suc l) = slot-held ranges slots l

word-held : (ranges : List TextRange) (o : Option (Elements ℤ)) (t : Index) → word_in t (held_slot ranges o) ≡ in_slot o t
word-held ranges None t = refl
word-held ranges (Some es) t = word_at-words t es

-- another thing is put there
pub set-held : (ranges : List TextRange) (ps : PiecesValue ℤ) (l : ℕ) (o : Option (Elements ℤ)) → held_pieces ranges (with_slot ps l o) ≡ with_piece l (held_slot ranges o) (held_pieces ranges ps)
set-held ranges ps l o = ap (λ (hs : List (Option Held)). pieces_made hs) (map-set (held_slot ranges) ps.slots l o)
  where
    pieces_made : List (Option Held) → Parted
    pieces_made hs = record { ranges = ranges; axes = ps.map; pieces = hs }

-- what is put there is over the array's domain
pub piece-over : (ranges own_ranges rs : List TextRange) (es : Elements ℤ) (h : Held) → ranges ≡ rs → held_piece own_ranges es ≡ h → held_piece ranges es ≡ record h { ranges = rs }
piece-over ranges own_ranges rs es h same is = ap (λ (qs : List TextRange). held_piece qs es) same ∙ ap (λ (h : Held). record h { ranges = rs }) is

pub on_ok : {A B : Type 0} {P : Type 0} (r : Result A B) → is_ok r ≡ true → OnOk r P → P
on_ok (Ok a) put p = p
on_ok (Err b) put p = absurd cc

-- and what is taken out is what is there
pub piece-held : (ranges : List TextRange) (ps : PiecesValue ℤ) (l : ℕ) (r : Option (PieceValue ℤ)) → r ≡ piece_in ps l → option_map (λ (p : PieceValue ℤ). held_piece ranges p.elements) r ≡ piece_of l (held_pieces ranges ps)
piece-held ranges ps l r is = ap (option_map (λ (p : PieceValue ℤ). held_piece ranges p.elements)) is ∙ by (slice_index_or ps.slots l None) ∙ sym (slot-held ranges ps.slots l)
  where
    by : (o : Option (Elements ℤ)) → option_map (λ (p : PieceValue ℤ). held_piece ranges p.elements) (option_map (λ es. record { domain = ps.domain; map = ps.map; locale = l; elements = es }) o) ≡ held_slot ranges o
    by None = refl
    by (Some es) = refl

-- it is of the same domain
pub piece-domain : (ps : PiecesValue ℤ) (l : ℕ) (p : PieceValue ℤ) → Some p ≡ piece_in ps l → p.domain ≡ ps.domain
piece-domain ps l p is = by (slice_index_or ps.slots l None) is
  where
    by : (o : Option (Elements ℤ)) → Some p ≡ option_map (λ es. record { domain = ps.domain; map = ps.map; locale = l; elements = es }) o → p.domain ≡ ps.domain
    by None is = absurd cc
    by (Some es) is = ap (λ (q : PieceValue ℤ). q.domain) (same_Some p (record { domain = ps.domain; map = ps.map; locale = l; elements = es }) is)

-- THE PIECES OF AN ARRAY
pub pieces-parted : (ranges : List TextRange) (a : ArrayValue ℤ) → IsArrayOver ranges a → (ps : PiecesValue ℤ) (h : Held) → ps ≡ pieces_of a → seen ranges a ≡ h → held_pieces ranges ps ≡ parted a.map h
pieces-parted ranges a over ps h are is =
    ap (held_pieces ranges) are
    ∙ ap pieces_made
    (map-map (held_slot ranges) (λ l. Some (owned a.map l a.elements)) (counted 0 (locales a.map))
    ∙ maps-alike (λ l. Some (held_piece ranges (owned a.map l a.elements))) (λ l. Some (owned_piece (owner a.map) l (seen ranges a))) (λ l. ap Some (owned-held ranges a over a.map l)) (counted 0 (locales a.map)))
    ∙ ap (parted a.map) is
  where
    pieces_made : List (Option Held) → Parted
    pieces_made hs = record { ranges = ranges; axes = a.map; pieces = hs }

-- THE ARRAY OF PIECES
module _ (ranges : List TextRange) (ps : PiecesValue ℤ) (over : ArePiecesOver ranges ps) where
  -- all of them are there
  pub all-there : IsWhole ps ↔ All IsSome (held_pieces ranges ps).pieces
  all-there = (
    (λ whole l d below. subst IsSome (same l d below) (some (slice_index_or ps.slots l None) (whole l None (subst (λ n. l < n) (length-map ps.slots (held_slot ranges)) below)))),
    (λ all l d below. back l d below (all l None (subst (λ n. l < n) (sym (length-map ps.slots (held_slot ranges))) below))),
  )
    where
      some : (o : Option (Elements ℤ)) → IsSome o → IsSome (held_slot ranges o)
      some None is = is
      some (Some es) is = refl

      none : (o : Option (Elements ℤ)) → IsSome (held_slot ranges o) → IsSome o
      none None is = is
      none (Some es) is = refl

      any : {X : Type 0} (xs : List X) (l : ℕ) (d e : X) → l < length xs → slice_index_or xs l d ≡ slice_index_or xs l e
      any [] l d e below = absurd (omega (arith, below))
      any (x ∷ xs) zero d e below = refl
      any (x ∷ xs) (suc l) d e below = any xs l d e (omega (arith, below))

      same : (l : ℕ) (d : Option Held) → l < length (map (held_slot ranges) ps.slots) → held_slot ranges (slice_index_or ps.slots l None) ≡ slice_index_or (map (held_slot ranges) ps.slots) l d
      same l d below = sym (slot-held ranges ps.slots l) ∙ any (map (held_slot ranges) ps.slots) l None d below

      back : (l : ℕ) (d : Option (Elements ℤ)) → l < length ps.slots → IsSome (slice_index_or (map (held_slot ranges) ps.slots) l None) → IsSome (slice_index_or ps.slots l d)
      back l d below is = subst IsSome (any ps.slots l None d below) (none (slice_index_or ps.slots l None) (subst IsSome (slot-held ranges ps.slots l) is))

  -- and then the array has what its owners' pieces have
  pub union-held : IsWhole ps → (a : ArrayValue ℤ) → a ≡ union ps → seen ranges a ≡ whole_of (held_pieces ranges ps)
  union-held whole a is =
      ap (seen ranges) is
      ∙ ap (whole_held ranges)
      (words-tabulated (indices ps.domain) (has_at ps) (λ t at. held-some ps over.formed whole t at)
      ∙ ap (λ vs. map (λ t. unwrap_or (has_at ps t) (pos 0)) (indices vs)) over.domain
      ∙ maps-alike (λ t. unwrap_or (has_at ps t) (pos 0)) (λ t. unwrap_or (word_in t (piece_of (owner ps.map t) (held_pieces ranges ps))) (pos 0)) (λ t. ap (λ o. unwrap_or o (pos 0)) (same t)) (indices_in ranges))
    where
      same : (t : Index) → has_at ps t ≡ word_in t (piece_of (owner ps.map t) (held_pieces ranges ps))
      same t =
          sym (word-held ranges (slice_index_or ps.slots (owner ps.map t) None) t)
          ∙ ap (word_in t) (sym (slot-held ranges ps.slots (owner ps.map t)))
