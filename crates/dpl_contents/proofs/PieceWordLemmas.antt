-- The words of a piece as the finite map that it is: a read and a write.
use Rattle.std.proofs.Common.{◌≡◌, ℕ, zero, suc, List, ℤ, slice_get, Option, Some, None, refl, ap, sym, subst, ◌∙◌}
use Rattle.dpl_sets.specs.TextRanges.{TextRange}
use Rattle.dpl_sets.specs.TextDomains.{values_of}
use Rattle.dpl_sets.specs.Indices.{indices}
use Rattle.dpl_domain.proofs.DistinctLemmas.{indices-distinct}
use Rattle.dpl_language.specs.Values.{Index}
use Rattle.dpl_memory.specs.Memory.{Held, held_at, held_with}
use Rattle.dpl_map.specs.Parts.{part}
use Rattle.dpl_array.specs.Elements.{Row, value_at, keys_of, behind, put_in_row, put_some}
use Rattle.dpl_array.specs.Arrays.{PieceValue, piece_with}
use Rattle.dpl_array.specs.Rows.{IsDistinct}
use Rattle.dpl_array.proofs.ElementLemmas.{over-with_value}
use Rattle.dpl_array.proofs.DistinctLemmas.{distinct-part}
use Rattle.dpl_contents.specs.Arrays.{words_of}
use Rattle.dpl_contents.specs.Pieces.{held_piece, IsPieceOver}
use Rattle.dpl_contents.proofs.Words.{word_at-words, with_word-words, written-ranges}

abbrev pub seen_piece : List TextRange → PieceValue ℤ → Held
seen_piece ranges p = held_piece ranges p.elements

module _ (ranges : List TextRange) (p : PieceValue ℤ) (over : IsPieceOver ranges p) where
  -- no index of the part stands twice
  distinct-keys : IsDistinct (keys_of p.elements)
  distinct-keys =
      let each : IsDistinct (indices p.domain) = subst (λ rs. IsDistinct (indices rs)) (sym over.domain) (indices-distinct (values_of ranges) (written-ranges ranges over.written)) in
      subst IsDistinct (sym over.keys.keys) (distinct-part p.domain p.map p.locale each)

  -- another word leaves the keys as they are
  same-keys : (t : Index) (w : ℤ) → keys_of (piece_with t w p).elements ≡ keys_of p.elements
  same-keys t w = (over-with_value (part p.domain p.map p.locale) p.elements t w over.keys).keys ∙ sym over.keys.keys

  -- a read
  pub piece_at-is : (t : Index) (h : Held) → held_piece ranges p.elements ≡ h → value_at t p.elements ≡ held_at t h
  piece_at-is t h is = sym (word_at-words t p.elements) ∙ ap (held_at t) is

  abbrev piece_made : List Index → List ℤ → Held
  piece_made keys words = record { ranges = ranges; keys = keys; words = words }

  -- a write
  pub piece_with-is : (t : Index) (w : ℤ) (q : PieceValue ℤ) (h : Held) → q ≡ piece_with t w p → held_piece ranges p.elements ≡ h → held_piece ranges q.elements ≡ held_with t w h
  piece_with-is t w q h written is =
      ap (λ (q : PieceValue ℤ). held_piece ranges q.elements) written
      ∙ ap (λ (ks : List Index). piece_made ks (words_of (piece_with t w p).elements)) (same-keys t w)
      ∙ ap (piece_made (keys_of p.elements)) (sym (with_word-words t w p.elements distinct-keys))
      ∙ ap (held_with t w) is

  pub over-piece_with : (t : Index) (w : ℤ) (q : PieceValue ℤ) → q ≡ piece_with t w p → IsPieceOver ranges q
  over-piece_with t w q written =
      subst (IsPieceOver ranges) (sym written)
      (record { domain = over.domain; keys = over-with_value (part p.domain p.map p.locale) p.elements t w over.keys; written = over.written })

-- WORDS PUT SIDE BY SIDE, by their count
module _ (ranges : List TextRange) (t : Row) (words : List ℤ) where
  over-one : (k : ℕ) (o : Option ℤ) (p : PieceValue ℤ) → IsPieceOver ranges p → IsPieceOver ranges (put_some piece_with (behind k t) o p)
  over-one k None p over = over
  over-one k (Some w) p over = over-piece_with ranges p over (behind k t) w (piece_with (behind k t) w p) refl

  -- the map stays over the part
  pub put-piece-over : (n : ℕ) (p : PieceValue ℤ) → IsPieceOver ranges p → IsPieceOver ranges (put_in_row piece_with t words n p)
  put-piece-over zero p over = over
  put-piece-over (suc k) p over = over-one k (slice_get words k) (put_in_row piece_with t words k p) (put-piece-over k p over)

  seen-one : (k : ℕ) (o : Option ℤ) (p : PieceValue ℤ) → IsPieceOver ranges p → held_piece ranges (put_some piece_with (behind k t) o p).elements ≡ put_some held_with (behind k t) o (held_piece ranges p.elements)
  seen-one k None p over = refl
  seen-one k (Some w) p over = piece_with-is ranges p over (behind k t) w (piece_with (behind k t) w p) (held_piece ranges p.elements) refl refl

  -- and is seen as the words that are put
  pub put-piece-seen : (n : ℕ) (p : PieceValue ℤ) → IsPieceOver ranges p → held_piece ranges (put_in_row piece_with t words n p).elements ≡ put_in_row held_with t words n (held_piece ranges p.elements)
  put-piece-seen zero p over = refl
  put-piece-seen (suc k) p over =
      seen-one k (slice_get words k) (put_in_row piece_with t words k p) (put-piece-over k p over)
      ∙ ap (put_some held_with (behind k t) (slice_get words k)) (put-piece-seen k p over)
