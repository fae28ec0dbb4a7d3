-- Values put at the places of a row's indices: into a row, a piece, the pieces of an array and their union.
-- Each lemma is by the count of the values that are put.
use Rattle.std.proofs.Common.{◌≡◌, ◌<◌, ◌≤◌, ℕ, zero, suc, ℤ, List, [], ◌∷◌, length, map, slice_get, slice_set, slice_index_or, Option, Some, None, is_some, true, refl, ap, sym, subst, ◌∙◌, arith, length-set, get_or-set_same}
use Rattle.std.proofs.lemmas.List.{set-set}
use Rattle.std.proofs.lemmas.Option.{same_Some, slice_get_within}
use Rattle.dpl_sets.specs.Ranges.{RangeValue}
use Rattle.dpl_map.specs.Maps.{AxisValue}
use Rattle.dpl_map.specs.Parts.{part}
use Rattle.dpl_array.specs.Elements.{Row, behind, put_in_row, put_some, tabulated, value_at}
use Rattle.dpl_array.specs.Arrays.{PieceValue, PiecesValue, ArePieces, IsWhole, array_with, piece_with, union, written_at}
use Rattle.dpl_array.specs.PieceFields.{kept_at, IsKept}
use Rattle.dpl_array.specs.PiecesFields.{slot_of, AreHeld, IsPieceOf}
use Rattle.dpl_array.specs.Rows.{row_of, set_each, set_some}
use Rattle.dpl_array.proofs.ElementLemmas.{over-some, over-stands, over-with_value}
use Rattle.dpl_array.proofs.HeldLemmas.{held-set, held-unwritten, held-written, in-place}
use Rattle.dpl_array.proofs.PieceLemmas.{piece-set, places-alone}
use Rattle.dpl_array.proofs.RunLemmas.{StandAt}
use Rattle.dpl_array.proofs.UnionLemmas.{some-of, written-formed, written-union, written-whole}
use Rattle.dpl_array.proofs.WindowLemmas.{value-found, within-found}

-- INTO A ROW
length-set_some : {X : Type 0} (place : ℕ) (o : Option X) (xs : List X) → length (set_some place o xs) ≡ length xs
length-set_some place None xs = refl
length-set_some place (Some x) xs = length-set xs place x

pub length-set_each : {X : Type 0} (place : ℕ → ℕ) (ys : List X) (n : ℕ) (xs : List X) → length (set_each place ys n xs) ≡ length xs
length-set_each place ys zero xs = refl
length-set_each place ys (suc k) xs = length-set_some (place k) (slice_get ys k) (set_each place ys k xs) ∙ length-set_each place ys k xs

pub some-within : {X : Type 0} (xs : List X) (k : ℕ) → k < length xs → is_some (slice_get xs k) ≡ true
some-within [] k within = absurd (omega (arith, within))
some-within (x ∷ xs) zero within = refl
some-within (x ∷ xs) (suc k) within = some-within xs k (omega (arith, within))

-- INTO A PIECE
module _ {T : Type 0} (domain : List RangeValue) (axes : List AxisValue) (locale : ℕ) (parts : List (List RangeValue)) (starts : List ℕ) (values : List T) (kept : IsKept domain axes locale parts starts (length values)) where
  -- the piece with these values
  abbrev pub piece_over : List T → PieceValue T
  piece_over vs = record { domain = domain; map = axes; locale = locale; elements = tabulated (part domain axes locale) (kept_at parts vs) }

  -- as many values as before
  kept-over : (vs : List T) → length vs ≡ length values → IsKept domain axes locale parts starts (length vs)
  kept-over vs long = subst (IsKept domain axes locale parts starts) (sym long) kept

  module _ (place : ℕ → ℕ) (size : ℕ) (t : Row) (runs : StandAt (row_of parts) place size t) where
    -- there is a value at each index behind
    pub run-there : (k : ℕ) → k < size → is_some (value_at (behind k t) (piece_over values).elements) ≡ true
    run-there k below =
        let at = runs k below in
        ap is_some (value-found domain axes locale parts starts values kept (place k) (behind k t) at)
        ∙ some-within values (place k) (within-found domain axes locale parts starts values kept (place k) (behind k t) at)

    pub run-within : (k : ℕ) → k < size → place k < length values
    run-within k below = within-found domain axes locale parts starts values kept (place k) (behind k t) (runs k below)

    put-one : (k : ℕ) → k < size → (o : Option T) (vs : List T) → length vs ≡ length values → piece_over (set_some (place k) o vs) ≡ put_some piece_with (behind k t) o (piece_over vs)
    put-one k below None vs long = refl
    put-one k below (Some v) vs long =
        ap (λ es. record { domain = domain; map = axes; locale = locale; elements = es })
        (piece-set domain axes locale parts starts vs (kept-over vs long) parts refl (behind k t) (place k) (places-alone parts (behind k t) (place k) kept.distinct (runs k below)) v)

    pub put-piece : (new : List T) (n : ℕ) → n ≤ size → piece_over (set_each place new n values) ≡ put_in_row piece_with t new n (piece_over values)
    put-piece new zero most = refl
    put-piece new (suc k) most =
        put-one k (omega (arith, most)) (slice_get new k) (set_each place new k values) (length-set_each place new k values)
        ∙ ap (put_some piece_with (behind k t) (slice_get new k)) (put-piece new k (omega (arith, most)))

-- INTO THE PIECE OF A LOCALE
module _ {T : Type 0} (domain : List RangeValue) (axes : List AxisValue) (l : ℕ) (t : Row) (new : List T) where
  fits-one : (k : ℕ) (o : Option T) (p : PieceValue T) → IsPieceOf domain axes l p → IsPieceOf domain axes l (put_some piece_with (behind k t) o p)
  fits-one k None p fit = fit
  fits-one k (Some v) p fit = record { is = ap (piece_with (behind k t) v) fit.is; over = over-with_value (part domain axes l) p.elements (behind k t) v fit.over }

  -- it stays the piece of the locale
  pub put-fits_row : (n : ℕ) (p : PieceValue T) → IsPieceOf domain axes l p → IsPieceOf domain axes l (put_in_row piece_with t new n p)
  put-fits_row zero p fit = fit
  put-fits_row (suc k) p fit = fits-one k (slice_get new k) (put_in_row piece_with t new k p) (put-fits_row k p fit)

  -- pieces of one locale have the same indices
  fits-there : (s : List ℤ) (p q : PieceValue T) → IsPieceOf domain axes l p → IsPieceOf domain axes l q → is_some (value_at s p.elements) ≡ true → is_some (value_at s q.elements) ≡ true
  fits-there s p q fit other has =
      let some = some-of (value_at s p.elements) has in
      ap is_some (over-some (part domain axes l) q.elements s other.over (over-stands (part domain axes l) p.elements s some.0 fit.over some.1)).1

  module _ (held : List (Option (PieceValue T))) (are : AreHeld domain axes held) (p : PieceValue T) (there : slice_index_or held l None ≡ Some p) where
    fit : IsPieceOf domain axes l p
    fit = are.fits l p (in-place held l p there)

    pub put-held : (n : ℕ) (q : PieceValue T) → q ≡ put_in_row piece_with t new n p → AreHeld domain axes (slice_set held l (Some q))
    put-held n q is = held-set domain axes held are l (Some q) (λ r same. subst (IsPieceOf domain axes l) (sym is ∙ same_Some q r same) (put-fits_row n p fit))

    within : l < length held
    within = slice_get_within held l (Some p) (in-place held l p there)

    -- what places are seen as
    abbrev shown : List (Option (PieceValue T)) → PiecesValue T
    shown os = record { domain = domain; map = axes; slots = map slot_of os }

    shown-one : (k : ℕ) (o : Option T) (q : PieceValue T) → IsPieceOf domain axes l q → is_some (value_at (behind k t) q.elements) ≡ true → shown (slice_set held l (Some (put_some piece_with (behind k t) o q))) ≡ put_some written_at (behind k t) o (shown (slice_set held l (Some q)))
    shown-one k None q fits has = refl
    shown-one k (Some v) q fits has =
        let so_far = slice_set held l (Some q) in
        let holds : AreHeld domain axes so_far = held-set domain axes held are l (Some q) (λ r same. subst (IsPieceOf domain axes l) (same_Some q r same) fits) in
        let next = piece_with (behind k t) v q in
        ap shown (sym (set-set held l (Some q) (Some next)))
        ∙ held-written domain axes so_far holds l q next (get_or-set_same held l (Some q) None within) (behind k t) v has refl

    shown-row : (n : ℕ) → ((k : ℕ) → k < n → is_some (value_at (behind k t) p.elements) ≡ true) → shown (slice_set held l (Some (put_in_row piece_with t new n p))) ≡ put_in_row written_at t new n (shown held)
    shown-row zero each = ap shown (held-unwritten domain axes held are l p p there refl)
    shown-row (suc k) each =
        let q = put_in_row piece_with t new k p in
        let fits = put-fits_row k p fit in
        shown-one k (slice_get new k) q fits (fits-there (behind k t) p q fit fits (each k (omega arith)))
        ∙ ap (put_some written_at (behind k t) (slice_get new k)) (shown-row k (λ j below. each j (omega (arith, below))))

    -- the pieces are written as their piece is
    pub put-shown : (n : ℕ) → ((k : ℕ) → k < n → is_some (value_at (behind k t) p.elements) ≡ true) → (q : PieceValue T) → q ≡ put_in_row piece_with t new n p → record { domain = domain; map = axes; slots = map slot_of (slice_set held l (Some q)) } ≡ put_in_row written_at t new n (record { domain = domain; map = axes; slots = map slot_of held })
    put-shown n each q is = ap (λ r. shown (slice_set held l (Some r))) is ∙ shown-row n each

-- INTO THE UNION OF PIECES
module _ {T : Type 0} (t : Row) (new : List T) where
  formed-one : (k : ℕ) (o : Option T) (ps : PiecesValue T) → ArePieces ps → ArePieces (put_some written_at (behind k t) o ps)
  formed-one k None ps formed = formed
  formed-one k (Some v) ps formed = written-formed ps formed (behind k t) v

  pub put-formed : (n : ℕ) (ps : PiecesValue T) → ArePieces ps → ArePieces (put_in_row written_at t new n ps)
  put-formed zero ps formed = formed
  put-formed (suc k) ps formed = formed-one k (slice_get new k) (put_in_row written_at t new k ps) (put-formed k ps formed)

  whole-one : (k : ℕ) (o : Option T) (ps : PiecesValue T) → ArePieces ps → IsWhole ps → IsWhole (put_some written_at (behind k t) o ps)
  whole-one k None ps formed whole = whole
  whole-one k (Some v) ps formed whole = written-whole ps formed (behind k t) v whole

  pub put-whole : (n : ℕ) (ps : PiecesValue T) → ArePieces ps → IsWhole ps → IsWhole (put_in_row written_at t new n ps)
  put-whole zero ps formed whole = whole
  put-whole (suc k) ps formed whole = whole-one k (slice_get new k) (put_in_row written_at t new k ps) (put-formed k ps formed) (put-whole k ps formed whole)

  union-one : (k : ℕ) (o : Option T) (ps : PiecesValue T) → ArePieces ps → union (put_some written_at (behind k t) o ps) ≡ put_some array_with (behind k t) o (union ps)
  union-one k None ps formed = refl
  union-one k (Some v) ps formed = written-union ps formed (behind k t) v

  -- it is written as they are
  pub put-union : (n : ℕ) (ps : PiecesValue T) → ArePieces ps → union (put_in_row written_at t new n ps) ≡ put_in_row array_with t new n (union ps)
  put-union zero ps formed = refl
  put-union (suc k) ps formed =
      union-one k (slice_get new k) (put_in_row written_at t new k ps) (put-formed k ps formed)
      ∙ ap (put_some array_with (behind k t) (slice_get new k)) (put-union k ps formed)
