-- The pieces that stand in the places of their locales.
-- They take the invariant of the pieces, and serve its calls one by one.
use Rattle.std.proofs.Common.{◌≡◌, ◌<◌, ◌+◌, ◌⊎◌, ℕ, zero, suc, ℤ, List, [], ◌∷◌, ◌++◌, length, map, slice_get, slice_set, slice_index_or, Option, Some, None, is_some, IsSome, IfSome, All, Bool, true, false, refl, ap, sym, subst, ◌∙◌, arith, ⊎_elim, inl, inr, length-set}
use Rattle.std.specs.Option.{option_map, option_copied}
use Rattle.std.specs.Borrow.{Bor}
use Rattle.std.proofs.lemmas.List.{length-map, get_or_default, map-set}
use Rattle.std.proofs.lemmas.Option.{none-some, same_Some, slice_get_within, slice_get-map, slice_get_read}
use Rattle.dpl_sets.specs.Ranges.{RangeValue}
use Rattle.dpl_sets.specs.Indices.{indices}
use Rattle.dpl_map.specs.Maps.{AxisValue, owner, locales}
use Rattle.dpl_map.specs.Parts.{part}
use Rattle.dpl_array.specs.Elements.{Elements, value_at, with_value, owned, filled, IsOver}
use Rattle.dpl_array.specs.Arrays.{PieceValue, PiecesValue, IsPiece, ArePieces, filled_array, held_at, in_slot, piece_in, piece_with, slots_of, with_slot, written_at}
use Rattle.dpl_array.specs.PiecesFields.{slot_of, IsPieceOf, AreHeld}
use Rattle.dpl_array.proofs.ElementLemmas.{over-filled, over-stands, over-with_value, owned-filled}
use Rattle.dpl_array.proofs.PieceLemmas.{part-same}
use Rattle.dpl_array.proofs.UnionLemmas.{absent, listed-by, filled-part, some-of, stands-owner}

-- a list in which one place is written
set-cases : {X : Type 0} (xs : List X) (l : ℕ) (o : X) (k : ℕ) (x : X) → slice_get (slice_set xs l o) k ≡ Some x → ((k ≡ l) × (o ≡ x)) ⊎ (slice_get xs k ≡ Some x)
set-cases [] l o k x found = absurd (none-some x found)
set-cases (y ∷ xs) zero o zero x found = inl (refl, same_Some o x found)
set-cases (y ∷ xs) zero o (suc k) x found = inr found
set-cases (y ∷ xs) (suc l) o zero x found = inr found
set-cases (y ∷ xs) (suc l) o (suc k) x found =
    ⊎_elim
    (λ (here : (k ≡ l) × (o ≡ x)). inl (ap suc here.0, here.1))
    (λ (there : slice_get xs k ≡ Some x). inr there)
    (set-cases xs l o k x found)

set-same : {X : Type 0} (xs : List X) (l : ℕ) (x : X) → slice_get xs l ≡ Some x → slice_set xs l x ≡ xs
set-same [] l x found = refl
set-same (y ∷ xs) zero x found = ap (λ z. z ∷ xs) (sym (same_Some y x found))
set-same (y ∷ xs) (suc l) x found = ap (λ ys. y ∷ ys) (set-same xs l x found)

module _ {T : Type 0} where
  pub slot-at : (held : List (Option (PieceValue T))) (l : ℕ) → slice_index_or (map slot_of held) l None ≡ slot_of (slice_index_or held l None)
  slot-at [] l = refl
  slot-at (o ∷ held) zero = refl
  slot-at (o ∷ held) (suc l) = slot-at held l

  pub in-place : (held : List (Option (PieceValue T))) (l : ℕ) (p : PieceValue T) → slice_index_or held l None ≡ Some p → slice_get held l ≡ Some (Some p)
  in-place [] l p found = absurd (none-some p found)
  in-place (o ∷ held) zero p found = ap Some found
  in-place (o ∷ held) (suc l) p found = in-place held l p found

module _ {T : Type 0} (domain : List RangeValue) (axes : List AxisValue) (held : List (Option (PieceValue T))) (are : AreHeld domain axes held) where
  abbrev pub seen : PiecesValue T
  seen = record { domain = domain; map = axes; slots = map slot_of held }

  -- their elements are those of the locales' parts
  pub held-formed : ArePieces seen
  held-formed = record {
    long = length-map held slot_of ∙ are.long;
    owners = are.owners;
    over = λ l es there. by l es (slice_index_or held l None) refl (sym (slot-at held l) ∙ there);
  }
    where
      by : (l : ℕ) (es : Elements T) (o : Option (PieceValue T)) → slice_index_or held l None ≡ o → slot_of o ≡ Some es → IsOver (part domain axes l) es
      by l es None is there = absurd (none-some es there)
      by l es (Some p) is there = subst (IsOver (part domain axes l)) (same_Some p.elements es there) (are.fits l p (in-place held l p is)).over

  -- what stands in a place is the piece of its locale
  pub held-piece : (l : ℕ) (o : Option (PieceValue T)) → slice_index_or held l None ≡ o → o ≡ piece_in seen l
  held-piece l None is = ap (option_map (λ es. record { domain = domain; map = axes; locale = l; elements = es })) (sym (slot-at held l ∙ ap slot_of is))
  held-piece l (Some p) is =
      ap Some (are.fits l p (in-place held l p is)).is
      ∙ ap (option_map (λ es. record { domain = domain; map = axes; locale = l; elements = es })) (sym (slot-at held l ∙ ap slot_of is))

  -- the piece of a locale with another value
  pub held-with : (l : ℕ) (p : PieceValue T) → slice_index_or held l None ≡ Some p → (t : List ℤ) (v : T) (q : PieceValue T) → q ≡ piece_with t v p → IsPieceOf domain axes l q
  held-with l p there t v q is =
      let fit = are.fits l p (in-place held l p there) in
      subst (IsPieceOf domain axes l) (sym is)
      (record { is = ap (piece_with t v) fit.is; over = over-with_value (part domain axes l) p.elements t v fit.over })

  -- a piece that holds an index is that of its owner
  pub held-owner : (l : ℕ) (p : PieceValue T) → slice_index_or held l None ≡ Some p → (t : List ℤ) (v : T) → value_at t p.elements ≡ Some v → owner axes t ≡ l
  held-owner l p there t v some = stands-owner domain axes l t (over-stands (part domain axes l) p.elements t v (are.fits l p (in-place held l p there)).over some)

  pub held-guessed : (l : ℕ) (p : PieceValue T) → slice_index_or held l None ≡ Some p → (t : List ℤ) (v : T) → value_at t p.elements ≡ Some v → held_at seen t ≡ Some v
  held-guessed l p there t v some =
      ap (λ k. in_slot (slice_index_or seen.slots k None) t) (held-owner l p there t v some)
      ∙ ap (λ s. in_slot s t) (slot-at held l ∙ ap slot_of there) ∙ some

  -- where its piece is written, the pieces are
  pub held-written : (l : ℕ) (p q : PieceValue T) → slice_index_or held l None ≡ Some p → (t : List ℤ) (v : T) → is_some (value_at t p.elements) ≡ true → q ≡ piece_with t v p → record seen { slots = map slot_of (slice_set held l (Some q)) } ≡ written_at t v seen
  held-written l p q there t v has is =
      let some = some-of (value_at t p.elements) has in
      let slot = slot-at held l ∙ ap slot_of there in
      let put = ap (λ r. Some r.elements) is ∙ ap (option_map (with_value t v)) (sym slot) in
      ap (λ ss. record seen { slots = ss }) (map-set slot_of held l (Some q) ∙ ap (slice_set (map slot_of held) l) put)
      ∙ ap (λ k. with_slot seen k (option_map (with_value t v) (slice_index_or seen.slots k None))) (sym (held-owner l p there t some.0 some.1))

  -- where nothing of it changes, nothing does
  pub held-unwritten : (l : ℕ) (p q : PieceValue T) → slice_index_or held l None ≡ Some p → q ≡ p → slice_set held l (Some q) ≡ held
  held-unwritten l p q there is = ap (λ r. slice_set held l (Some r)) is ∙ set-same held l (Some p) (in-place held l p there)

  -- a place is written
  pub held-set : (l : ℕ) (o : Option (PieceValue T)) → ((p : PieceValue T) → o ≡ Some p → IsPieceOf domain axes l p) → AreHeld domain axes (slice_set held l o)
  held-set l o fits = record {
    long = length-set held l o ∙ are.long;
    owners = are.owners;
    fits = λ k p found.
        ⊎_elim
        (λ (here : (k ≡ l) × (o ≡ Some p)). subst (λ j. IsPieceOf domain axes j p) (sym here.0) (fits p here.1))
        (λ (there : slice_get held k ≡ Some (Some p)). are.fits k p there)
        (set-cases held l o k (Some p) found);
  }

  -- a piece is written or left as it is
  pub held-put : (l : ℕ) (p q : PieceValue T) → slice_index_or held l None ≡ Some p → (t : List ℤ) (v : T) (written : Bool) → (written ≡ true → q ≡ piece_with t v p) → (written ≡ false → q ≡ p) → AreHeld domain axes (slice_set held l (Some q))
  held-put l p q there t v true changes same = held-set l (Some q) (λ r is. held-with l p there t v r (sym (same_Some q r is) ∙ changes refl))
  held-put l p q there t v false changes same = subst (AreHeld domain axes) (sym (held-unwritten l p q there (same refl))) are

is_some-slot : {T : Type 0} (o : Option (PieceValue T)) → is_some (slot_of o) ≡ is_some o
is_some-slot None = refl
is_some-slot (Some p) = refl

-- a piece that is put fits the place of its locale
pub put-fits : {T : Type 0} (domain : List RangeValue) (axes : List AxisValue) (l : ℕ) (p q : PieceValue T) → indices domain ≡ indices p.domain → axes ≡ p.map → l ≡ p.locale → IsPiece p → q ≡ record p { domain = domain } → IsPieceOf domain axes l q
put-fits {T = T} domain axes l p q same maps place over is =
    subst (IsPieceOf domain axes l) (sym is)
    (record {
      is = ap {A = List AxisValue} {B = PieceValue T} (λ m. record { domain = domain; map = m; locale = p.locale; elements = p.elements }) (sym maps) ∙ ap {A = ℕ} {B = PieceValue T} (λ k. record { domain = domain; map = axes; locale = k; elements = p.elements }) (sym place);
      over = subst (λ ts. IsOver ts p.elements) (part-same p.domain domain p.map p.locale (sym same) ∙ ap (λ m. part domain m p.locale) (sym maps) ∙ ap (part domain axes) (sym place)) over;
    })

-- a place without a piece is a slot without elements
pub free-slot : {T : Type 0} (held : List (Option (PieceValue T))) (l : ℕ) (o : Option (PieceValue T)) → l < length held → o ≡ slice_index_or held l o → is_some o ≡ false → slice_get (map slot_of held) l ≡ Some None
free-slot held l o within is free =
    slice_get-map slot_of held l ∙ ap (option_map slot_of) (slice_get_read held (length held) l o refl within is ∙ ap Some (absent o free))

pub taken-slot : {T : Type 0} (held : List (Option (PieceValue T))) (l : ℕ) (o : Option (PieceValue T)) → l < length held → o ≡ slice_index_or held l o → is_some o ≡ true → slice_get (map slot_of held) l ≡ Some None → ⊥
taken-slot held l o within is there free =
    let e : slot_of o ≡ None = same_Some (slot_of o) None (sym (slice_get-map slot_of held l ∙ ap (option_map slot_of) (slice_get_read held (length held) l o refl within is)) ∙ free) in
    let f : true ≡ false = sym there ∙ sym (is_some-slot o) ∙ ap is_some e in
    cc

-- what is lent of a place is what stands there
pub lent : {X : Type 0} (r : Option (Bor X)) (o : Option X) → option_copied r ≡ o → IfSome r (λ p. Some p.now ≡ o)
lent None o is = tt
lent (Some p) o is = is

-- ALL PLACES HAVE THEIR PIECES
pub whole-held : {T : Type 0} (held : List (Option (PieceValue T))) → ((k : ℕ) → k < length held → is_some (slice_index_or held k None) ≡ true) → All IsSome (map slot_of held)
whole-held held each = λ k d below.
    let within : k < length held = omega (arith, below, length-map held slot_of) in
    ap is_some (get_or_default (map slot_of held) k d None below ∙ slot-at held k) ∙ is_some-slot (slice_index_or held k None) ∙ each k within

pub missing-held : {T : Type 0} (held : List (Option (PieceValue T))) (k : ℕ) → k < length held → is_some (slice_index_or held k None) ≡ false → All IsSome (map slot_of held) → ⊥
missing-held held k within missing whole =
    let there : is_some (slice_index_or (map slot_of held) k None) ≡ true = whole k None (omega (arith, within, length-map held slot_of)) in
    let gone : is_some (slice_index_or (map slot_of held) k None) ≡ false = ap is_some (slot-at held k) ∙ is_some-slot (slice_index_or held k None) ∙ missing in
    let e : true ≡ false = sym there ∙ gone in
    cc

-- pieces with one value everywhere
module _ {T : Type 0} (domain : List RangeValue) (axes : List AxisValue) (v : T) where
  abbrev pub piece_filled : ℕ → PieceValue T
  piece_filled k = record { domain = domain; map = axes; locale = k; elements = filled (part domain axes k) v }

  module _ (held : List (Option (PieceValue T))) (each : (k : ℕ) → k < locales axes → slice_get held k ≡ Some (Some (piece_filled k))) (long : length held ≡ locales axes) where
    pub new-held : ((t : List ℤ) → owner axes t < locales axes) → AreHeld domain axes held
    new-held owners = record {
      long = long;
      owners = owners;
      fits = λ l p found.
          let below = slice_get_within held l (Some p) found in
          let is : piece_filled l ≡ p = same_Some (piece_filled l) p (same_Some (Some (piece_filled l)) (Some p) (sym (each l (omega (arith, below, long))) ∙ found)) in
          subst (IsPieceOf domain axes l) is (record { is = refl; over = over-filled (part domain axes l) v });
    }

    pub new-slots : map slot_of held ≡ slots_of (filled_array domain axes v)
    new-slots = listed-by (map slot_of held) (λ l. Some (owned axes l (filled (indices domain) v))) 0 (locales axes) (length-map held slot_of ∙ long) at
      where
        at : (k : ℕ) → k < locales axes → slice_get (map slot_of held) k ≡ Some (Some (owned axes (0 + k) (filled (indices domain) v)))
        at k below =
            let zero-th : k ≡ 0 + k = omega arith in
            slice_get-map slot_of held k ∙ ap (option_map slot_of) (each k below)
            ∙ ap (λ es. Some (Some es)) (sym (owned-filled axes k (indices domain) v ∙ filled-part domain axes k v))
            ∙ ap (λ m. Some (Some (owned axes m (filled (indices domain) v)))) zero-th

-- one piece more
pub places-push : {X : Type 0} (xs : List X) (i : ℕ) (x : X) (f : ℕ → X) → length xs ≡ i → x ≡ f i → ((k : ℕ) → k < i → slice_get xs k ≡ Some (f k)) → (k : ℕ) → k < i + 1 → slice_get (xs ++ x ∷ []) k ≡ Some (f k)
places-push [] i x f long is each zero below = let e : i ≡ 0 = sym long in ap Some (is ∙ ap f e)
places-push [] i x f long is each (suc k) below = absurd (omega (arith, long, below))
places-push (y ∷ xs) i x f long is each zero below = each 0 (omega (arith, long))
places-push (y ∷ xs) zero x f long is each (suc k) below = absurd (omega (arith, long))
places-push (y ∷ xs) (suc i) x f long is each (suc k) below = places-push xs i x (λ j. f (suc j)) (omega (arith, long)) is (λ j under. each (suc j) (omega arith)) k (omega (arith, below))
