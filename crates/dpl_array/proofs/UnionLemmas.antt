-- The union of pieces, and the pieces of an array.
-- The union of the pieces of an array is the array, and pieces are those of their union.
use Rattle.std.proofs.Common.{◌≡◌, ◌<◌, ◌≤◌, ◌+◌, ◌==◌, ℕ, zero, suc, ℤ, List, [], ◌∷◌, length, map, filter, slice_get, slice_set, slice_index_or, Bool, true, false, cond, Option, Some, None, is_some, IsSome, All, refl, ap, sym, subst, ◌∙◌, arith, ⊎_elim, eq-eqb, eqb-true, length-set, get_or-set_same, get_or-set_other}
use Rattle.std.specs.Option.{option_map}
use Rattle.std.proofs.lemmas.Bool.{cases_eq, cases_lt}
use Rattle.std.proofs.lemmas.List.{get_or_past}
use Rattle.std.proofs.lemmas.List.Elements.{All-set, All-nil, All-cons}
use Rattle.std.proofs.lemmas.Option.{none-some, same_Some, slice_get-get_or}
use Rattle.dpl_sets.specs.Ranges.{RangeValue}
use Rattle.dpl_sets.specs.Indices.{indices}
use Rattle.dpl_map.specs.Maps.{AxisValue, owner, locales}
use Rattle.dpl_map.specs.Parts.{part}
use Rattle.dpl_array.specs.Elements.{Elements, same_index, value_at, with_value, owned, filled, tabulated, IsOver}
use Rattle.dpl_array.specs.Arrays.{ArrayValue, PieceValue, PiecesValue, piece_in, restriction, IsArray, ArePieces, IsWhole, array_with, counted, held_at, in_slot, pieces_of, slots_of, union, written_at}
use Rattle.dpl_array.specs.Rows.{StandsIn}
use Rattle.dpl_array.proofs.RowLemmas.{filter-stands}
use Rattle.dpl_array.proofs.ElementLemmas.{changed, not-same, owned-tabulated, over-some, over-stands, over-with_value, tabulated-none, tabulated-over, tabulated-same, tabulated-there, value_at-with_value, with_value-tabulated}

-- a list is told by its places
pub listed-by : {X : Type 0} (xs : List X) (f : ℕ → X) (a n : ℕ) → length xs ≡ n → ((k : ℕ) → k < n → slice_get xs k ≡ Some (f (a + k))) → xs ≡ map f (counted a n)
listed-by [] f a zero long each = refl
listed-by [] f a (suc n) long each = absurd (omega (arith, long))
listed-by (x ∷ xs) f a zero long each = absurd (omega (arith, long))
listed-by (x ∷ xs) f a (suc n) long each =
    let zero-th : a + 0 ≡ a = omega arith in
    let head : x ≡ f a = same_Some x (f a) (each 0 (omega arith) ∙ ap (λ m. Some (f m)) zero-th) in
    let tail : xs ≡ map f (counted (a + 1) n) = listed-by xs f (a + 1) n (omega (arith, long)) (λ k below. each (suc k) (omega arith) ∙ ap (λ m. Some (f m)) (next k)) in
    ap (λ y. y ∷ xs) head ∙ ap (λ ys. f a ∷ ys) tail
  where
    next : (k : ℕ) → a + suc k ≡ (a + 1) + k
    next k = omega arith

pub stands-filter : {X : Type 0} (p : X → Bool) (xs : List X) (x : X) → p x ≡ true → StandsIn xs x → StandsIn (filter p xs) x
stands-filter p [] x passes at = absurd (none-some x at.1)
stands-filter p (y ∷ xs) x passes (zero, found) =
    let here : p y ≡ true = ap p (same_Some y x found) ∙ passes in
    rw here (0, found)
stands-filter p (y ∷ xs) x passes (suc k, found) = by (p y) (stands-filter p xs x passes (k, found))
  where
    by : (b : Bool) → StandsIn (filter p xs) x → StandsIn (cond b (y ∷ filter p xs) (filter p xs)) x
    by true rest = (suc rest.0, rest.1)
    by false rest = rest

-- an index of the domain stands in its owner's part, and what stands in a part is one of the domain
pub part-stands : (ranges : List RangeValue) (axes : List AxisValue) (t : List ℤ) → StandsIn (indices ranges) t → StandsIn (part ranges axes (owner axes t)) t
unfolding part
part-stands ranges axes t at = stands-filter (λ s. owner axes s == owner axes t) (indices ranges) t (eq-eqb (owner axes t) (owner axes t) refl) at

pub stands-part : (ranges : List RangeValue) (axes : List AxisValue) (l : ℕ) (t : List ℤ) → StandsIn (part ranges axes l) t → StandsIn (indices ranges) t
unfolding part
stands-part ranges axes l t at = filter-stands (λ s. owner axes s == l) (indices ranges) at.0 t at.1

filter-part : {T : Type 0} (ranges : List RangeValue) (axes : List AxisValue) (l : ℕ) (f : List ℤ → Option T) → tabulated (filter (λ t. owner axes t == l) (indices ranges)) f ≡ tabulated (part ranges axes l) f
unfolding part
filter-part ranges axes l f = refl

pub filled-part : {T : Type 0} (ranges : List RangeValue) (axes : List AxisValue) (l : ℕ) (v : T) → filled (filter (λ t. owner axes t == l) (indices ranges)) v ≡ filled (part ranges axes l) v
unfolding part
filled-part ranges axes l v = refl

pub filter-test : {X : Type 0} (p : X → Bool) (xs : List X) (j : ℕ) (x : X) → slice_get (filter p xs) j ≡ Some x → p x ≡ true
filter-test p [] j x found = absurd (none-some x found)
filter-test p (y ∷ xs) j x found = by (p y) refl j found (filter-test p xs)
  where
    by : (b : Bool) → p y ≡ b → (j : ℕ) → slice_get (cond b (y ∷ filter p xs) (filter p xs)) j ≡ Some x → ((i : ℕ) (z : _) → slice_get (filter p xs) i ≡ Some z → p z ≡ true) → p x ≡ true
    by true is zero found rest = ap p (sym (same_Some y x found)) ∙ is
    by true is (suc j) found rest = rest j x found
    by false is j found rest = rest j x found

-- what stands in a part is owned by its locale
pub stands-owner : (ranges : List RangeValue) (axes : List AxisValue) (l : ℕ) (t : List ℤ) → StandsIn (part ranges axes l) t → owner axes t ≡ l
unfolding part
stands-owner ranges axes l t at = eqb-true (owner axes t) l (filter-test (λ s. owner axes s == l) (indices ranges) at.0 t at.1)

pub some-of : {X : Type 0} (o : Option X) → IsSome o → (x : X) × (o ≡ Some x)
some-of None there = absurd (let e : false ≡ true = there in cc)
some-of (Some x) there = (x, refl)

pub absent : {X : Type 0} (o : Option X) → is_some o ≡ false → o ≡ None
absent None is = refl
absent (Some x) is = absurd (let e : true ≡ false = is in cc)

module _ {T : Type 0} (ps : PiecesValue T) (formed : ArePieces ps) where
  -- the union holds what the pieces hold
  pub union-at : (t : List ℤ) → value_at t (union ps).elements ≡ held_at ps t
  union-at t = by (slice_index_or ps.slots (owner ps.map t) None) refl
    where
      inside : (es : Elements T) (v : T) → slice_index_or ps.slots (owner ps.map t) None ≡ Some es → value_at t es ≡ Some v → StandsIn (indices ps.domain) t
      inside es v there some = stands-part ps.domain ps.map (owner ps.map t) t (over-stands (part ps.domain ps.map (owner ps.map t)) es t v (formed.over (owner ps.map t) es there) some)

      at : (es : Elements T) (o : Option T) → slice_index_or ps.slots (owner ps.map t) None ≡ Some es → value_at t es ≡ o → value_at t (union ps).elements ≡ held_at ps t
      at es None there none = let absent : held_at ps t ≡ None = ap (λ s. in_slot s t) there ∙ none in tabulated-none (indices ps.domain) (held_at ps) t absent ∙ sym absent
      at es (Some v) there some = tabulated-there (indices ps.domain) (held_at ps) t (inside es v there some)

      by : (s : Option (Elements T)) → slice_index_or ps.slots (owner ps.map t) None ≡ s → value_at t (union ps).elements ≡ held_at ps t
      by None e = let absent : held_at ps t ≡ None = ap (λ s. in_slot s t) e in tabulated-none (indices ps.domain) (held_at ps) t absent ∙ sym absent
      by (Some es) e = at es (value_at t es) e refl

  module _ (whole : IsWhole ps) where
    pub slot-there : (l : ℕ) → l < locales ps.map → (es : Elements T) × (slice_index_or ps.slots l None ≡ Some es)
    slot-there l below = some-of (slice_index_or ps.slots l None) (whole l None (omega (arith, below, formed.long)))

    pub held-some : (t : List ℤ) → StandsIn (indices ps.domain) t → (v : T) × (held_at ps t ≡ Some v)
    held-some t at =
        let there = slot-there (owner ps.map t) (formed.owners t) in
        let some = over-some (part ps.domain ps.map (owner ps.map t)) there.0 t (formed.over (owner ps.map t) there.0 there.1) (part-stands ps.domain ps.map t at) in
        (some.0, ap (λ s. in_slot s t) there.1 ∙ some.1)

    -- it is an array
    pub union-over : IsArray (union ps)
    union-over = tabulated-over (indices ps.domain) (held_at ps) held-some

    -- whose pieces they are
    pub union-owned : (l : ℕ) (es : Elements T) → slice_index_or ps.slots l None ≡ Some es → owned ps.map l (union ps).elements ≡ es
    union-owned l es there =
        owned-tabulated ps.map l (indices ps.domain) (held_at ps) ∙ filter-part ps.domain ps.map l (held_at ps)
        ∙ tabulated-same (part ps.domain ps.map l) (held_at ps) (λ t. value_at t es) same ∙ (formed.over l es there).values
      where
        same : (t : List ℤ) → StandsIn (part ps.domain ps.map l) t → held_at ps t ≡ value_at t es
        same t at =
            ap (λ k. in_slot (slice_index_or ps.slots k None) t) (stands-owner ps.domain ps.map l t at)
            ∙ ap (λ s. in_slot s t) there

    pub pieces-union : ps ≡ pieces_of (union ps)
    pieces-union = ap (λ ss. record { domain = ps.domain; map = ps.map; slots = ss }) (listed-by ps.slots (λ l. Some (owned ps.map l (union ps).elements)) 0 (locales ps.map) formed.long each)
      where
        each : (k : ℕ) → k < locales ps.map → slice_get ps.slots k ≡ Some (Some (owned ps.map (0 + k) (union ps).elements))
        each k below =
            let there = slot-there k below in
            let zero-th : k ≡ 0 + k = omega arith in
            slice_get-get_or ps.slots k None (omega (arith, below, formed.long)) ∙ ap Some (there.1 ∙ ap Some (sym (union-owned k there.0 there.1)))
            ∙ ap (λ m. Some (Some (owned ps.map m (union ps).elements))) zero-th

    -- the piece of each locale is the array's restriction
    pub piece-there : (l : ℕ) → l < locales ps.map → piece_in ps l ≡ Some (restriction (union ps) l)
    piece-there l below =
        let there = slot-there l below in
        ap (option_map {T = Elements T} {U = PieceValue T} (λ es. record { domain = ps.domain; map = ps.map; locale = l; elements = es })) (there.1 ∙ ap Some (sym (union-owned l there.0 there.1)))

    pub piece-past : (l : ℕ) → locales ps.map ≤ l → piece_in ps l ≡ None
    piece-past l past = ap (option_map {T = Elements T} {U = PieceValue T} (λ es. record { domain = ps.domain; map = ps.map; locale = l; elements = es })) (get_or_past ps.slots l None (omega (arith, past, formed.long)))

    pub piece-lent : (l : ℕ) (p : PieceValue T) (a : ArrayValue T) → union ps ≡ a → Some p ≡ piece_in ps l → p ≡ restriction a l
    piece-lent l p a is there =
        ⊎_elim
        (λ (below : l < locales ps.map). same_Some p (restriction (union ps) l) (there ∙ piece-there l below) ∙ ap (λ b. restriction b l) is)
        (λ (past : locales ps.map ≤ l). absurd (none-some p (sym (piece-past l past) ∙ sym there)))
        (cases_lt l (locales ps.map))

  -- ANOTHER VALUE AT ONE INDEX
  module _ (t : List ℤ) (v : T) where
    abbrev pub written : PiecesValue T
    written = written_at t v ps

    pub within : owner ps.map t < length ps.slots
    within = let below = formed.owners t in omega (arith, below, formed.long)

    in-written : (s : List ℤ) (slot : Option (Elements T)) → in_slot (option_map (with_value t v) slot) s ≡ changed t v (λ r. in_slot slot r) s
    in-written s None = nothing (same_index t s)
      where
        nothing : (b : Bool) → None ≡ cond b (option_map {T = T} {U = T} (λ _. v) None) None
        nothing true = refl
        nothing false = refl
    in-written s (Some es) = value_at-with_value t v es s

    written-held : (s : List ℤ) → held_at written s ≡ changed t v (held_at ps) s
    written-held s =
        ⊎_elim
        (λ (same : owner ps.map s ≡ owner ps.map t).
        let slot = slice_index_or ps.slots (owner ps.map t) None in
        let there : slice_index_or written.slots (owner ps.map s) None ≡ option_map (with_value t v) slot =
        ap (λ k. slice_index_or written.slots k None) same ∙ get_or-set_same ps.slots (owner ps.map t) (option_map (with_value t v) slot) None within in
        let here : in_slot slot s ≡ held_at ps s = ap (λ k. in_slot (slice_index_or ps.slots k None) s) (sym same) in
        ap (λ o. in_slot o s) there ∙ in-written s slot ∙ ap (λ o. cond (same_index t s) (option_map (λ _. v) o) o) here)
        (λ (other : owner ps.map s ≡ owner ps.map t → ⊥).
        let apart : same_index t s ≡ false = not-same t s (λ same. other (ap (owner ps.map) (sym same))) in
        ap (λ o. in_slot o s) (get_or-set_other ps.slots (owner ps.map t) (owner ps.map s) (option_map (with_value t v) (slice_index_or ps.slots (owner ps.map t) None)) None other)
        ∙ sym (ap (λ b. cond b (option_map (λ _. v) (held_at ps s)) (held_at ps s)) apart))
        (cases_eq (owner ps.map s) (owner ps.map t))

    pub written-formed : ArePieces written
    written-formed = record {
      long = length-set ps.slots (owner ps.map t) (option_map (with_value t v) (slice_index_or ps.slots (owner ps.map t) None)) ∙ formed.long;
      owners = formed.owners;
      over = over;
    }
      where
        over-slot : (slot : Option (Elements T)) (es : Elements T) → slice_index_or ps.slots (owner ps.map t) None ≡ slot → option_map (with_value t v) slot ≡ Some es → IsOver (part ps.domain ps.map (owner ps.map t)) es
        over-slot None es was there = absurd (none-some es there)
        over-slot (Some fs) es was there =
            subst (IsOver (part ps.domain ps.map (owner ps.map t))) (same_Some (with_value t v fs) es there)
            (over-with_value (part ps.domain ps.map (owner ps.map t)) fs t v (formed.over (owner ps.map t) fs was))

        over : (l : ℕ) (es : Elements T) → slice_index_or (slice_set ps.slots (owner ps.map t) (option_map (with_value t v) (slice_index_or ps.slots (owner ps.map t) None))) l None ≡ Some es → IsOver (part ps.domain ps.map l) es
        over l es there =
            ⊎_elim
            (λ (same : l ≡ owner ps.map t).
            let slot = slice_index_or ps.slots (owner ps.map t) None in
            let is : option_map (with_value t v) slot ≡ Some es =
            sym (get_or-set_same ps.slots (owner ps.map t) (option_map (with_value t v) slot) None within)
            ∙ ap (λ k. slice_index_or (slice_set ps.slots (owner ps.map t) (option_map (with_value t v) slot)) k None) (sym same) ∙ there in
            subst (λ k. IsOver (part ps.domain ps.map k) es) (sym same) (over-slot slot es refl is))
            (λ (other : l ≡ owner ps.map t → ⊥).
            formed.over l es (sym (get_or-set_other ps.slots (owner ps.map t) l (option_map (with_value t v) (slice_index_or ps.slots (owner ps.map t) None)) None other) ∙ there))
            (cases_eq l (owner ps.map t))

    pub written-whole : IsWhole ps → IsWhole written
    written-whole whole =
        let there = slot-there whole (owner ps.map t) (formed.owners t) in
        All-set IsSome ps.slots (owner ps.map t) (option_map (with_value t v) (slice_index_or ps.slots (owner ps.map t) None)) (ap (λ s. is_some (option_map (with_value t v) s)) there.1) whole

    pub written-union : union written ≡ array_with t v (union ps)
    written-union =
        ap (λ es. record { domain = ps.domain; map = ps.map; elements = es })
        (tabulated-same (indices ps.domain) (held_at written) (changed t v (held_at ps)) (λ s at. written-held s) ∙ sym (with_value-tabulated t v (indices ps.domain) (held_at ps)))

-- THE PIECES OF AN ARRAY, TOGETHER AGAIN
pub counted-at : {X : Type 0} (f : ℕ → Option X) (a n k : ℕ) → k < n → slice_index_or (map f (counted a n)) k None ≡ f (a + k)
counted-at f a zero k below = absurd (omega arith)
counted-at f a (suc n) zero below = let e : a ≡ a + 0 = omega arith in ap f e
counted-at f a (suc n) (suc k) below = let e : (a + 1) + k ≡ a + suc k = omega arith in counted-at f (a + 1) n k (omega arith) ∙ ap f e

pub counted-some : {X : Type 0} (f : ℕ → X) (a n : ℕ) → All IsSome (map (λ k. Some (f k)) (counted a n))
counted-some f a zero = All-nil IsSome
counted-some f a (suc n) = All-cons IsSome (Some (f a)) (map (λ k. Some (f k)) (counted (a + 1) n)) refl (counted-some f (a + 1) n)

module _ {T : Type 0} (a : ArrayValue T) where
  -- they are all there
  pub pieces-whole : IsWhole (pieces_of a)
  pieces-whole = counted-some (λ l. owned a.map l a.elements) 0 (locales a.map)

  -- and their union is the array
  pub union-pieces : IsArray a → ((t : List ℤ) → owner a.map t < locales a.map) → union (pieces_of a) ≡ a
  union-pieces over owners =
      ap (λ es. record a { elements = es }) (tabulated-same (indices a.domain) (held_at (pieces_of a)) (λ t. value_at t a.elements) same ∙ over.values)
    where
      slot : (t : List ℤ) → slice_index_or (slots_of a) (owner a.map t) None ≡ Some (owned a.map (owner a.map t) a.elements)
      slot t =
          let e : 0 + owner a.map t ≡ owner a.map t = omega arith in
          counted-at (λ l. Some (owned a.map l a.elements)) 0 (locales a.map) (owner a.map t) (owners t) ∙ ap (λ l. Some (owned a.map l a.elements)) e

      mine : (t : List ℤ) → StandsIn (indices a.domain) t → value_at t (owned a.map (owner a.map t) a.elements) ≡ value_at t a.elements
      mine t at =
          ap (λ es. value_at t (owned a.map (owner a.map t) es)) (sym over.values)
          ∙ ap (value_at t) (owned-tabulated a.map (owner a.map t) (indices a.domain) (λ s. value_at s a.elements) ∙ filter-part a.domain a.map (owner a.map t) (λ s. value_at s a.elements))
          ∙ tabulated-there (part a.domain a.map (owner a.map t)) (λ s. value_at s a.elements) t (part-stands a.domain a.map t at)

      same : (t : List ℤ) → StandsIn (indices a.domain) t → held_at (pieces_of a) t ≡ value_at t a.elements
      same t at = ap (λ s. in_slot s t) (slot t) ∙ mine t at
