-- Walks over indices: what is left of them, and values that are taken over on the way.
-- They serve `redomain` and the walk over the elements of an array.
use Rattle.std.proofs.Common.{◌≡◌, ◌⊎◌, ◌==◌, ◌<◌, ◌≤◌, ◌+◌, ◌^◌, ℕ, zero, suc, ℤ, List, [], ◌∷◌, ◌++◌, map, filter, length, length-append, append_assoc, length-set, get_or, get_or-set_same, get_or-set_other, replicate, slice_get, slice_set, drop, Bool, Option, Some, None, true, false, cond, inl, inr, refl, ap, sym, subst, ◌∙◌, arith, ⊎_elim, eq-eqb, eqb-true}
use Rattle.std.proofs.lemmas.Bool.{cases_eq}
use Rattle.std.proofs.lemmas.List.{get_or-replicate}
use Rattle.std.proofs.lemmas.List.Sums.{length-filter, count_by-le-length}
use Rattle.std.specs.Option.{option_map}
use Rattle.std.proofs.lemmas.Option.{none-some, same_Some}
use Rattle.dpl_array.specs.Elements.{Elements, same_index, value_at, with_value, keys_of, owned, element_before, filled, tabulated, IsOver}
use Rattle.dpl_sets.specs.Ranges.{RangeValue}
use Rattle.dpl_sets.specs.Indices.{indices, IsSmall}
use Rattle.dpl_map.specs.Maps.{AxisValue, owner, locales}
use Rattle.dpl_array.specs.Arrays.{ArrayValue, IsArray, or_value, taken_over}
use Rattle.dpl_array.specs.Rows.{StandsIn}
use Rattle.dpl_array.specs.WalkFields.{count_of, left_of, IsLeft}
use Rattle.dpl_array.proofs.RowLemmas.{slice_get-second}
use Rattle.dpl_array.proofs.ElementLemmas.{index-cases, over-some, same_index-refl, over-filled, over-with_value, tabulated-filled, tabulated-same, tabulated-there, value_at-with_value}

-- what holds while some indices are still to be looked at: each other one has its value, and these still have the given one
pub record AreTaken {T : Type 0} (ts : List (List ℤ)) (from es : Elements T) (v : T) (rest : List (List ℤ)) : Type 0 where
  pub over : IsOver ts es
  pub each : (t : List ℤ) → StandsIn ts t → (value_at t es ≡ Some (or_value (value_at t from) v)) ⊎ (StandsIn rest t × (value_at t es ≡ Some v))

module _ {T : Type 0} where
  tabulated-map : (ts : List (List ℤ)) (f : List ℤ → T) → tabulated ts (λ t. Some (f t)) ≡ map (λ t. (t, f t)) ts
  tabulated-map [] f = refl
  tabulated-map (t ∷ ts) f = ap (λ es. (t, f t) ∷ es) (tabulated-map ts f)

  pub taken-first : (ts : List (List ℤ)) (from : Elements T) (v : T) → AreTaken ts from (filled ts v) v ts
  taken-first ts from v = record {
    over = over-filled ts v;
    each = λ t at. inr (at, ap (value_at t) (sym (tabulated-filled ts v)) ∙ tabulated-there ts (λ _. Some v) t at);
  }

  module _ (ts : List (List ℤ)) (from es : Elements T) (v : T) (s : List ℤ) (rest : List (List ℤ)) (taken : AreTaken ts from es v (s ∷ rest)) where
    -- an index that is not the next one
    other-index : (t : List ℤ) → same_index s t ≡ false → StandsIn (s ∷ rest) t → StandsIn rest t
    other-index t other (zero, found) = absurd (let yes : same_index s t ≡ true = ap (same_index s) (sym (same_Some s t found)) ∙ same_index-refl s in let no : true ≡ false = sym yes ∙ other in cc)
    other-index t other (suc k, found) = (k, found)

    has-value : (t : List ℤ) → StandsIn ts t → (w : T) × (value_at t es ≡ Some w)
    has-value t at =
        ⊎_elim
        (λ (done : value_at t es ≡ Some (or_value (value_at t from) v)). (or_value (value_at t from) v, done))
        (λ (waits : StandsIn (s ∷ rest) t × (value_at t es ≡ Some v)). (v, waits.1))
        (taken.each t at)

    -- nothing is taken over where there is nothing
    step-none : value_at s from ≡ None → AreTaken ts from es v rest
    step-none none = record { over = taken.over; each = each }
      where
        each : (t : List ℤ) → StandsIn ts t → (value_at t es ≡ Some (or_value (value_at t from) v)) ⊎ (StandsIn rest t × (value_at t es ≡ Some v))
        each t at =
            ⊎_elim
            (λ (done : value_at t es ≡ Some (or_value (value_at t from) v)). inl done)
            (λ (waits : StandsIn (s ∷ rest) t × (value_at t es ≡ Some v)).
            ⊎_elim
            (λ (here : s ≡ t). inl (waits.1 ∙ ap (λ o. Some (or_value o v)) (sym (ap (λ r. value_at r from) (sym here) ∙ none))))
            (λ (other : same_index s t ≡ false). inr (other-index t other waits.0, waits.1))
            (index-cases s t))
            (taken.each t at)

    step-some : (w : T) → value_at s from ≡ Some w → AreTaken ts from (with_value s w es) v rest
    step-some w some = record { over = over-with_value ts es s w taken.over; each = each }
      where
        each : (t : List ℤ) → StandsIn ts t → (value_at t (with_value s w es) ≡ Some (or_value (value_at t from) v)) ⊎ (StandsIn rest t × (value_at t (with_value s w es) ≡ Some v))
        each t at =
            ⊎_elim
            (λ (here : s ≡ t).
            let same : same_index s t ≡ true = ap (same_index s) (sym here) ∙ same_index-refl s in
            let has = has-value t at in
            inl (value_at-with_value s w es t ∙ ap (λ b. cond b (option_map (λ _. w) (value_at t es)) (value_at t es)) same ∙ ap (option_map (λ _. w)) has.1 ∙ ap (λ o. Some (or_value o v)) (sym (ap (λ r. value_at r from) (sym here) ∙ some))))
            (λ (other : same_index s t ≡ false).
            let kept : value_at t (with_value s w es) ≡ value_at t es = value_at-with_value s w es t ∙ ap (λ b. cond b (option_map (λ _. w) (value_at t es)) (value_at t es)) other in
            ⊎_elim
            (λ (done : value_at t es ≡ Some (or_value (value_at t from) v)). inl (kept ∙ done))
            (λ (waits : StandsIn (s ∷ rest) t × (value_at t es ≡ Some v)). inr (other-index t other waits.0, kept ∙ waits.1))
            (taken.each t at))
            (index-cases s t)

    pub taken-next : (o : Option T) → value_at s from ≡ o → AreTaken ts from (taken_over s o es) v rest
    taken-next None is = step-none is
    taken-next (Some w) is = step-some w is

  pub taken-last : (ts : List (List ℤ)) (from es : Elements T) (v : T) → AreTaken ts from es v [] → es ≡ map (λ t. (t, or_value (value_at t from) v)) ts
  taken-last ts from es v taken =
      sym taken.over.values ∙ tabulated-same ts (λ t. value_at t es) (λ t. Some (or_value (value_at t from) v)) same ∙ tabulated-map ts (λ t. or_value (value_at t from) v)
    where
      same : (t : List ℤ) → StandsIn ts t → value_at t es ≡ Some (or_value (value_at t from) v)
      same t at =
          ⊎_elim
          (λ (done : value_at t es ≡ Some (or_value (value_at t from) v)). done)
          (λ (waits : StandsIn [] t × (value_at t es ≡ Some v)). absurd (none-some t waits.0.1))
          (taken.each t at)

pub walk-end : (is : List (List ℤ)) → slice_get is 0 ≡ None → is ≡ []
walk-end [] none = refl
walk-end (i ∷ is) none = absurd (none-some i (sym none))

pub array-is : {T : Type 0} (a : ArrayValue T) (d : List RangeValue) (m : List AxisValue) (es : Elements T) → a.domain ≡ d → a.map ≡ m → a.elements ≡ es → a ≡ record { domain = d; map = m; elements = es }
array-is {T = T} a d m es domain axes elements =
    ap {A = List RangeValue} {B = ArrayValue T} (λ x. record { domain = x; map = a.map; elements = a.elements }) domain
    ∙ ap {A = List AxisValue} {B = ArrayValue T} (λ x. record { domain = d; map = x; elements = a.elements }) axes
    ∙ ap {A = Elements T} {B = ArrayValue T} (λ x. record { domain = d; map = m; elements = x }) elements

pub drop-stands : {X : Type 0} (xs : List X) (x : X) → StandsIn (drop 1 xs) x → StandsIn xs x
drop-stands [] x at = at
drop-stands (y ∷ xs) x at = (suc at.0, at.1)

-- what a walk gives is the first index that is left
pub walk-next : (is : List (List ℤ)) (t : List ℤ) → slice_get is 0 ≡ Some t → (rest : List (List ℤ)) × (is ≡ t ∷ rest)
walk-next [] t found = absurd (none-some t found)
walk-next (i ∷ is) t found = (is, ap (λ j. j ∷ is) (same_Some i t found))

-- THE NEXT ELEMENT OF AN OWNER
pub other-test : (m n : ℕ) → (m ≡ n → ⊥) → (m == n) ≡ false
other-test m n other = by (m == n) refl
  where
    by : (b : Bool) → (m == n) ≡ b → b ≡ false
    by true is = absurd (other (eqb-true m n is))
    by false is = refl

pub keys-owned : {T : Type 0} (axes : List AxisValue) (l : ℕ) (es : Elements T) → keys_of (owned axes l es) ≡ filter (λ t. owner axes t == l) (keys_of es)
keys-owned axes l [] = refl
keys-owned axes l (e ∷ es) = by (owner axes e.0 == l) (keys-owned axes l es)
  where
    by : (b : Bool) → keys_of (owned axes l es) ≡ filter (λ t. owner axes t == l) (keys_of es) → keys_of (cond b (e ∷ owned axes l es) (owned axes l es)) ≡ cond b (e.0 ∷ filter (λ t. owner axes t == l) (keys_of es)) (filter (λ t. owner axes t == l) (keys_of es))
    by true rest = ap (λ ks. e.0 ∷ ks) rest
    by false rest = rest

-- an owner's elements hold what all of them hold at an index that it owns
pub value-owned : {T : Type 0} (axes : List AxisValue) (t : List ℤ) (es : Elements T) → value_at t (owned axes (owner axes t) es) ≡ value_at t es
value-owned axes t [] = refl
value-owned axes t (e ∷ es) = by (owner axes e.0 == owner axes t) refl (index-cases t e.0) (value-owned axes t es)
  where
    by : (b : Bool) → (owner axes e.0 == owner axes t) ≡ b → (t ≡ e.0) ⊎ (same_index t e.0 ≡ false) → value_at t (owned axes (owner axes t) es) ≡ value_at t es → value_at t (cond b (e ∷ owned axes (owner axes t) es) (owned axes (owner axes t) es)) ≡ value_at t (e ∷ es)
    by true is at rest = ap (cond (same_index t e.0) (Some e.1)) rest
    by false is (inl here) rest = absurd (let yes : (owner axes e.0 == owner axes t) ≡ true = eq-eqb (owner axes e.0) (owner axes t) (ap (owner axes) (sym here)) in let no : true ≡ false = sym yes ∙ is in cc)
    by false is (inr other) rest = rest ∙ sym (ap (λ c. cond c (Some e.1) (value_at t es)) other)

-- of what a filter keeps, as many stand before an element as it keeps of those that stand before it
filter-next : {X : Type 0} (p : X → Bool) (before : List X) (x : X) (rest : List X) → p x ≡ true → slice_get (filter p (before ++ x ∷ rest)) (length (filter p before)) ≡ Some x
filter-next p [] x rest passes = rw passes refl
filter-next p (y ∷ before) x rest passes = by (p y) (filter-next p before x rest passes)
  where
    by : (b : Bool) → slice_get (filter p (before ++ x ∷ rest)) (length (filter p before)) ≡ Some x → slice_get (cond b (y ∷ filter p (before ++ x ∷ rest)) (filter p (before ++ x ∷ rest))) (length (cond b (y ∷ filter p before) (filter p before))) ≡ Some x
    by true later = later
    by false later = later

-- one more is gone over
filter-more : {X : Type 0} (p : X → Bool) (before : List X) (x : X) (b : Bool) → p x ≡ b → length (filter p (before ++ x ∷ [])) ≡ length (filter p before) + cond b 1 0
filter-more p [] x true is = rw is refl
filter-more p [] x false is = rw is refl
filter-more p (y ∷ before) x b is = by (p y) (filter-more p before x b is)
  where
    by : (c : Bool) → length (filter p (before ++ x ∷ [])) ≡ length (filter p before) + cond b 1 0 → length (cond c (y ∷ filter p (before ++ x ∷ [])) (filter p (before ++ x ∷ []))) ≡ length (cond c (y ∷ filter p before) (filter p before)) + cond b 1 0
    by true later = omega (arith, later)
    by false later = later

filter-short : {X : Type 0} (p : X → Bool) (before rest : List X) → length (filter p before) ≤ length (before ++ rest)
filter-short p before rest =
    let n = length-filter p before in
    let le = count_by-le-length p before in
    let whole = length-append before rest in
    omega (arith, n, le, whole)

pub left-first : {T : Type 0} (a : ArrayValue T) → IsArray a → IsSmall a.domain → locales a.map ≤ 64 → IsLeft a a.map (indices a.domain) (replicate 64 0)
left-first a array small most = record {
  array = array;
  small = small;
  map_is = refl;
  long = refl;
  most = most;
  gone = [];
  whole = refl;
  counts = λ l below. get_or-replicate 64 l 0 0 (omega (arith, below, most));
}

module _ {T : Type 0} (a : ArrayValue T) (map : List AxisValue) (given : List ℕ) (t : List ℤ) (rest : List (List ℤ)) (left : IsLeft a map (t ∷ rest) given) where
  pub left-stands : StandsIn (indices a.domain) t
  left-stands = subst (λ ts. StandsIn ts t) (sym left.whole) (length left.gone, ap (slice_get (left.gone ++ t ∷ rest)) (zero-more (length left.gone)) ∙ slice_get-second left.gone (t ∷ rest) 0)
    where
      zero-more : (n : ℕ) → n ≡ n + 0
      zero-more n = omega arith

  pub left-value : (v : T) × (value_at t a.elements ≡ Some v)
  left-value = over-some (indices a.domain) a.elements t left.array left-stands

  pub left-place : slice_get (keys_of (owned a.map (owner a.map t) a.elements)) (count_of a.map (owner a.map t) left.gone) ≡ Some t
  left-place =
      ap (λ ks. slice_get ks (count_of a.map (owner a.map t) left.gone)) (keys-owned a.map (owner a.map t) a.elements ∙ ap (filter (λ s. owner a.map s == owner a.map t)) (left.array.keys ∙ left.whole))
      ∙ filter-next (λ s. owner a.map s == owner a.map t) left.gone t rest (eq-eqb (owner a.map t) (owner a.map t) refl)

  pub left-owned : value_at t (owned a.map (owner a.map t) a.elements) ≡ value_at t a.elements
  left-owned = value-owned a.map t a.elements

  pub left-bound : count_of a.map (owner a.map t) left.gone ≤ 2 ^ 40
  left-bound =
      let short = filter-short (λ s. owner a.map s == owner a.map t) left.gone (t ∷ rest) in
      let whole : length (indices a.domain) ≡ length (left.gone ++ t ∷ rest) = ap length left.whole in
      omega (arith, short, whole, left.small)

  pub left-next : IsLeft a map rest (slice_set given (owner a.map t) (count_of a.map (owner a.map t) left.gone + 1))
  left-next = record {
    array = left.array;
    small = left.small;
    map_is = left.map_is;
    long = length-set given (owner a.map t) (count_of a.map (owner a.map t) left.gone + 1) ∙ left.long;
    most = left.most;
    gone = left.gone ++ t ∷ [];
    whole = left.whole ∙ sym (append_assoc left.gone (t ∷ []) rest);
    counts = counts;
  }
    where
      counts : (l : ℕ) → l < locales a.map → get_or (slice_set given (owner a.map t) (count_of a.map (owner a.map t) left.gone + 1)) l 0 ≡ count_of a.map l (left.gone ++ t ∷ [])
      counts l below =
          ⊎_elim
          (λ (same : l ≡ owner a.map t).
          let here : owner a.map t < length given = omega (arith, ap (λ n. n) same, below, left.most, left.long) in
          ap (λ k. get_or (slice_set given (owner a.map t) (count_of a.map (owner a.map t) left.gone + 1)) k 0) same
          ∙ get_or-set_same given (owner a.map t) (count_of a.map (owner a.map t) left.gone + 1) 0 here
          ∙ sym (filter-more (λ s. owner a.map s == owner a.map t) left.gone t true (eq-eqb (owner a.map t) (owner a.map t) refl))
          ∙ ap (λ k. count_of a.map k (left.gone ++ t ∷ [])) (sym same))
          (λ (other : l ≡ owner a.map t → ⊥).
          let none : count_of a.map l left.gone + 0 ≡ count_of a.map l left.gone = omega arith in
          get_or-set_other given (owner a.map t) l (count_of a.map (owner a.map t) left.gone + 1) 0 other ∙ left.counts l below
          ∙ sym (filter-more (λ s. owner a.map s == l) left.gone t false (other-test (owner a.map t) l (λ same. other (sym same))) ∙ none))
          (cases_eq l (owner a.map t))

-- the same of the owner and the place that the walk reads
module _ {T : Type 0} (a : ArrayValue T) (map : List AxisValue) (given : List ℕ) (left : List (List ℤ)) (kept : IsLeft a map left given) (t : List ℤ) (next : slice_get left 0 ≡ Some t) (o : ℕ) (owns : o ≡ owner map t) (below : o < locales map) where
  rest : List (List ℤ)
  rest = (walk-next left t next).0

  front : IsLeft a map (t ∷ rest) given
  unfolding rest
  front = subst (λ ts. IsLeft a map ts given) (walk-next left t next).1 kept

  same : o ≡ owner a.map t
  same = owns ∙ ap (λ m. owner m t) front.map_is

  under : owner a.map t < locales a.map
  under = let few : locales map ≡ locales a.map = ap locales front.map_is in omega (arith, below, few, same)

  place : get_or given o 0 ≡ count_of a.map (owner a.map t) front.gone
  place = ap (λ k. get_or given k 0) same ∙ front.counts (owner a.map t) under

  pub next-place : slice_get (keys_of (owned a.map o a.elements)) (get_or given o 0) ≡ Some t
  next-place =
      ap (λ k. slice_get (keys_of (owned a.map k a.elements)) (get_or given o 0)) same
      ∙ ap (slice_get (keys_of (owned a.map (owner a.map t) a.elements))) place
      ∙ left-place a map given t rest front

  pub next-bound : get_or given o 0 ≤ 2 ^ 40
  next-bound = let bound = left-bound a map given t rest front in omega (arith, bound, place)

  pub next-within : o < 64
  next-within = let few : locales map ≡ locales a.map = ap locales front.map_is in omega (arith, below, few, front.most)

  pub next-below : o < locales a.map
  next-below = let few : locales map ≡ locales a.map = ap locales front.map_is in omega (arith, below, few)

  pub next-owned : value_at t (owned a.map o a.elements) ≡ value_at t a.elements
  next-owned = ap (λ k. value_at t (owned a.map k a.elements)) same ∙ left-owned a map given t rest front

  pub next-value : (v : T) × (value_at t a.elements ≡ Some v)
  next-value = left-value a map given t rest front

  pub next-none : value_at t (owned a.map o a.elements) ≡ None → ⊥
  next-none none = none-some next-value.0 (sym none ∙ next-owned ∙ next-value.1)

  pub next-left : IsLeft a map (drop 1 left) (slice_set given o (get_or given o 0 + 1))
  unfolding rest
  next-left =
      subst (λ ts. IsLeft a map ts (slice_set given o (get_or given o 0 + 1))) (sym (ap (drop 1) (walk-next left t next).1))
      (subst (IsLeft a map rest) (sym (ap (λ k. slice_set given k (get_or given o 0 + 1)) same ∙ ap (λ n. slice_set given (owner a.map t) (n + 1)) place)) (left-next a map given t rest front))

  -- the element in front
  pub next-element : (v : T) → value_at t (owned a.map o a.elements) ≡ Some v → left_of a left ≡ (t, v) ∷ left_of a (drop 1 left)
  next-element v some =
      ap (left_of a) (walk-next left t next).1
      ∙ ap (λ x. element_before t x (left_of a (walk-next left t next).0)) (sym next-owned ∙ some)
      ∙ ap (λ ts. (t, v) ∷ left_of a (drop 1 ts)) (sym (walk-next left t next).1)
