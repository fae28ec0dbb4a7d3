-- The part of a locale is the product of what it owns of each dimension.
use Rattle.std.proofs.Common.{◌≡◌, ℕ, zero, suc, ◌+◌, ◌*◌, ◌/◌, ◌%◌, ◌<◌, ◌≤◌, List, [], ◌∷◌, ◌++◌, length, refl, ap, sym, ◌∙◌, arith, ℤ, pos, Bool, true, false, cond, ◌&&◌, ◌==◌, filter, map, flat_map, slice_get, Some, subst, eqb-true, eq-eqb}
use Rattle.std.specs.Cmp.{both_ways}
use Rattle.std.specs.List.{AllByRecursion}
use Rattle.std.proofs.lemmas.List.{length-map, nil_from_length}
use Rattle.std.proofs.lemmas.Nat.{same_from_place, div_below, mod_below, div-add-mod'}
use Rattle.dpl_sets.specs.Ranges.{RangeValue, members_of}
use Rattle.dpl_domain.proofs.PlaceLemmas.{length-filter_le}
use Rattle.dpl_sets.specs.Indices.{tuples, indices}
use Rattle.dpl_domain.specs.Ranks.{last_of}
use Rattle.dpl_map.specs.AxisFields.{IsAxis}
use Rattle.dpl_map.specs.MapFields.{IsMap, idle}
use Rattle.dpl_map.specs.Maps.{AxisValue, axis_coordinate, owner}
use Rattle.dpl_map.specs.Parts.{part}
use Rattle.dpl_map.specs.Axes.{owned_of}
use Rattle.dpl_range.proofs.Lists.{filter-alike}
use Rattle.dpl_map.proofs.OwnerLemmas.{owner-padded, owner-other, locale_of}
use Rattle.dpl_map.proofs.AxisLemmas.{axis-below}

-- each coordinate of a tuple passes the test of its dimension
abbrev pub all_pass : List (ℤ → Bool) → List ℤ → Bool
all_pass (p ∷ ps) (i ∷ is) = p i && all_pass ps is
all_pass _ _ = true

abbrev pub filter_each : List (ℤ → Bool) → List (List ℤ) → List (List ℤ)
filter_each (p ∷ ps) (is ∷ rest) = filter p is ∷ filter_each ps rest
filter_each _ rest = rest

pub filter-append : {X : Type 0} (p : X → Bool) (xs ys : List X) → filter p (xs ++ ys) ≡ filter p xs ++ filter p ys
filter-append p [] ys = refl
filter-append p (x ∷ xs) ys = ap (λ zs. cond (p x) (x ∷ zs) zs) (filter-append p xs ys) ∙ kept (p x)
  where
    kept : (b : Bool) → cond b (x ∷ (filter p xs ++ filter p ys)) (filter p xs ++ filter p ys) ≡ cond b (x ∷ filter p xs) (filter p xs) ++ filter p ys
    kept true = refl
    kept false = refl

-- of the tuples that an element begins, those are kept that pass without it, if it passes itself
filter-row : (b : Bool) (i : ℤ) (q p : List ℤ → Bool) (rows : List (List ℤ)) → ((t : List ℤ) → p (i ∷ t) ≡ (b && q t)) → filter p (map (λ t. i ∷ t) rows) ≡ cond b (map (λ t. i ∷ t) (filter q rows)) []
filter-row true i q p [] same = refl
filter-row false i q p [] same = refl
filter-row true i q p (t ∷ rows) same =
    ap (λ b. cond b ((i ∷ t) ∷ filter p (map (λ t. i ∷ t) rows)) (filter p (map (λ t. i ∷ t) rows))) (same t)
    ∙ ap (λ ts. cond (q t) ((i ∷ t) ∷ ts) ts) (filter-row true i q p rows same)
    ∙ kept (q t)
  where
    kept : (b : Bool) → cond b ((i ∷ t) ∷ map (λ t. i ∷ t) (filter q rows)) (map (λ t. i ∷ t) (filter q rows)) ≡ map (λ t. i ∷ t) (cond b (t ∷ filter q rows) (filter q rows))
    kept true = refl
    kept false = refl
filter-row false i q p (t ∷ rows) same =
    ap (λ b. cond b ((i ∷ t) ∷ filter p (map (λ t. i ∷ t) rows)) (filter p (map (λ t. i ∷ t) rows))) (same t)
    ∙ filter-row false i q p rows same

filter-rows : (p : ℤ → Bool) (q : List ℤ → Bool) (r : List ℤ → Bool) (is : List ℤ) (rows : List (List ℤ)) → ((i : ℤ) (t : List ℤ) → r (i ∷ t) ≡ (p i && q t)) → filter r (flat_map (λ i. map (λ t. i ∷ t) rows) is) ≡ flat_map (λ i. map (λ t. i ∷ t) (filter q rows)) (filter p is)
filter-rows p q r [] rows same = refl
filter-rows p q r (i ∷ is) rows same =
    filter-append r (map (λ t. i ∷ t) rows) (flat_map (λ i. map (λ t. i ∷ t) rows) is)
    ∙ ap (λ ts. ts ++ filter r (flat_map (λ i. map (λ t. i ∷ t) rows) is)) (filter-row (p i) i q r rows (same i))
    ∙ ap (λ ts. cond (p i) (map (λ t. i ∷ t) (filter q rows)) [] ++ ts) (filter-rows p q r is rows same)
    ∙ kept (p i)
  where
    kept : (b : Bool) → cond b (map (λ t. i ∷ t) (filter q rows)) [] ++ flat_map (λ i. map (λ t. i ∷ t) (filter q rows)) (filter p is) ≡ flat_map (λ i. map (λ t. i ∷ t) (filter q rows)) (cond b (i ∷ filter p is) (filter p is))
    kept true = refl
    kept false = refl

-- a filter of a product by tests of each coordinate is the product of the filters
pub filter-tuples : (ps : List (ℤ → Bool)) (iss : List (List ℤ)) → length ps ≡ length iss → filter (all_pass ps) (tuples iss) ≡ tuples (filter_each ps iss)
filter-tuples [] [] same = refl
filter-tuples [] (is ∷ iss) same = absurd (omega arith)
filter-tuples (p ∷ ps) [] same = absurd (omega arith)
filter-tuples (p ∷ ps) (is ∷ iss) same =
    filter-rows p (all_pass ps) (all_pass (p ∷ ps)) is (tuples iss) (λ i t. refl)
    ∙ ap (λ rows. flat_map (λ i. map (λ t. i ∷ t) rows) (filter p is)) (filter-tuples ps iss (omega arith))

-- what holds of each element holds of the one at a place
pub each-at : {X : Type 0} (P : X → Type 0) (xs : List X) → AllByRecursion P xs → (k : ℕ) (x : X) → slice_get xs k ≡ Some x → P x
each-at P [] each k x at = absurd cc
each-at P (y ∷ ys) each zero x at = let e : y ≡ x = cc in subst P e each.0
each-at P (y ∷ ys) each (suc k) x at = each-at P ys each.1 k x at

each-append : {X : Type 0} (P : X → Type 0) (xs ys : List X) → AllByRecursion P xs → AllByRecursion P ys → AllByRecursion P (xs ++ ys)
each-append P [] ys first second = second
each-append P (x ∷ xs) ys first second = (first.0, each-append P xs ys first.1 second)

each-row : (i : ℤ) (n : ℕ) (rows : List (List ℤ)) → AllByRecursion (λ t. length t ≡ n) rows → AllByRecursion (λ t. length t ≡ suc n) (map (λ t. i ∷ t) rows)
each-row i n [] each = each
each-row i n (t ∷ rows) each = (let e : length t ≡ n = each.0 in omega arith, each-row i n rows each.1)

each-rows : (n : ℕ) (rows : List (List ℤ)) (is : List ℤ) → AllByRecursion (λ t. length t ≡ n) rows → AllByRecursion (λ t. length t ≡ suc n) (flat_map (λ i. map (λ t. i ∷ t) rows) is)
each-rows n rows [] each = tt
each-rows n rows (i ∷ is) each =
    each-append _ (map (λ t. i ∷ t) rows) (flat_map (λ i. map (λ t. i ∷ t) rows) is) (each-row i n rows each) (each-rows n rows is each)

-- each tuple of a product has as many coordinates as there are lists
pub each-length : (iss : List (List ℤ)) → AllByRecursion (λ t. length t ≡ length iss) (tuples iss)
each-length [] = (refl, tt)
each-length (is ∷ iss) = each-rows (length iss) (tuples iss) is (each-length iss)

and-first : (a b : Bool) → (a && b) ≡ true → a ≡ true
and-first true b holds = refl
and-first false b holds = holds

and-second : (a b : Bool) → (a && b) ≡ true → b ≡ true
and-second true b holds = holds
and-second false b holds = absurd cc

and-true : (b : Bool) → b ≡ (b && true)
and-true true = refl
and-true false = refl

-- a place of the grid by its coordinates
module _ (o m i : AxisValue) (o_limits : IsAxis o) (m_limits : IsAxis m) (i_limits : IsAxis i) (cx cy cz locale : ℕ) (cx_below : cx < o.extent) (cy_below : cy < m.extent) (cz_below : cz < i.extent) (locale-is : (cx * m.extent + cy) * i.extent + cz ≡ locale) where
  same-coordinates : (x y z : ℤ) → locale_of o m i x y z ≡ locale → (axis_coordinate o x ≡ cx) × (axis_coordinate m y ≡ cy) × (axis_coordinate i z ≡ cz)
  same-coordinates x y z e =
      let last = same_from_place (axis_coordinate o x * m.extent + axis_coordinate m y) (axis_coordinate i z) (cx * m.extent + cy) cz i.extent (axis-below i z i_limits) cz_below (e ∙ sym locale-is) in
      let first = same_from_place (axis_coordinate o x) (axis_coordinate m y) cx cy m.extent (axis-below m y m_limits) cy_below last.0 in
      (first.0, first.1, last.1)

  coordinates-same : (x y z : ℤ) → axis_coordinate o x ≡ cx → axis_coordinate m y ≡ cy → axis_coordinate i z ≡ cz → locale_of o m i x y z ≡ locale
  coordinates-same x y z first second third = rw (first, second, third) locale-is

  three-tests : (x y z : ℤ) → (locale_of o m i x y z == locale) ≡ ((axis_coordinate o x == cx) && ((axis_coordinate m y == cy) && (axis_coordinate i z == cz)))
  three-tests x y z =
      both_ways (locale_of o m i x y z == locale) ((axis_coordinate o x == cx) && ((axis_coordinate m y == cy) && (axis_coordinate i z == cz)))
      (λ h.
      let locales = same-coordinates x y z (eqb-true _ _ h) in
      rw (eq-eqb _ _ locales.0, eq-eqb _ _ locales.1, eq-eqb _ _ locales.2) refl)
      (λ h.
      let first = eqb-true _ _ (and-first _ _ h) in
      let rest = and-second _ _ h in
      eq-eqb _ _ (coordinates-same x y z first (eqb-true _ _ (and-first _ _ rest)) (eqb-true _ _ (and-second _ _ rest))))

  -- an idle axis has one place
  idle-outer : (x : ℤ) → o ≡ idle → (axis_coordinate o x == cx) ≡ true
  idle-outer x is =
      let one : o.extent ≡ 1 = ap (λ (a : AxisValue). a.extent) is in
      eq-eqb _ _ (omega (arith, axis-below o x o_limits, one))

  idle-middle : (y : ℤ) → m ≡ idle → (axis_coordinate m y == cy) ≡ true
  idle-middle y is =
      let one : m.extent ≡ 1 = ap (λ (a : AxisValue). a.extent) is in
      eq-eqb _ _ (omega (arith, axis-below m y m_limits, one))

  abbrev pub tests : ℕ → List (ℤ → Bool)
  tests rank = last_of rank (λ x. axis_coordinate o x == cx) (λ y. axis_coordinate m y == cy) (λ z. axis_coordinate i z == cz)

  -- a tuple's owner is the place where each coordinate's answer is that of the place
  owner-tests : (rank : ℕ) (t : List ℤ) → IsMap rank o m i → 1 ≤ rank → length t ≡ rank → (owner (last_of rank o m i) t == locale) ≡ all_pass (tests rank) t
  owner-tests zero t is some same = absurd (omega arith)
  owner-tests (suc zero) [] is some same = absurd (omega arith)
  owner-tests (suc zero) (z ∷ []) is some same =
      ap (λ n. n == locale) (owner-padded 1 o m i (pos 0) (pos 0) z is (record { from_one = omega arith; to_three = omega arith; first = λ _. refl; second = λ _. refl }))
      ∙ three-tests (pos 0) (pos 0) z
      ∙ rw (idle-outer (pos 0) (is.first (omega arith)), idle-middle (pos 0) (is.second (omega arith))) (and-true (axis_coordinate i z == cz))
  owner-tests (suc zero) (y ∷ z ∷ t) is some same = absurd (omega arith)
  owner-tests (suc (suc zero)) [] is some same = absurd (omega arith)
  owner-tests (suc (suc zero)) (y ∷ []) is some same = absurd (omega arith)
  owner-tests (suc (suc zero)) (y ∷ z ∷ []) is some same =
      ap (λ n. n == locale) (owner-padded 2 o m i (pos 0) y z is (record { from_one = omega arith; to_three = omega arith; first = λ _. refl; second = λ h. absurd (omega arith) }))
      ∙ three-tests (pos 0) y z
      ∙ rw (idle-outer (pos 0) (is.first (omega arith))) (ap (λ b. (axis_coordinate m y == cy) && b) (and-true (axis_coordinate i z == cz)))
  owner-tests (suc (suc zero)) (x ∷ y ∷ z ∷ t) is some same = absurd (omega arith)
  owner-tests (suc (suc (suc zero))) [] is some same = absurd (omega arith)
  owner-tests (suc (suc (suc zero))) (x ∷ []) is some same = absurd (omega arith)
  owner-tests (suc (suc (suc zero))) (x ∷ y ∷ []) is some same = absurd (omega arith)
  owner-tests (suc (suc (suc zero))) (x ∷ y ∷ z ∷ []) is some same =
      ap (λ n. n == locale) (owner-padded 3 o m i x y z is (record { from_one = omega arith; to_three = omega arith; first = λ h. absurd (omega arith); second = λ h. absurd (omega arith) }))
      ∙ three-tests x y z
      ∙ ap (λ b. (axis_coordinate o x == cx) && ((axis_coordinate m y == cy) && b)) (and-true (axis_coordinate i z == cz))
  owner-tests (suc (suc (suc zero))) (w ∷ x ∷ y ∷ z ∷ t) is some same = absurd (omega arith)
  owner-tests (suc (suc (suc (suc n)))) t is some same = absurd (omega (arith, is.to_three))

  -- so the tuples that it owns are the product of what it owns of each list
  owned-tuples : (rank : ℕ) (iss : List (List ℤ)) → IsMap rank o m i → 1 ≤ rank → length iss ≡ rank → length (tests rank) ≡ rank → tuples (filter_each (tests rank) iss) ≡ filter (λ t. owner (last_of rank o m i) t == locale) (tuples iss)
  owned-tuples rank iss is some same tested =
      sym (filter-alike (λ t. owner (last_of rank o m i) t == locale) (all_pass (tests rank)) (tuples iss)
      (λ k t at. owner-tests rank t is some (each-at (λ t. length t ≡ length iss) (tuples iss) (each-length iss) k t at ∙ same))
      ∙ filter-tuples (tests rank) iss (tested ∙ sym same))

  -- the part is the product of what is owned of each dimension
  pub tuples-part : (f s l : RangeValue) (rank : ℕ) → IsMap rank o m i → 1 ≤ rank → tuples (last_of rank (owned_of o cx f) (owned_of m cy s) (owned_of i cz l)) ≡ part (last_of rank f s l) (last_of rank o m i) locale
  unfolding indices part
  tuples-part f s l zero is some = absurd (omega arith)
  tuples-part f s l (suc zero) is some = owned-tuples 1 (members_of l ∷ []) is some refl refl
  tuples-part f s l (suc (suc zero)) is some = owned-tuples 2 (members_of s ∷ members_of l ∷ []) is some refl refl
  tuples-part f s l (suc (suc (suc zero))) is some = owned-tuples 3 (members_of f ∷ members_of s ∷ members_of l ∷ []) is some refl refl
  tuples-part f s l (suc (suc (suc (suc n)))) is some = absurd (omega (arith, is.to_three))

-- the coordinates of a place of the grid
pub record IsSeat (l a m n x y z : ℕ) : Type 0 where
  pub outer : x < a
  pub middle : y < m
  pub inner : z < n
  pub number : (x * m + y) * n + z ≡ l

pub seat : (l a m n : ℕ) → 0 < m → 0 < n → l < a * m * n → IsSeat l a m n (l / n / m) (l / n % m) (l % n)
seat l a m n rows columns below =
    let row : l / n < a * m = div_below l n (a * m) columns below in
    let split : l / n / m * m + l / n % m ≡ l / n = div-add-mod' (l / n) m in
    let whole : l / n * n + l % n ≡ l = div-add-mod' l n in
    record {
      outer = div_below (l / n) m a rows row;
      middle = mod_below (l / n) m rows;
      inner = mod_below l n columns;
      number = ap (λ z. z * n + l % n) split ∙ whole;
    }

-- a part is no larger than its domain
pub part-small : (ranges : List RangeValue) (axes : List AxisValue) (locale : ℕ) → length (part ranges axes locale) ≤ length (indices ranges)
unfolding part
part-small ranges axes locale = length-filter_le (λ t. owner axes t == locale) (indices ranges)

pub filter-every : {X : Type 0} (xs : List X) → filter (λ x. true) xs ≡ xs
filter-every [] = refl
filter-every (x ∷ xs) = ap (λ ys. x ∷ ys) (filter-every xs)

filter-nothing : {X : Type 0} (xs : List X) → filter (λ x. false) xs ≡ []
filter-nothing [] = refl
filter-nothing (x ∷ xs) = filter-nothing xs

-- what is owned of nothing
pub part-empty : (ranges : List RangeValue) (axes : List AxisValue) (locale : ℕ) → length (indices ranges) ≡ 0 → part ranges axes locale ≡ []
part-empty ranges axes locale none = nil_from_length (part ranges axes locale) (omega (arith, part-small ranges axes locale))

-- what is owned by a locale that owns no tuple
pub part-unowned : (ranges : List RangeValue) (axes : List AxisValue) (locale : ℕ) → ((t : List ℤ) → owner axes t ≡ locale → ⊥) → part ranges axes locale ≡ []
unfolding part
part-unowned ranges axes locale never =
    filter-alike (λ t. owner axes t == locale) (λ t. false) (indices ranges) (λ k t at. both_ways _ _ (λ h. absurd (never t (eqb-true _ _ h))) (λ h. absurd cc))
    ∙ filter-nothing (indices ranges)

-- the tuples of a domain of another rank than the map's go to 0
other-rank : (ranges : List RangeValue) (axes : List AxisValue) → (length ranges ≡ length axes → ⊥) → (k : ℕ) (t : List ℤ) → slice_get (indices ranges) k ≡ Some t → owner axes t ≡ 0
unfolding indices
other-rank ranges axes different k t at =
    let long = each-at (λ t. length t ≡ length (map members_of ranges)) (tuples (map members_of ranges)) (each-length (map members_of ranges)) k t at in
    owner-other axes t (λ same. different (sym (length-map ranges members_of) ∙ sym long ∙ same))

pub part-other_first : (ranges : List RangeValue) (axes : List AxisValue) → (length ranges ≡ length axes → ⊥) → indices ranges ≡ part ranges axes 0
unfolding part
part-other_first ranges axes different =
    sym (filter-alike (λ t. owner axes t == 0) (λ t. true) (indices ranges) (λ k t at. eq-eqb _ _ (other-rank ranges axes different k t at)) ∙ filter-every (indices ranges))

pub part-other_rest : (ranges : List RangeValue) (axes : List AxisValue) (locale : ℕ) → (length ranges ≡ length axes → ⊥) → (locale ≡ 0 → ⊥) → part ranges axes locale ≡ []
unfolding part
part-other_rest ranges axes locale different some =
    filter-alike (λ t. owner axes t == locale) (λ t. false) (indices ranges)
    (λ k t at. both_ways _ _ (λ h. absurd (some (sym (eqb-true _ _ h) ∙ other-rank ranges axes different k t at))) (λ h. absurd cc))
    ∙ filter-nothing (indices ranges)
