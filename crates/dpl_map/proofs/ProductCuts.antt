-- Products of ranges that are cut out of lists: each is cut out of the product of the lists.
use Rattle.std.proofs.Common.{◌≡◌, ◌⊎◌, ◌↔◌, ◌<ℤ◌, int_lt, Contains, map, flat_map, inl, inr, ◌<◌, ◌≤◌, ◌+◌, ◌*◌, ◌==◌, ◌&&◌, ℕ, zero, suc, Bool, true, false, ℤ, List, [], ◌∷◌, length, filter, slice_get, IfSome, Some, nat_lt, if◌then◌else◌, refl, ap, sym, subst, ◌∙◌, arith, ⊎_elim, eqb-true, eq-eqb}
use Rattle.std.specs.Cmp.{both_ways}
use Rattle.std.proofs.lemmas.Bool.{cases_lt, and_from, and_parts}
use Rattle.std.proofs.lemmas.Nat.{same_from_place, mul-add-lt}
use Rattle.std.proofs.lemmas.List.Elements.{All-weaker, All-contains, Contains-append_cases}
use Rattle.std.proofs.lemmas.Int.{ints}
use Rattle.std.proofs.lemmas.Option.{slice_get_within}
use Rattle.std.proofs.Math.Nat.{mul_comm, mul_assoc, add-mul, mul-le-mul_right}
use Rattle.dpl_sets.specs.Ranges.{RangeValue, members_of}
use Rattle.dpl_sets.specs.Indices.{tuples, indices}
use Rattle.dpl_domain.specs.Ranks.{last_of}
use Rattle.dpl_map.specs.Cuts.{AreCut, AreSorted}
use Rattle.dpl_map.specs.Orders.{IsBefore}
use Rattle.dpl_range.proofs.Lists.{filter-alike}
use Rattle.dpl_map.proofs.ProductLemmas.{tuples-empty}
use Rattle.dpl_map.proofs.PartLemmas.{all_pass, filter_each, filter-tuples, each-at, each-length}
use Rattle.dpl_domain.proofs.PlaceLemmas.{length-filter_le}
use Rattle.dpl_map.proofs.ListLemmas.{Contains-cases, Contains-here, Contains-later, Contains-nothing, map-Contains, filter-same, tells}

-- a cut whose numbers are those of pieces for every element, whether it is in the list or not
pub record IsCutWhole {X P : Type 0} (elements : P → List X) (xs : List X) (pieces : List P) : Type 0 where
  pub number : X → ℕ
  pub below : (x : X) → number x < length pieces
  pub listed : (k : ℕ) (p : P) → slice_get pieces k ≡ Some p → elements p ≡ filter (λ x. number x == k) xs

module _ {X P : Type 0} (elements : P → List X) (xs : List X) (pieces : List P) (some : 0 < length pieces) (cut : AreCut elements xs pieces) where
  bounded : X → ℕ
  bounded x = if nat_lt (cut.number x) (length pieces) then cut.number x else 0

  bounded-below : (x : X) → bounded x < length pieces
  unfolding bounded
  bounded-below x =
      ⊎_elim
      (λ yes. rw yes (grind (arith, yes)))
      (λ no. rw no some)
      (tells (nat_lt (cut.number x) (length pieces)))

  bounded-same : (x : X) → cut.number x < length pieces → bounded x ≡ cut.number x
  unfolding bounded
  bounded-same x within = let yes : nat_lt (cut.number x) (length pieces) ≡ true = grind (arith, within) in rw yes refl

  at-piece : (k : ℕ) (p : P) → slice_get pieces k ≡ Some p → elements p ≡ filter (λ x. cut.number x == k) xs
  at-piece k p found = subst (λ o. IfSome o (λ q. elements q ≡ filter (λ x. cut.number x == k) xs)) found (cut.listed k)

  pub AreCut-whole : IsCutWhole elements xs pieces
  AreCut-whole = record {
    number = bounded;
    below = bounded-below;
    listed = λ k p found.
        at-piece k p found
        ∙ filter-same (λ x. cut.number x == k) (λ x. bounded x == k) xs
        (All-weaker (λ x. cut.number x < length pieces) (λ x. (cut.number x == k) ≡ (bounded x == k))
        (λ x within. ap (λ n. n == k) (sym (bounded-same x within))) xs cut.numbered);
  }

-- in the same order
pub whole-sorted : {X P : Type 0} (elements : P → List X) (before : X → X → Type 0) (xs : List X) (pieces : List P) (some : 0 < length pieces) (are : AreSorted elements before xs pieces) (x y : X) → Contains xs x → Contains xs y → ((AreCut-whole elements xs pieces some are.cut).number x < (AreCut-whole elements xs pieces some are.cut).number y) ↔ before x y
unfolding AreCut-whole
whole-sorted elements before xs pieces some are x y x-in y-in =
    let first = bounded-same elements xs pieces some are.cut x (All-contains (λ x. are.cut.number x < length pieces) xs x are.cut.numbered x-in) in
    let second = bounded-same elements xs pieces some are.cut y (All-contains (λ x. are.cut.number x < length pieces) xs y are.cut.numbered y-in) in
    let sorted = are.sorted x y x-in y-in in
    ((λ less. sorted.0 (omega (arith, less, first, second))), (λ sooner. let less = sorted.1 sooner in omega (arith, less, first, second)))

-- of two numbers of which neither is less, one is the other
int-same : (u v : ℤ) → (u <ℤ v → ⊥) → (v <ℤ u → ⊥) → u ≡ v
int-same u v no_less no_more =
    ⊎_elim
    (λ (less : int_lt u v ≡ true). absurd (no_less (grind (arith, ints, less))))
    (λ (low : int_lt u v ≡ false). ⊎_elim
    (λ (more : int_lt v u ≡ true). absurd (no_more (grind (arith, ints, more))))
    (λ (high : int_lt v u ≡ false). grind (arith, ints, low, high))
    (tells (int_lt v u)))
    (tells (int_lt u v))

-- numbers of rows and places in them are less where the row is, or where it is the same one and the place is
pub row-less : (b b' c c' n : ℕ) (u v : ℤ) (Rest : Type 0) → c < n → c' < n → (b < b') ↔ (u <ℤ v) → (b' < b) ↔ (v <ℤ u) → (c < c') ↔ Rest → (b * n + c < b' * n + c') ↔ ((u <ℤ v) ⊎ ((u ≡ v) × Rest))
row-less b b' c c' n u v Rest within within' less more rest = (there, back)
  where
    no-less : b ≡ b' → u <ℤ v → ⊥
    no-less same sooner = let below = less.1 sooner in omega (arith, below, same)

    no-more : b ≡ b' → v <ℤ u → ⊥
    no-more same later = let above = more.1 later in omega (arith, above, same)

    there : b * n + c < b' * n + c' → (u <ℤ v) ⊎ ((u ≡ v) × Rest)
    there e =
        ⊎_elim
        (λ (first : b < b'). inl (less.0 first))
        (λ other. ⊎_elim
        (λ (second : b' < b). absurd (let steps : (b' + 1) * n ≤ b * n = mul-le-mul_right n (omega (arith, second)) in omega (arith, e, steps, add-mul b' 1 n, within')))
        (λ same.
        let is : b ≡ b' = omega (arith, other, same) in
        inr (int-same u v (no-less is) (no-more is), rest.0 (omega (arith, e, ap (λ x. x * n) is))))
        (cases_lt b' b))
        (cases_lt b b')

    back : (u <ℤ v) ⊎ ((u ≡ v) × Rest) → b * n + c < b' * n + c'
    back e =
        ⊎_elim
        (λ sooner. let steps : (b + 1) * n ≤ b' * n = mul-le-mul_right n (let below = less.1 sooner in omega (arith, below)) in omega (arith, steps, add-mul b 1 n, within))
        (λ (h : (u ≡ v) × Rest).
        ⊎_elim
        (λ (first : b < b'). absurd (let sooner = less.0 first in omega (arith, ints, sooner, h.0)))
        (λ other. ⊎_elim
        (λ (second : b' < b). absurd (let later = more.0 second in omega (arith, ints, later, h.0)))
        (λ same.
        let is : b ≡ b' = omega (arith, other, same) in
        let below = rest.1 h.1 in
        omega (arith, below, ap (λ x. x * n) is))
        (cases_lt b' b))
        (cases_lt b b'))
        e

-- a tuple of a product has an element of each list
pub tuples-parts : (is : List ℤ) (rest : List (List ℤ)) (t : List ℤ) → Contains (tuples (is ∷ rest)) t → (i : ℤ) × (u : List ℤ) × (t ≡ i ∷ u) × Contains is i × Contains (tuples rest) u
tuples-parts is rest t member = go is member
  where
    go : (js : List ℤ) → Contains (flat_map (λ i. map (λ t. i ∷ t) (tuples rest)) js) t → (i : ℤ) × (u : List ℤ) × (t ≡ i ∷ u) × Contains js i × Contains (tuples rest) u
    go [] none = absurd (Contains-nothing t none)
    go (j ∷ js) there =
        ⊎_elim
        (λ first. let at = map-Contains (λ t. j ∷ t) (tuples rest) t first in (j, at.0, sym at.2, Contains-here j js, at.1))
        (λ later. let at = go js later in (at.0, at.1, at.2, Contains-later j js at.0 at.3, at.4))
        (Contains-append_cases (map (λ t. j ∷ t) (tuples rest)) (flat_map (λ i. map (λ t. i ∷ t) (tuples rest)) js) t there)

nothing-left : (t : List ℤ) → Contains ([] ∷ []) t → t ≡ []
nothing-left t member = ⊎_elim (λ here. sym here) (λ later. absurd (Contains-nothing t later)) (Contains-cases [] [] t member)

-- nothing is cut into no pieces
pub AreCut-nothing : {X P : Type 0} (elements : P → List X) (xs : List X) (pieces : List P) → length pieces ≡ 0 → AreCut elements xs pieces → xs ≡ []
AreCut-nothing elements [] pieces none cut = refl
AreCut-nothing elements (x ∷ xs) pieces none cut = absurd (let e = cut.numbered 0 x (omega arith) in omega (arith, e, none))

module _ (xs ys zs : List ℤ) (ps qs rs : List RangeValue) (first : IsCutWhole members_of xs ps) (second : IsCutWhole members_of ys qs) (third : IsCutWhole members_of zs rs) where
  -- the number of a tuple's product; where a list in front has one range, its number is 0
  abbrev pub number-at : ℕ → List ℤ → ℕ
  number-at (suc zero) (z ∷ []) = third.number z
  number-at (suc (suc zero)) (y ∷ z ∷ []) = second.number y * length rs + third.number z
  number-at (suc (suc (suc zero))) (x ∷ y ∷ z ∷ []) = (first.number x * length qs + second.number y) * length rs + third.number z
  number-at _ _ = 0

  -- numbers are below how many products there are
  module _ (some : 0 < length ps * length qs * length rs) where
    row : (y z : ℤ) → second.number y * length rs + third.number z < length qs * length rs
    row y z = omega (arith, mul_comm (length rs) (length qs), mul-add-lt (second.number y) (length rs) (third.number z) (length qs) (second.below y) (third.below z))

    pub number-below : (rank : ℕ) → (rank < 3 → length ps ≡ 1) → (rank < 2 → length qs ≡ 1) → (t : List ℤ) → number-at rank t < length ps * length qs * length rs
    number-below zero one_first one_second t = some
    number-below (suc zero) one_first one_second [] = some
    number-below (suc zero) one_first one_second (z ∷ []) =
        rw (one_first (omega arith), one_second (omega arith)) (omega (arith, third.below z))
    number-below (suc zero) one_first one_second (y ∷ z ∷ t) = some
    number-below (suc (suc zero)) one_first one_second [] = some
    number-below (suc (suc zero)) one_first one_second (z ∷ []) = some
    number-below (suc (suc zero)) one_first one_second (y ∷ z ∷ []) =
        rw (one_first (omega arith)) (omega (arith, row y z))
    number-below (suc (suc zero)) one_first one_second (x ∷ y ∷ z ∷ t) = some
    number-below (suc (suc (suc zero))) one_first one_second [] = some
    number-below (suc (suc (suc zero))) one_first one_second (z ∷ []) = some
    number-below (suc (suc (suc zero))) one_first one_second (y ∷ z ∷ []) = some
    number-below (suc (suc (suc zero))) one_first one_second (x ∷ y ∷ z ∷ []) =
        let plane : first.number x * length qs + second.number y < length ps * length qs =
        omega (arith, mul_comm (length qs) (length ps), mul-add-lt (first.number x) (length qs) (second.number y) (length ps) (first.below x) (second.below y)) in
        omega (arith, mul_comm (length rs) (length ps * length qs), mul-add-lt (first.number x * length qs + second.number y) (length rs) (third.number z) (length ps * length qs) plane (third.below z))
    number-below (suc (suc (suc zero))) one_first one_second (w ∷ x ∷ y ∷ z ∷ t) = some
    number-below (suc (suc (suc (suc n)))) one_first one_second t = some

  -- the numbers of tuples rise row by row
  module _ (f g h : ℤ → ℤ) (first-sorted : (i j : ℤ) → Contains xs i → Contains xs j → (first.number i < first.number j) ↔ (f i <ℤ f j)) (second-sorted : (i j : ℤ) → Contains ys i → Contains ys j → (second.number i < second.number j) ↔ (g i <ℤ g j)) (third-sorted : (i j : ℤ) → Contains zs i → Contains zs j → (third.number i < third.number j) ↔ (h i <ℤ h j)) where
    line-sorted : (z z' : ℤ) → Contains zs z → Contains zs z' → (third.number z < third.number z') ↔ IsBefore (h ∷ []) (z ∷ []) (z' ∷ [])
    line-sorted z z' z-in z'-in =
        let sorted = third-sorted z z' z-in z'-in in
        ((λ less. inl (sorted.0 less)), (λ sooner. ⊎_elim (λ key. sorted.1 key) (λ (rest : (h z ≡ h z') × ⊥). absurd rest.1) sooner))

    plane-sorted : (y z y' z' : ℤ) → Contains ys y → Contains zs z → Contains ys y' → Contains zs z' → (second.number y * length rs + third.number z < second.number y' * length rs + third.number z') ↔ IsBefore (g ∷ h ∷ []) (y ∷ z ∷ []) (y' ∷ z' ∷ [])
    plane-sorted y z y' z' y-in z-in y'-in z'-in =
        row-less (second.number y) (second.number y') (third.number z) (third.number z') (length rs) (g y) (g y') (IsBefore (h ∷ []) (z ∷ []) (z' ∷ []))
        (third.below z) (third.below z') (second-sorted y y' y-in y'-in) (second-sorted y' y y'-in y-in) (line-sorted z z' z-in z'-in)

    space-sorted : (x y z x' y' z' : ℤ) → Contains xs x → Contains ys y → Contains zs z → Contains xs x' → Contains ys y' → Contains zs z' → ((first.number x * length qs + second.number y) * length rs + third.number z < (first.number x' * length qs + second.number y') * length rs + third.number z') ↔ IsBefore (f ∷ g ∷ h ∷ []) (x ∷ y ∷ z ∷ []) (x' ∷ y' ∷ z' ∷ [])
    space-sorted x y z x' y' z' x-in y-in z-in x'-in y'-in z'-in =
        let row : (y z : ℤ) → second.number y * length rs + third.number z < length qs * length rs =
        λ y z. omega (arith, mul_comm (length rs) (length qs), mul-add-lt (second.number y) (length rs) (third.number z) (length qs) (second.below y) (third.below z)) in
        let sorted =
        row-less (first.number x) (first.number x') (second.number y * length rs + third.number z) (second.number y' * length rs + third.number z') (length qs * length rs) (f x) (f x') (IsBefore (g ∷ h ∷ []) (y ∷ z ∷ []) (y' ∷ z' ∷ []))
        (row y z) (row y' z') (first-sorted x x' x-in x'-in) (first-sorted x' x x'-in x-in) (plane-sorted y z y' z' y-in z-in y'-in z'-in) in
        let here = number-rows (first.number x) (second.number y) (third.number z) in
        let there = number-rows (first.number x') (second.number y') (third.number z') in
        ((λ less. sorted.0 (omega (arith, less, here, there))), (λ sooner. let less = sorted.1 sooner in omega (arith, less, here, there)))
      where
        number-rows : (a b c : ℕ) → (a * length qs + b) * length rs + c ≡ a * (length qs * length rs) + (b * length rs + c)
        number-rows a b c = omega (arith, add-mul (a * length qs) b (length rs), mul_assoc a (length qs) (length rs))

    pub number-sorted : (rank : ℕ) → 1 ≤ rank → rank ≤ 3 → (s t : List ℤ) → Contains (tuples (last_of rank xs ys zs)) s → Contains (tuples (last_of rank xs ys zs)) t → (number-at rank s < number-at rank t) ↔ IsBefore (last_of rank f g h) s t
    number-sorted zero from to s t s-in t-in = absurd (omega (arith, from))
    number-sorted (suc zero) from to s t s-in t-in =
        let a = tuples-parts zs [] s s-in in
        let d = tuples-parts zs [] t t-in in
        let s-is : s ≡ a.0 ∷ [] = a.2 ∙ ap (λ u. a.0 ∷ u) (nothing-left a.1 a.4) in
        let t-is : t ≡ d.0 ∷ [] = d.2 ∙ ap (λ u. d.0 ∷ u) (nothing-left d.1 d.4) in
        rw (s-is, t-is) (line-sorted a.0 d.0 a.3 d.3)
    number-sorted (suc (suc zero)) from to s t s-in t-in =
        let a = tuples-parts ys (zs ∷ []) s s-in in
        let b = tuples-parts zs [] a.1 a.4 in
        let d = tuples-parts ys (zs ∷ []) t t-in in
        let e = tuples-parts zs [] d.1 d.4 in
        let s-is : s ≡ a.0 ∷ b.0 ∷ [] = a.2 ∙ ap (λ u. a.0 ∷ u) (b.2 ∙ ap (λ u. b.0 ∷ u) (nothing-left b.1 b.4)) in
        let t-is : t ≡ d.0 ∷ e.0 ∷ [] = d.2 ∙ ap (λ u. d.0 ∷ u) (e.2 ∙ ap (λ u. e.0 ∷ u) (nothing-left e.1 e.4)) in
        rw (s-is, t-is) (plane-sorted a.0 b.0 d.0 e.0 a.3 b.3 d.3 e.3)
    number-sorted (suc (suc (suc zero))) from to s t s-in t-in =
        let a = tuples-parts xs (ys ∷ zs ∷ []) s s-in in
        let b = tuples-parts ys (zs ∷ []) a.1 a.4 in
        let c = tuples-parts zs [] b.1 b.4 in
        let d = tuples-parts xs (ys ∷ zs ∷ []) t t-in in
        let e = tuples-parts ys (zs ∷ []) d.1 d.4 in
        let i = tuples-parts zs [] e.1 e.4 in
        let s-is : s ≡ a.0 ∷ b.0 ∷ c.0 ∷ [] = a.2 ∙ ap (λ u. a.0 ∷ u) (b.2 ∙ ap (λ u. b.0 ∷ u) (c.2 ∙ ap (λ u. c.0 ∷ u) (nothing-left c.1 c.4))) in
        let t-is : t ≡ d.0 ∷ e.0 ∷ i.0 ∷ [] = d.2 ∙ ap (λ u. d.0 ∷ u) (e.2 ∙ ap (λ u. e.0 ∷ u) (i.2 ∙ ap (λ u. i.0 ∷ u) (nothing-left i.1 i.4))) in
        rw (s-is, t-is) (space-sorted a.0 b.0 c.0 d.0 e.0 i.0 a.3 b.3 c.3 d.3 e.3 i.3)
    number-sorted (suc (suc (suc (suc n)))) from to s t s-in t-in = absurd (omega (arith, to))

  -- the product of three pieces lists the tuples of its number
  module _ (a b c : ℕ) (o m i : RangeValue) (o-at : slice_get ps a ≡ Some o) (m-at : slice_get qs b ≡ Some m) (i-at : slice_get rs c ≡ Some i) where
    abbrev tests : ℕ → List (ℤ → Bool)
    tests rank = last_of rank (λ x. first.number x == a) (λ y. second.number y == b) (λ z. third.number z == c)

    b-below : b < length qs
    b-below = slice_get_within qs b m m-at

    c-below : c < length rs
    c-below = slice_get_within rs c i i-at

    -- without the lists in front that have one range
    none-first : length ps ≡ 1 → a ≡ 0
    none-first one = omega (arith, slice_get_within ps a o o-at, one)

    none-second : length qs ≡ 1 → b ≡ 0
    none-second one = omega (arith, b-below, one)

    row-test : (y z : ℤ) → (second.number y * length rs + third.number z == b * length rs + c) ≡ ((second.number y == b) && (third.number z == c))
    row-test y z =
        both_ways (second.number y * length rs + third.number z == b * length rs + c) ((second.number y == b) && (third.number z == c))
        (λ h.
        let e = same_from_place (second.number y) (third.number z) b c (length rs) (third.below z) c-below (eqb-true _ _ h) in
        and_from (second.number y == b) (third.number z == c) (eq-eqb _ _ e.0) (eq-eqb _ _ e.1))
        (λ h.
        let e = and_parts (second.number y == b) (third.number z == c) h in
        eq-eqb _ _ (ap (λ n. n * length rs + third.number z) (eqb-true (second.number y) b e.0) ∙ ap (λ n. b * length rs + n) (eqb-true (third.number z) c e.1)))

    space-test : (x y z : ℤ) → ((first.number x * length qs + second.number y) * length rs + third.number z == (a * length qs + b) * length rs + c) ≡ ((first.number x == a) && ((second.number y == b) && (third.number z == c)))
    space-test x y z =
        both_ways ((first.number x * length qs + second.number y) * length rs + third.number z == (a * length qs + b) * length rs + c) ((first.number x == a) && ((second.number y == b) && (third.number z == c)))
        (λ h.
        let e = same_from_place (first.number x * length qs + second.number y) (third.number z) (a * length qs + b) c (length rs) (third.below z) c-below (eqb-true _ _ h) in
        let f = same_from_place (first.number x) (second.number y) a b (length qs) (second.below y) b-below e.0 in
        and_from (first.number x == a) ((second.number y == b) && (third.number z == c)) (eq-eqb _ _ f.0)
        (and_from (second.number y == b) (third.number z == c) (eq-eqb _ _ f.1) (eq-eqb _ _ e.1)))
        (λ h.
        let e = and_parts (first.number x == a) ((second.number y == b) && (third.number z == c)) h in
        let f = and_parts (second.number y == b) (third.number z == c) e.1 in
        eq-eqb _ _
        (ap (λ n. (n * length qs + second.number y) * length rs + third.number z) (eqb-true (first.number x) a e.0)
        ∙ ap (λ n. (a * length qs + n) * length rs + third.number z) (eqb-true (second.number y) b f.0)
        ∙ ap (λ n. (a * length qs + b) * length rs + n) (eqb-true (third.number z) c f.1)))

    and-true : (d : Bool) → d ≡ (d && true)
    and-true true = refl
    and-true false = refl

    number-tests : (rank : ℕ) → (rank < 3 → length ps ≡ 1) → (rank < 2 → length qs ≡ 1) → 1 ≤ rank → rank ≤ 3 → (t : List ℤ) → length t ≡ rank → (number-at rank t == (a * length qs + b) * length rs + c) ≡ all_pass (tests rank) t
    number-tests zero one_first one_second from to t same = absurd (omega arith)
    number-tests (suc zero) one_first one_second from to [] same = absurd (omega arith)
    number-tests (suc zero) one_first one_second from to (z ∷ []) same =
        let place : (a * length qs + b) * length rs + c ≡ c =
        ap (λ n. (n * length qs + b) * length rs + c) (none-first (one_first (omega arith))) ∙ ap (λ n. (0 * length qs + n) * length rs + c) (none-second (one_second (omega arith))) ∙ omega arith in
        ap (λ n. third.number z == n) place ∙ and-true (third.number z == c)
    number-tests (suc zero) one_first one_second from to (y ∷ z ∷ t) same = absurd (omega arith)
    number-tests (suc (suc zero)) one_first one_second from to [] same = absurd (omega arith)
    number-tests (suc (suc zero)) one_first one_second from to (z ∷ []) same = absurd (omega arith)
    number-tests (suc (suc zero)) one_first one_second from to (y ∷ z ∷ []) same =
        let place : (a * length qs + b) * length rs + c ≡ b * length rs + c =
        ap (λ n. (n * length qs + b) * length rs + c) (none-first (one_first (omega arith))) ∙ omega arith in
        ap (λ n. second.number y * length rs + third.number z == n) place ∙ row-test y z ∙ ap (λ d. (second.number y == b) && d) (and-true (third.number z == c))
    number-tests (suc (suc zero)) one_first one_second from to (x ∷ y ∷ z ∷ t) same = absurd (omega arith)
    number-tests (suc (suc (suc zero))) one_first one_second from to [] same = absurd (omega arith)
    number-tests (suc (suc (suc zero))) one_first one_second from to (z ∷ []) same = absurd (omega arith)
    number-tests (suc (suc (suc zero))) one_first one_second from to (y ∷ z ∷ []) same = absurd (omega arith)
    number-tests (suc (suc (suc zero))) one_first one_second from to (x ∷ y ∷ z ∷ []) same =
        space-test x y z ∙ ap (λ d. (first.number x == a) && ((second.number y == b) && d)) (and-true (third.number z == c))
    number-tests (suc (suc (suc zero))) one_first one_second from to (w ∷ x ∷ y ∷ z ∷ t) same = absurd (omega arith)
    number-tests (suc (suc (suc (suc n)))) one_first one_second from to t same = absurd (omega arith)

    numbered-tuples : (rank : ℕ) → (rank < 3 → length ps ≡ 1) → (rank < 2 → length qs ≡ 1) → 1 ≤ rank → rank ≤ 3 → (iss : List (List ℤ)) → length iss ≡ rank → length (tests rank) ≡ rank → tuples (filter_each (tests rank) iss) ≡ filter (λ t. number-at rank t == (a * length qs + b) * length rs + c) (tuples iss)
    numbered-tuples rank one_first one_second from to iss same tested =
        sym (filter-alike (λ t. number-at rank t == (a * length qs + b) * length rs + c) (all_pass (tests rank)) (tuples iss)
        (λ k t found. number-tests rank one_first one_second from to t (each-at (λ u. length u ≡ length iss) (tuples iss) (each-length iss) k t found ∙ same))
        ∙ filter-tuples (tests rank) iss (tested ∙ sym same))

    pub product-listed : (rank : ℕ) → (rank < 3 → length ps ≡ 1) → (rank < 2 → length qs ≡ 1) → 1 ≤ rank → rank ≤ 3 → indices (last_of rank o m i) ≡ filter (λ t. number-at rank t == (a * length qs + b) * length rs + c) (tuples (last_of rank xs ys zs))
    unfolding indices
    product-listed zero one_first one_second from to = absurd (omega arith)
    product-listed (suc zero) one_first one_second from to =
        rw (third.listed c i i-at) (numbered-tuples 1 one_first one_second from to (zs ∷ []) refl refl)
    product-listed (suc (suc zero)) one_first one_second from to =
        rw (second.listed b m m-at, third.listed c i i-at) (numbered-tuples 2 one_first one_second from to (ys ∷ zs ∷ []) refl refl)
    product-listed (suc (suc (suc zero))) one_first one_second from to =
        rw (first.listed a o o-at, second.listed b m m-at, third.listed c i i-at) (numbered-tuples 3 one_first one_second from to (xs ∷ ys ∷ zs ∷ []) refl refl)
    product-listed (suc (suc (suc (suc n)))) one_first one_second from to = absurd (omega arith)

-- where there are products at all, no list is empty
pub some-each : (a m n k : ℕ) → k < a * m * n → (0 < a) × (0 < m) × (0 < n)
some-each zero m n k below = absurd (omega (arith, below))
some-each (suc a) zero n k below = absurd (omega (arith, below, ap (λ z. z * n) (let e : suc a * 0 ≡ 0 = omega arith in e)))
some-each (suc a) (suc m) zero k below = absurd (omega (arith, below))
some-each (suc a) (suc m) (suc n) k below = (omega arith, omega arith, omega arith)

-- where there are none, one list is empty
none-one : (a m n : ℕ) → a * m * n ≡ 0 → (a ≡ 0) ⊎ ((m ≡ 0) ⊎ (n ≡ 0))
none-one zero m n none = inl refl
none-one (suc a) zero n none = inr (inl refl)
none-one (suc a) (suc m) zero none = inr (inr refl)
none-one (suc a) (suc m) (suc n) none = absurd (omega (arith, none))

-- lists that are cut into no products have no tuples
pub tuples-nothing : (xs ys zs : List ℤ) (ps qs rs : List RangeValue) → AreCut members_of xs ps → AreCut members_of ys qs → AreCut members_of zs rs → length ps * length qs * length rs ≡ 0 → (rank : ℕ) → (rank < 3 → length ps ≡ 1) → (rank < 2 → length qs ≡ 1) → 1 ≤ rank → rank ≤ 3 → tuples (last_of rank xs ys zs) ≡ []
tuples-nothing xs ys zs ps qs rs first second third none rank one_first one_second from to =
    ⊎_elim
    (λ e. no-first (AreCut-nothing members_of xs ps e first) rank (λ below. omega (arith, e, one_first below)) to)
    (⊎_elim
    (λ e. no-second (AreCut-nothing members_of ys qs e second) rank (λ below. omega (arith, e, one_second below)) to)
    (λ e. no-third (AreCut-nothing members_of zs rs e third) rank from to))
    (none-one (length ps) (length qs) (length rs) none)
  where
    no-first : xs ≡ [] → (r : ℕ) → (r < 3 → ⊥) → r ≤ 3 → tuples (last_of r xs ys zs) ≡ []
    no-first e zero never most = absurd (never (omega arith))
    no-first e (suc zero) never most = absurd (never (omega arith))
    no-first e (suc (suc zero)) never most = absurd (never (omega arith))
    no-first e (suc (suc (suc zero))) never most = rw e refl
    no-first e (suc (suc (suc (suc n)))) never most = absurd (omega (arith, most))

    no-second : ys ≡ [] → (r : ℕ) → (r < 2 → ⊥) → r ≤ 3 → tuples (last_of r xs ys zs) ≡ []
    no-second e zero never most = absurd (never (omega arith))
    no-second e (suc zero) never most = absurd (never (omega arith))
    no-second e (suc (suc zero)) never most = rw e refl
    no-second e (suc (suc (suc zero))) never most = tuples-empty xs (ys ∷ zs ∷ []) (rw e refl)
    no-second e (suc (suc (suc (suc n)))) never most = absurd (omega (arith, most))

    no-third : zs ≡ [] → (r : ℕ) → 1 ≤ r → r ≤ 3 → tuples (last_of r xs ys zs) ≡ []
    no-third e zero least most = absurd (omega (arith, least))
    no-third e (suc zero) least most = rw e refl
    no-third e (suc (suc zero)) least most = tuples-empty ys (zs ∷ []) (rw e refl)
    no-third e (suc (suc (suc zero))) least most = tuples-empty xs (ys ∷ zs ∷ []) (tuples-empty ys (zs ∷ []) (rw e refl))
    no-third e (suc (suc (suc (suc n)))) least most = absurd (omega (arith, most))

-- a product of three pieces has no more tuples than the lists have
pub length-product : (xs ys zs : List ℤ) (ps qs rs : List RangeValue) → AreCut members_of xs ps → AreCut members_of ys qs → AreCut members_of zs rs → (rank : ℕ) → (rank < 3 → length ps ≡ 1) → (rank < 2 → length qs ≡ 1) → 1 ≤ rank → rank ≤ 3 → (a b c : ℕ) (o m i : RangeValue) → slice_get ps a ≡ Some o → slice_get qs b ≡ Some m → slice_get rs c ≡ Some i → length (indices (last_of rank o m i)) ≤ length (tuples (last_of rank xs ys zs))
length-product xs ys zs ps qs rs first second third rank one_first one_second from to a b c o m i o-at m-at i-at =
    let x = AreCut-whole members_of xs ps (omega (arith, slice_get_within ps a o o-at)) first in
    let y = AreCut-whole members_of ys qs (omega (arith, slice_get_within qs b m m-at)) second in
    let z = AreCut-whole members_of zs rs (omega (arith, slice_get_within rs c i i-at)) third in
    let num = number-at xs ys zs ps qs rs x y z rank in
    omega
    (arith, ap length (product-listed xs ys zs ps qs rs x y z a b c o m i o-at m-at i-at rank one_first one_second from to), length-filter_le (λ t. num t == (a * length qs + b) * length rs + c) (tuples (last_of rank xs ys zs)))
