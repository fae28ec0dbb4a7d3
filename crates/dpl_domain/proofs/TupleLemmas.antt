-- The closed form of a domain's indices: how many there are, and which one stands at a place.
use Rattle.std.proofs.Common.{◌≡◌, ℕ, zero, suc, ◌+◌, ◌*◌, ◌<◌, ◌≤◌, List, [], ◌∷◌, ◌++◌, length, refl, ap, sym, ◌∙◌, arith, Option, Some, None, ℤ, pos, slice_get, map, drop, option_map, flat_map, length-append, ◌/◌, ◌%◌, ◌⊎◌, ⊎_elim}
use Rattle.std.proofs.lemmas.List.{length-map, append-nil}
use Rattle.std.proofs.lemmas.Option.{slice_get-map, slice_get_past, none-some, same_Some}
use Rattle.std.proofs.lemmas.Nat.{div-add-mod', mod_below}
use Rattle.std.proofs.Math.Nat.{suc-mul, add-mul, mul_assoc, mul-le-mul_right}
use Rattle.dpl_sets.specs.Members.{members}
use Rattle.dpl_sets.specs.Ranges.{RangeValue, members_of}
use Rattle.dpl_sets.specs.Indices.{tuples, indices}
use Rattle.dpl_domain.specs.DimensionFields.{fields_of-last_of}
use Rattle.dpl_domain.specs.DomainFields.{line_count, line_size}
use Rattle.dpl_domain.specs.Ranks.{last_of, point, IsFilled, IsPadded}

pub members-point : members (pos 0) (pos 0) (pos 1) ≡ pos 0 ∷ []
unfolding members
members-point = refl

-- of zero to three things, at least one is one to three
pub IsPadded-IsFilled : {A : Type 0} {unused : A} {rank : ℕ} {a b c : A} → 1 ≤ rank → IsFilled unused rank a b c → IsPadded unused rank a b
IsPadded-IsFilled from_one filled =
    record { from_one = from_one; to_three = filled.to_three; first = filled.first; second = filled.second }

pub IsFilled-IsPadded : {A : Type 0} {unused : A} {rank : ℕ} {a b c : A} → IsPadded unused rank a b → IsFilled unused rank a b c
IsFilled-IsPadded padded =
    record { to_three = padded.to_three; first = padded.first; second = padded.second; third = λ below. absurd (omega (arith, padded.from_one)) }

-- the sizes of the last two dimensions are those of the last two of three ranges
pub line_count-places : (rank : ℕ) (o m i : RangeValue) (ranges : List RangeValue) → IsFilled point rank o m i → ranges ≡ last_of rank o m i → line_count ranges ≡ length (members_of m)
line_count-places rank o m i ranges filled are =
    ap line_count are ∙ ap (λ f. length (members_of f.middle)) (fields_of-last_of point (record { rank = rank; outer = o; middle = m; inner = i }) filled)

pub line_size-places : (rank : ℕ) (o m i : RangeValue) (ranges : List RangeValue) → IsFilled point rank o m i → ranges ≡ last_of rank o m i → line_size ranges ≡ length (members_of i)
line_size-places rank o m i ranges filled are =
    ap line_size are ∙ ap (λ f. length (members_of f.inner)) (fields_of-last_of point (record { rank = rank; outer = o; middle = m; inner = i }) filled)

-- an element before a tuple, where both are there
abbrev pub cons_at : Option ℤ → Option (List ℤ) → Option (List ℤ)
cons_at None t = None
cons_at (Some i) t = option_map (λ t. i ∷ t) t

-- the last `rank` of three coordinates, where all are there
abbrev pub tuple_at : ℕ → Option ℤ → Option ℤ → Option ℤ → Option (List ℤ)
tuple_at rank (Some a) (Some b) (Some c) = Some (last_of rank a b c)
tuple_at rank None b c = None
tuple_at rank (Some a) None c = None
tuple_at rank (Some a) (Some b) None = None

slice_get-append_left : {X : Type 0} (xs ys : List X) (k : ℕ) → k < length xs → slice_get (xs ++ ys) k ≡ slice_get xs k
slice_get-append_left [] ys k within = absurd (omega arith)
slice_get-append_left (x ∷ xs) ys zero within = refl
slice_get-append_left (x ∷ xs) ys (suc k) within = slice_get-append_left xs ys k (omega arith)

slice_get-append_right : {X : Type 0} (xs ys : List X) (k : ℕ) → slice_get (xs ++ ys) (length xs + k) ≡ slice_get ys k
slice_get-append_right [] ys k = ap (slice_get ys) (omega arith)
slice_get-append_right (x ∷ xs) ys k =
    let e : suc (length xs) + k ≡ suc (length xs + k) = omega arith in
    rw e (slice_get-append_right xs ys k)

-- the rows that an element begins
pub length-rows : (is : List ℤ) (rows : List (List ℤ)) → length (flat_map (λ i. map (λ t. i ∷ t) rows) is) ≡ length is * length rows
length-rows [] rows = omega arith
length-rows (i ∷ is) rows =
    length-append (map (λ t. i ∷ t) rows) (flat_map (λ i. map (λ t. i ∷ t) rows) is)
    ∙ omega (arith, length-map rows (λ (t : List ℤ). i ∷ t), length-rows is rows, suc-mul (length is) (length rows))

pub slice_get-rows : (is : List ℤ) (rows : List (List ℤ)) (q r : ℕ) → r < length rows → slice_get (flat_map (λ i. map (λ t. i ∷ t) rows) is) (q * length rows + r) ≡ cons_at (slice_get is q) (slice_get rows r)
slice_get-rows [] rows q r within = refl
slice_get-rows (i ∷ is) rows zero r within =
    ap (slice_get (map (λ t. i ∷ t) rows ++ flat_map (λ i. map (λ t. i ∷ t) rows) is)) (omega arith)
    ∙ slice_get-append_left (map (λ t. i ∷ t) rows) _ r (omega (arith, length-map rows (λ (t : List ℤ). i ∷ t)))
    ∙ slice_get-map (λ t. i ∷ t) rows r
slice_get-rows (i ∷ is) rows (suc q) r within =
    ap (slice_get (map (λ t. i ∷ t) rows ++ flat_map (λ i. map (λ t. i ∷ t) rows) is))
    (omega (arith, length-map rows (λ (t : List ℤ). i ∷ t), suc-mul q (length rows)))
    ∙ slice_get-append_right (map (λ t. i ∷ t) rows) (flat_map (λ i. map (λ t. i ∷ t) rows) is) (q * length rows + r)
    ∙ slice_get-rows is rows q r within

-- how many tuples there are
pub length-line : (is : List ℤ) → length (tuples (is ∷ [])) ≡ length is
length-line is = length-rows is ([] ∷ []) ∙ omega arith

pub length-plane : (ms is : List ℤ) → length (tuples (ms ∷ is ∷ [])) ≡ length ms * length is
length-plane ms is = length-rows ms (tuples (is ∷ [])) ∙ ap (λ n. length ms * n) (length-line is)

pub length-space : (os ms is : List ℤ) → length (tuples (os ∷ ms ∷ is ∷ [])) ≡ length os * length ms * length is
length-space os ms is =
    length-rows os (tuples (ms ∷ is ∷ []))
    ∙ ap (λ n. length os * n) (length-plane ms is)
    ∙ sym (mul_assoc (length os) (length ms) (length is))

-- the tuple at a place of one, two or three
pub slice_get-line : (is : List ℤ) (r : ℕ) → slice_get (tuples (is ∷ [])) r ≡ cons_at (slice_get is r) (Some [])
slice_get-line is r = ap (slice_get (tuples (is ∷ []))) (omega arith) ∙ slice_get-rows is ([] ∷ []) r 0 (omega arith)

slice_get-plane : (ms is : List ℤ) (q r : ℕ) → r < length is → slice_get (tuples (ms ∷ is ∷ [])) (q * length is + r) ≡ cons_at (slice_get ms q) (cons_at (slice_get is r) (Some []))
slice_get-plane ms is q r within =
    ap (λ n. slice_get (tuples (ms ∷ is ∷ [])) (q * n + r)) (sym (length-line is))
    ∙ slice_get-rows ms (tuples (is ∷ [])) q r (omega (arith, length-line is))
    ∙ ap (cons_at (slice_get ms q)) (slice_get-line is r)

pub slice_get-space : (os ms is : List ℤ) (p q r : ℕ) → q < length ms → r < length is → slice_get (tuples (os ∷ ms ∷ is ∷ [])) ((p * length ms + q) * length is + r) ≡ tuple_at 3 (slice_get os p) (slice_get ms q) (slice_get is r)
slice_get-space os ms is p q r q_within r_within =
    ap (slice_get (tuples (os ∷ ms ∷ is ∷ []))) place
    ∙ slice_get-rows os (tuples (ms ∷ is ∷ [])) p (q * length is + r) (omega (arith, length-plane ms is, row_within))
    ∙ ap (cons_at (slice_get os p)) (slice_get-plane ms is q r r_within)
    ∙ joined (slice_get os p) (slice_get ms q) (slice_get is r)
  where
    row_within : q * length is + r < length ms * length is
    row_within = omega (arith, mul-le-mul_right {m = q + 1} {n = length ms} (length is) (omega arith), add-mul q 1 (length is))

    place : (p * length ms + q) * length is + r ≡ p * length (tuples (ms ∷ is ∷ [])) + (q * length is + r)
    place =
        omega (arith, add-mul (p * length ms) q (length is), mul_assoc p (length ms) (length is), ap (λ n. p * n) (length-plane ms is))

    joined : (a b c : Option ℤ) → cons_at a (cons_at b (cons_at c (Some []))) ≡ tuple_at 3 a b c
    joined None b c = refl
    joined (Some a) None c = refl
    joined (Some a) (Some b) None = refl
    joined (Some a) (Some b) (Some c) = refl

-- without the point in front of them the tuples lose their first coordinate
dropped : (rest : List (List ℤ)) (k : ℕ) → slice_get (tuples rest) k ≡ option_map (drop 1) (slice_get (tuples ((pos 0 ∷ []) ∷ rest)) k)
dropped rest k =
    go (slice_get (tuples rest) k)
    ∙ ap (option_map (drop 1)) (sym (slice_get-map (λ t. pos 0 ∷ t) (tuples rest) k))
    ∙ ap (λ ts. option_map (drop 1) (slice_get ts k)) (sym (append-nil (map (λ t. pos 0 ∷ t) (tuples rest))))
  where
    go : (t : Option (List ℤ)) → t ≡ option_map (drop 1) (option_map (λ t. pos 0 ∷ t) t)
    go None = refl
    go (Some t) = refl

drop_three : (a b c : Option ℤ) → option_map (drop 1) (tuple_at 3 a b c) ≡ tuple_at 2 a b c
drop_three None b c = refl
drop_three (Some a) None c = refl
drop_three (Some a) (Some b) None = refl
drop_three (Some a) (Some b) (Some c) = refl

drop_two : (a b c : Option ℤ) → option_map (drop 1) (tuple_at 2 a b c) ≡ tuple_at 1 a b c
drop_two None b c = refl
drop_two (Some a) None c = refl
drop_two (Some a) (Some b) None = refl
drop_two (Some a) (Some b) (Some c) = refl

pub point-members : (r : RangeValue) → r ≡ point → members_of r ≡ pos 0 ∷ []
point-members r is = ap members_of is ∙ members-point

-- the index at a place of a domain of any rank
pub slice_get-indices : (rank : ℕ) (o m i : RangeValue) (p q r : ℕ) → IsPadded point rank o m → q < length (members_of m) → r < length (members_of i) → slice_get (indices (last_of rank o m i)) ((p * length (members_of m) + q) * length (members_of i) + r) ≡ tuple_at rank (slice_get (members_of o) p) (slice_get (members_of m) q) (slice_get (members_of i) r)
unfolding indices
slice_get-indices zero o m i p q r padded q_within r_within = absurd (omega (arith, padded.from_one))
slice_get-indices (suc zero) o m i p q r padded q_within r_within =
    let k = (p * length (members_of m) + q) * length (members_of i) + r in
    let os = point-members o (padded.first (omega arith)) in
    let ms = point-members m (padded.second (omega arith)) in
    dropped (members_of i ∷ []) k
    ∙ ap (option_map (drop 1)) (dropped ((pos 0 ∷ []) ∷ members_of i ∷ []) k)
    ∙ ap (λ xs. option_map (drop 1) (option_map (drop 1) (slice_get (tuples (xs ∷ (pos 0 ∷ []) ∷ members_of i ∷ [])) k))) (sym os)
    ∙ ap (λ ys. option_map (drop 1) (option_map (drop 1) (slice_get (tuples (members_of o ∷ ys ∷ members_of i ∷ [])) k))) (sym ms)
    ∙ ap (λ t. option_map (drop 1) (option_map (drop 1) t)) (slice_get-space (members_of o) (members_of m) (members_of i) p q r q_within r_within)
    ∙ ap (option_map (drop 1)) (drop_three (slice_get (members_of o) p) (slice_get (members_of m) q) (slice_get (members_of i) r))
    ∙ drop_two (slice_get (members_of o) p) (slice_get (members_of m) q) (slice_get (members_of i) r)
slice_get-indices (suc (suc zero)) o m i p q r padded q_within r_within =
    let k = (p * length (members_of m) + q) * length (members_of i) + r in
    let os = point-members o (padded.first (omega arith)) in
    dropped (members_of m ∷ members_of i ∷ []) k
    ∙ ap (λ xs. option_map (drop 1) (slice_get (tuples (xs ∷ members_of m ∷ members_of i ∷ [])) k)) (sym os)
    ∙ ap (option_map (drop 1)) (slice_get-space (members_of o) (members_of m) (members_of i) p q r q_within r_within)
    ∙ drop_three (slice_get (members_of o) p) (slice_get (members_of m) q) (slice_get (members_of i) r)
slice_get-indices (suc (suc (suc zero))) o m i p q r padded q_within r_within = slice_get-space (members_of o) (members_of m) (members_of i) p q r q_within r_within
slice_get-indices (suc (suc (suc (suc n)))) o m i p q r padded q_within r_within = absurd (omega (arith, padded.to_three))

-- how many indices a domain has
pub length-indices : (rank : ℕ) (o m i : RangeValue) → IsPadded point rank o m → length (indices (last_of rank o m i)) ≡ length (members_of o) * length (members_of m) * length (members_of i)
unfolding indices
length-indices zero o m i padded = absurd (omega (arith, padded.from_one))
length-indices (suc zero) o m i padded =
    let os = ap length (point-members o (padded.first (omega arith))) in
    let ms = ap length (point-members m (padded.second (omega arith))) in
    length-line (members_of i) ∙ rw (os, ms) (omega arith)
length-indices (suc (suc zero)) o m i padded =
    let os = ap length (point-members o (padded.first (omega arith))) in
    length-plane (members_of m) (members_of i) ∙ rw os (ap (λ n. n * length (members_of i)) (omega arith))
length-indices (suc (suc (suc zero))) o m i padded = length-space (members_of o) (members_of m) (members_of i)
length-indices (suc (suc (suc (suc n)))) o m i padded = absurd (omega (arith, padded.to_three))

-- the same at any place, by division
pub slice_get-indices_at : (rank : ℕ) (o m i : RangeValue) (k : ℕ) → IsPadded point rank o m → 0 < length (members_of m) → 0 < length (members_of i) → slice_get (indices (last_of rank o m i)) k ≡ tuple_at rank (slice_get (members_of o) (k / length (members_of i) / length (members_of m))) (slice_get (members_of m) (k / length (members_of i) % length (members_of m))) (slice_get (members_of i) (k % length (members_of i)))
slice_get-indices_at rank o m i k padded lines line =
    let row = k / length (members_of i) in
    let split : row / length (members_of m) * length (members_of m) + row % length (members_of m) ≡ row = div-add-mod' row (length (members_of m)) in
    let whole : row * length (members_of i) + k % length (members_of i) ≡ k = div-add-mod' k (length (members_of i)) in
    ap (slice_get (indices (last_of rank o m i))) (sym whole ∙ ap (λ z. z * length (members_of i) + k % length (members_of i)) (sym split))
    ∙ slice_get-indices rank o m i (row / length (members_of m)) (row % length (members_of m)) (k % length (members_of i)) padded (mod_below row (length (members_of m)) lines) (mod_below k (length (members_of i)) line)

-- where a dimension is empty so is the domain
pub indices-empty : (rank : ℕ) (o m i : RangeValue) (k : ℕ) → IsPadded point rank o m → (length (members_of m) ≡ 0) ⊎ (length (members_of i) ≡ 0) → slice_get (indices (last_of rank o m i)) k ≡ None
indices-empty rank o m i k padded empty =
    slice_get_past (indices (last_of rank o m i)) k
    (⊎_elim
    (λ (none : length (members_of m) ≡ 0).
    let e : length (members_of o) * 0 * length (members_of i) ≡ 0 = omega arith in
    omega (arith, length-indices rank o m i padded ∙ ap (λ z. length (members_of o) * z * length (members_of i)) none ∙ e))
    (λ (none : length (members_of i) ≡ 0).
    omega (arith, length-indices rank o m i padded ∙ ap (λ z. length (members_of o) * length (members_of m) * z) none))
    empty)

-- the one member of the point is 0
point-member : (r : RangeValue) (k : ℕ) (a : ℤ) → r ≡ point → slice_get (members_of r) k ≡ Some a → a ≡ pos 0
point-member r k a is found = go k (ap (λ is. slice_get is k) (sym (point-members r is)) ∙ found)
  where
    go : (k : ℕ) → slice_get (pos 0 ∷ []) k ≡ Some a → a ≡ pos 0
    go zero here = cc
    go (suc k) later = absurd (let e : None ≡ Some a = later in cc)

-- so the coordinates of an index are padded as the ranges of its domain are
pub IsPadded-coordinates : (rank : ℕ) (o m : RangeValue) (p q : ℕ) (a b : ℤ) → IsPadded point rank o m → slice_get (members_of o) p ≡ Some a → slice_get (members_of m) q ≡ Some b → IsPadded (pos 0) rank a b
IsPadded-coordinates rank o m p q a b padded outer middle =
    record {
      from_one = padded.from_one;
      to_three = padded.to_three;
      first = λ below. point-member o p a (padded.first below) outer;
      second = λ below. point-member m q b (padded.second below) middle;
    }

-- a tuple is there where all its coordinates are
pub tuple_at-some : (rank : ℕ) (o m i : Option ℤ) (a b c : ℤ) → o ≡ Some a → m ≡ Some b → i ≡ Some c → tuple_at rank o m i ≡ Some (last_of rank a b c)
tuple_at-some rank o m i a b c outer middle inner =
    ap (λ x. tuple_at rank x m i) outer ∙ ap (λ y. tuple_at rank (Some a) y i) middle ∙ ap (λ z. tuple_at rank (Some a) (Some b) z) inner

pub tuple_at-no_outer : (rank : ℕ) (o m i : Option ℤ) → o ≡ None → tuple_at rank o m i ≡ None
tuple_at-no_outer rank o m i none = ap (λ x. tuple_at rank x m i) none

pub tuple_at-no_middle : (rank : ℕ) (o m i : Option ℤ) → m ≡ None → tuple_at rank o m i ≡ None
tuple_at-no_middle rank None m i none = refl
tuple_at-no_middle rank (Some a) m i none = ap (λ y. tuple_at rank (Some a) y i) none

pub tuple_at-no_inner : (rank : ℕ) (o m i : Option ℤ) → i ≡ None → tuple_at rank o m i ≡ None
tuple_at-no_inner rank None m i none = refl
tuple_at-no_inner rank (Some a) None i none = refl
tuple_at-no_inner rank (Some a) (Some b) i none = ap (λ z. tuple_at rank (Some a) (Some b) z) none

-- and all its coordinates are there where it is
pub tuple_at-parts : (rank : ℕ) (o m i : Option ℤ) (t : List ℤ) → tuple_at rank o m i ≡ Some t → (a : ℤ) × (b : ℤ) × (c : ℤ) × (o ≡ Some a) × (m ≡ Some b) × (i ≡ Some c) × (last_of rank a b c ≡ t)
tuple_at-parts rank None m i t there = absurd (none-some t there)
tuple_at-parts rank (Some a) None i t there = absurd (none-some t there)
tuple_at-parts rank (Some a) (Some b) None t there = absurd (none-some t there)
tuple_at-parts rank (Some a) (Some b) (Some c) t there = (a, b, c, refl, refl, refl, same_Some (last_of rank a b c) t there)

-- two padded tuples of one rank are equal only where all three numbers are
pub last_of-parts : (rank : ℕ) (a b c x y z : ℤ) → IsPadded (pos 0) rank a b → IsPadded (pos 0) rank x y → last_of rank a b c ≡ last_of rank x y z → (a ≡ x) × (b ≡ y) × (c ≡ z)
last_of-parts zero a b c x y z left right same = absurd (omega (arith, left.from_one))
last_of-parts (suc zero) a b c x y z left right same =
    (left.first (omega arith) ∙ sym (right.first (omega arith)), left.second (omega arith) ∙ sym (right.second (omega arith)), cc)
last_of-parts (suc (suc zero)) a b c x y z left right same = (left.first (omega arith) ∙ sym (right.first (omega arith)), cc, cc)
last_of-parts (suc (suc (suc zero))) a b c x y z left right same = (cc, cc, cc)
last_of-parts (suc (suc (suc (suc n)))) a b c x y z left right same = absurd (omega (arith, left.to_three))

-- two tuples are of one rank only where they are as long
pub length-last_of : {A : Type 0} (rank : ℕ) (a b c : A) → rank ≤ 3 → length (last_of rank a b c) ≡ rank
length-last_of zero a b c short = refl
length-last_of (suc zero) a b c short = refl
length-last_of (suc (suc zero)) a b c short = refl
length-last_of (suc (suc (suc zero))) a b c short = refl
length-last_of (suc (suc (suc (suc n)))) a b c short = absurd (omega arith)

-- where the three numbers have the places p, q and r, the index has the place that they make, and no other
pub place-indices : (rank : ℕ) (o m i : RangeValue) (k p q r : ℕ) → IsPadded point rank o m → q < length (members_of m) → r < length (members_of i) → 0 < length (members_of m) → (k / length (members_of i) / length (members_of m) ≡ p) → (k / length (members_of i) % length (members_of m) ≡ q) → (k % length (members_of i) ≡ r) → k ≡ (p * length (members_of m) + q) * length (members_of i) + r
place-indices rank o m i k p q r padded q_within r_within lines at_p at_q at_r =
    let row = k / length (members_of i) in
    let split : row / length (members_of m) * length (members_of m) + row % length (members_of m) ≡ row = div-add-mod' row (length (members_of m)) in
    let whole : row * length (members_of i) + k % length (members_of i) ≡ k = div-add-mod' k (length (members_of i)) in
    sym whole
    ∙ ap (λ z. z * length (members_of i) + k % length (members_of i)) (sym split)
    ∙ ap (λ z. (z * length (members_of m) + row % length (members_of m)) * length (members_of i) + k % length (members_of i)) at_p
    ∙ ap (λ z. (p * length (members_of m) + z) * length (members_of i) + k % length (members_of i)) at_q
    ∙ ap (λ z. (p * length (members_of m) + q) * length (members_of i) + z) at_r
