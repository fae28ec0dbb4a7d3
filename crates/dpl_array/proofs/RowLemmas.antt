-- Where an index stands in the row of a part's domains.
-- A place in a domain is one in the row, and each place in the row is one of a domain.
use Rattle.std.proofs.Common.{◌≡◌, ◌↔◌, ◌<◌, ◌≤◌, ◌+◌, ◌-◌, ◌==◌, ℕ, zero, suc, ℤ, List, [], ◌∷◌, ◌++◌, length, length-append, filter, slice_get, get_or, Bool, true, false, cond, Option, Some, None, IfSome, All, take, refl, ap, sym, subst, ◌∙◌, arith, ⊎_elim}
use Rattle.std.specs.List.{sum_by}
use Rattle.std.proofs.lemmas.Bool.{cases_lt}
use Rattle.std.proofs.lemmas.List.{take_all, get_or_append_left, get_or_push}
use Rattle.std.proofs.lemmas.List.Sums.{sum_by-cons, sum_by_more, sum_by-take-le, length-filter, count_by-le-length}
use Rattle.std.proofs.lemmas.Option.{none-some, same_Some, some_pair_parts, slice_get_within, get_or_from_slice_get}
use Rattle.dpl_sets.specs.Ranges.{RangeValue}
use Rattle.dpl_sets.specs.Indices.{indices}
use Rattle.dpl_map.specs.Cuts.{AreCut}
use Rattle.dpl_map.specs.Maps.{AxisValue, owner}
use Rattle.dpl_map.specs.Orders.{IsAt, StandsInOne}
use Rattle.dpl_map.specs.Parts.{part}
use Rattle.dpl_array.specs.Rows.{row_of, start_of, StandsIn}

module _ {X : Type 0} where
  -- an element of the first of two lists
  pub slice_get-first : (xs ys : List X) (k : ℕ) → k < length xs → slice_get (xs ++ ys) k ≡ slice_get xs k
  slice_get-first [] ys k within = absurd (omega arith)
  slice_get-first (x ∷ xs) ys zero within = refl
  slice_get-first (x ∷ xs) ys (suc k) within = slice_get-first xs ys k (omega arith)

  -- and one of the second
  pub slice_get-second : (xs ys : List X) (k : ℕ) → slice_get (xs ++ ys) (length xs + k) ≡ slice_get ys k
  slice_get-second [] ys k = let e : 0 + k ≡ k = omega arith in ap (slice_get ys) e
  slice_get-second (x ∷ xs) ys k =
      let e : suc (length xs) + k ≡ suc (length xs + k) = omega arith in
      ap (slice_get (x ∷ xs ++ ys)) e ∙ slice_get-second xs ys k

start-more : (d : List RangeValue) (ds : List (List RangeValue)) (k : ℕ) → start_of (d ∷ ds) (suc k) ≡ length (indices d) + start_of ds k
start-more d ds k = sum_by-cons (λ e. length (indices e)) d (take k ds)

-- the place of an index in a domain is one in the row
pub row-at : (ds : List (List RangeValue)) (k j : ℕ) (t : List ℤ) → IsAt ds k j t → slice_get (row_of ds) (start_of ds k + j) ≡ Some t
row-at [] k j t at = absurd (none-some at.0 at.1)
row-at (d ∷ ds) zero j t at =
    let same : d ≡ at.0 = same_Some d at.0 at.1 in
    let found : slice_get (indices d) j ≡ Some t = ap (λ e. slice_get (indices e) j) same ∙ at.2 in
    let e : 0 + j ≡ j = omega arith in
    ap (slice_get (row_of (d ∷ ds))) e ∙ slice_get-first (indices d) (row_of ds) j (slice_get_within (indices d) j t found) ∙ found
row-at (d ∷ ds) (suc k) j t at =
    let e : start_of (d ∷ ds) (suc k) + j ≡ length (indices d) + (start_of ds k + j) = omega (arith, start-more d ds k) in
    ap (slice_get (row_of (d ∷ ds))) e ∙ slice_get-second (indices d) (row_of ds) (start_of ds k + j) ∙ row-at ds k j t at

-- and each place in the row is one of a domain
pub row-parts : (ds : List (List RangeValue)) (o : ℕ) (t : List ℤ) → slice_get (row_of ds) o ≡ Some t → (k : ℕ) × (j : ℕ) × IsAt ds k j t × (o ≡ start_of ds k + j)
row-parts [] o t found = absurd (none-some t found)
row-parts (d ∷ ds) o t found =
    ⊎_elim
    (λ first. (0, o, (d, refl, sym (slice_get-first (indices d) (row_of ds) o first) ∙ found), omega arith))
    (λ second.
    let e : length (indices d) + (o - length (indices d)) ≡ o = omega arith in
    let rest = row-parts ds (o - length (indices d)) t (sym (slice_get-second (indices d) (row_of ds) (o - length (indices d))) ∙ ap (slice_get (row_of (d ∷ ds))) e ∙ found) in
    (suc rest.0, rest.1, rest.2, omega (arith, start-more d ds rest.0, rest.3, e)))
    (cases_lt o (length (indices d)))

-- what a search for an index in the domains answers
abbrev pub Finds : List (List RangeValue) → List ℤ → Option (ℕ × ℕ) → Type 0
Finds ds t r = (k j : ℕ) → (r ≡ Some (k, j)) ↔ IsAt ds k j t

module _ (ds : List (List RangeValue)) (t : List ℤ) where
  -- no domain has an index that is not found
  pub row-none : Finds ds t None → (r : Option ℕ) → r ≡ None → (o : ℕ) → (r ≡ Some o) ↔ (slice_get (row_of ds) o ≡ Some t)
  row-none finds r none o = (
    (λ some. absurd (none-some o (sym none ∙ some))),
    (λ found. let at = row-parts ds o t found in absurd (none-some (at.0, at.1) ((finds at.0 at.1).1 at.2))),
  )

  -- the place of one that is found
  pub row-some : (n p : ℕ) → Finds ds t (Some (n, p)) → (s : ℕ) → s ≡ start_of ds n → (o : ℕ) → (Some (s + p) ≡ Some o) ↔ (slice_get (row_of ds) o ≡ Some t)
  row-some n p finds s start o = (
    (λ some.
        let e : start_of ds n + p ≡ o = ap (λ m. m + p) (sym start) ∙ same_Some (s + p) o some in
        ap (slice_get (row_of ds)) (sym e) ∙ row-at ds n p t ((finds n p).0 refl)),
    (λ found.
        let at = row-parts ds o t found in
        let same = some_pair_parts n at.0 p at.1 ((finds at.0 at.1).1 at.2) in
        ap Some (ap (λ m. m + p) (start ∙ ap (start_of ds) same.0) ∙ ap (λ m. start_of ds at.0 + m) same.1 ∙ sym at.3)),
  )

  -- it is a number of a domain, and within the row
  pub found-below : (n p : ℕ) → Finds ds t (Some (n, p)) → (n < length ds) × (start_of ds n + p < length (row_of ds))
  found-below n p finds =
      let at = (finds n p).0 refl in
      (slice_get_within ds n at.0 at.1, slice_get_within (row_of ds) (start_of ds n + p) t (row-at ds n p t at))

-- HOW LONG A ROW IS
pub length-row : (ds : List (List RangeValue)) → length (row_of ds) ≡ sum_by (λ d. length (indices d)) ds
length-row [] = refl
length-row (d ∷ ds) =
    length-append (indices d) (row_of ds) ∙ ap (λ n. length (indices d) + n) (length-row ds) ∙ sym (sum_by-cons (λ e. length (indices e)) d ds)

-- a domain's indices end where those of the next begin
pub start-next : (ds : List (List RangeValue)) (k : ℕ) (d : List RangeValue) → slice_get ds k ≡ Some d → start_of ds (k + 1) ≡ start_of ds k + length (indices d)
start-next ds k d found =
    sum_by_more (λ e. length (indices e)) ds k d (slice_get_within ds k d found)
    ∙ ap (λ e. start_of ds k + length (indices e)) (get_or_from_slice_get ds k d d found)

-- and within the row
pub start-within : (ds : List (List RangeValue)) (k : ℕ) → start_of ds k ≤ length (row_of ds)
start-within ds k = let le = sum_by-take-le (λ e. length (indices e)) ds k in omega (arith, le, length-row ds)

-- the last of them end with the row
pub start-end : (ds : List (List RangeValue)) → start_of ds (length ds) ≡ length (row_of ds)
start-end ds = ap (sum_by (λ e. length (indices e))) (take_all (length ds) ds (omega arith)) ∙ sym (length-row ds)

-- one start more
pub starts-push : (ds : List (List RangeValue)) (starts : List ℕ) (i s : ℕ) → length starts ≡ i → s ≡ start_of ds i → ((k : ℕ) → k < i → get_or starts k 0 ≡ start_of ds k) → (k : ℕ) → k < i + 1 → get_or (starts ++ s ∷ []) k 0 ≡ start_of ds k
starts-push ds starts i s long start before k below =
    ⊎_elim
    (λ (first : k < i). get_or_append_left starts (s ∷ []) 0 k (omega (arith, first, long)) ∙ before k first)
    (λ (last : i ≤ k).
    let same : i ≡ k = omega (arith, last, below) in
    get_or_push starts s 0 k (long ∙ same) ∙ start ∙ ap (start_of ds) same)
    (cases_lt k i)

-- THE ROW OF A PART
-- what a filter keeps stands in the list
pub filter-stands : {X : Type 0} (p : X → Bool) (xs : List X) (j : ℕ) (x : X) → slice_get (filter p xs) j ≡ Some x → StandsIn xs x
filter-stands p [] j x found = absurd (none-some x found)
filter-stands p (y ∷ xs) j x found = by (p y) j found (filter-stands p xs)
  where
    by : (b : Bool) (j : ℕ) → slice_get (cond b (y ∷ filter p xs) (filter p xs)) j ≡ Some x → ((i : ℕ) (z : _) → slice_get (filter p xs) i ≡ Some z → StandsIn xs z) → StandsIn (y ∷ xs) x
    by true zero found rest = (0, found)
    by true (suc j) found rest = let at = rest j x found in (suc at.0, at.1)
    by false j found rest = let at = rest j x found in (suc at.0, at.1)

-- the domains that are cut out of a part have its indices in their row, and no others
pub row-same : (ts : List (List ℤ)) (ds : List (List RangeValue)) → AreCut indices ts ds → All (StandsInOne ds) ts → (t : List ℤ) → StandsIn (row_of ds) t ↔ StandsIn ts t
row-same ts ds cut apart t = (
  (λ at.
      let parts = row-parts ds at.0 t at.1 in
      let domain = parts.2.0 in
      let lists : indices domain ≡ filter (λ x. cut.number x == parts.0) ts = subst (λ o. IfSome o (λ d. indices d ≡ filter (λ x. cut.number x == parts.0) ts)) parts.2.1 (cut.listed parts.0) in
      filter-stands (λ x. cut.number x == parts.0) ts parts.1 t (ap (λ us. slice_get us parts.1) (sym lists) ∙ parts.2.2)),
  (λ at.
      let one : StandsInOne ds t = subst (StandsInOne ds) (get_or_from_slice_get ts at.0 t t at.1) (apart at.0 t (slice_get_within ts at.0 t at.1)) in
      (start_of ds one.0 + one.1.0, row-at ds one.0 one.1.0 t one.1.1)),
)

-- a part is no longer than its domain
pub length-part : (ranges : List RangeValue) (axes : List AxisValue) (locale : ℕ) → length (part ranges axes locale) ≤ length (indices ranges)
unfolding part
length-part ranges axes locale =
    let n = length-filter (λ t. owner axes t == locale) (indices ranges) in
    let le = count_by-le-length (λ t. owner axes t == locale) (indices ranges) in
    omega (arith, n, le)

-- the row begins with the indices of the first domain
pub row-first : (ds : List (List RangeValue)) (d : List RangeValue) → slice_get ds 0 ≡ Some d → (k : ℕ) (t : List ℤ) → slice_get (indices d) k ≡ Some t → slice_get (row_of ds) k ≡ Some t
row-first [] d first k t found = absurd (none-some d first)
row-first (e ∷ ds) d first k t found =
    let here : slice_get (indices e) k ≡ Some t = ap (λ x. slice_get (indices x) k) (same_Some e d first) ∙ found in
    slice_get-first (indices e) (row_of ds) k (slice_get_within (indices e) k t here) ∙ here
