-- Lists read by places: a list that keeps each n-th element, a list in reverse, and a length that places tell.
use Rattle.std.proofs.Common.{◌≡◌, ℕ, zero, suc, ◌+◌, ◌-◌, ◌*◌, ◌<◌, List, [], ◌∷◌, length, reverse, get_or, refl, ap, sym, ◌∙◌, arith, Some, None, ℤ, slice_get, take, drop, ◌++◌, Bool, true, false, filter, cond, ◌↔◌}
use Rattle.std.proofs.lemmas.Option.{same_Some, slice_get-get_or, slice_get_within, get_or_from_slice_get}
use Rattle.std.proofs.lemmas.List.{get_or-reverse, length-reverse, drop_more, take_more}
use Rattle.std.proofs.Math.Nat.{suc-mul}
use Rattle.dpl_sets.specs.Members.{spaced}

-- the k-th kept element of a list
pub slice_get-spaced : (gap wait : ℕ) (is : List ℤ) (k : ℕ) → slice_get (spaced gap wait is) k ≡ slice_get is (wait + k * suc gap)
slice_get-spaced gap wait [] k = refl
slice_get-spaced gap zero (i ∷ is) zero = let e : 0 + 0 * suc gap ≡ 0 = omega arith in rw e
slice_get-spaced gap zero (i ∷ is) (suc k) =
    let e : 0 + suc k * suc gap ≡ suc (gap + k * suc gap) = omega (arith, suc-mul k (suc gap)) in
    rw e (slice_get-spaced gap gap is k)
slice_get-spaced gap (suc wait) (i ∷ is) k =
    let e : suc wait + k * suc gap ≡ suc (wait + k * suc gap) = omega arith in
    rw e (slice_get-spaced gap wait is k)

-- the k-th element from the end
pub slice_get-reverse : (is : List ℤ) (k : ℕ) → k < length is → slice_get (reverse is) k ≡ slice_get is (length is - 1 - k)
slice_get-reverse [] k within = absurd (omega arith)
slice_get-reverse (i ∷ is) k within =
    let a : slice_get (reverse (i ∷ is)) k ≡ Some (get_or (reverse (i ∷ is)) k i) =
    slice_get-get_or (reverse (i ∷ is)) k i (omega (arith, length-reverse (i ∷ is))) in
    let b : slice_get (i ∷ is) (length (i ∷ is) - 1 - k) ≡ Some (get_or (i ∷ is) (length (i ∷ is) - 1 - k) i) =
    slice_get-get_or (i ∷ is) (length (i ∷ is) - 1 - k) i (omega arith) in
    a ∙ ap Some (get_or-reverse (i ∷ is) k i within) ∙ sym b

-- a list is as long as its first place with no element
pub length-by_places : (is : List ℤ) (n : ℕ) → ((k : ℕ) → k < n → slice_get is k ≡ None → ⊥) → slice_get is n ≡ None → length is ≡ n
length-by_places [] zero within past = refl
length-by_places [] (suc n) within past = absurd (within 0 (omega arith) refl)
length-by_places (i ∷ is) zero within past = cc
length-by_places (i ∷ is) (suc n) within past =
    ap suc (length-by_places is n (λ k below none. within (suc k) (omega arith) none) past)

-- a walk by places takes the list's elements one by one
pub drop-slice_get : {X : Type 0} (xs : List X) (k : ℕ) (x : X) → slice_get xs k ≡ Some x → drop k xs ≡ x ∷ drop (k + 1) xs
drop-slice_get xs k x found =
    drop_more xs k x (slice_get_within xs k x found) ∙ ap (λ y. y ∷ drop (k + 1) xs) (get_or_from_slice_get xs k x x found)

pub take-slice_get : {X : Type 0} (xs : List X) (k : ℕ) (x : X) → slice_get xs k ≡ Some x → take (k + 1) xs ≡ take k xs ++ x ∷ []
take-slice_get xs k x found =
    take_more xs k x (slice_get_within xs k x found) ∙ ap (λ y. take k xs ++ y ∷ []) (get_or_from_slice_get xs k x x found)

-- two lists with the same element at each place, or none at both
pub same_places : (xs ys : List ℤ) → ((k : ℕ) → slice_get xs k ≡ slice_get ys k) → xs ≡ ys
same_places [] [] same = refl
same_places [] (y ∷ ys) same = absurd (let e : None ≡ Some y = same 0 in cc)
same_places (x ∷ xs) [] same = absurd (let e : Some x ≡ None = same 0 in cc)
same_places (x ∷ xs) (y ∷ ys) same =
    let heads : x ≡ y = same_Some x y (same 0) in
    let tails : xs ≡ ys = same_places xs ys (λ k. same (suc k)) in
    cc

-- to pass over some elements first is to drop them
pub spaced-drop : (gap wait : ℕ) (is : List ℤ) → spaced gap wait is ≡ spaced gap 0 (drop wait is)
spaced-drop gap zero is = refl
spaced-drop gap (suc wait) [] = refl
spaced-drop gap (suc wait) (i ∷ is) = spaced-drop gap wait is

-- what can't be true is false
pub false_unless : (b : Bool) → (b ≡ true → ⊥) → b ≡ false
false_unless true never = absurd (never refl)
false_unless false never = refl

-- a filter that passes one element in `suc gap`, the first of them at `wait`
pub filter-spaced : (test : ℤ → Bool) (gap wait : ℕ) (is : List ℤ) → ((k : ℕ) (i : ℤ) → slice_get is k ≡ Some i → (test i ≡ true) ↔ ((j : ℕ) × (k ≡ wait + j * suc gap))) → filter test is ≡ spaced gap wait is
filter-spaced test gap wait [] periodic = refl
filter-spaced test gap zero (i ∷ is) periodic =
    let here : test i ≡ true = (periodic 0 i refl).1 (0, omega arith) in
    let rest : filter test is ≡ spaced gap gap is =
    filter-spaced test gap gap is (λ k j found. (
      (λ passes. let h = (periodic (suc k) j found).0 passes in later k h.0 h.1),
      (λ h. (periodic (suc k) j found).1 (suc h.0, omega (arith, suc-mul h.0 (suc gap), h.1))),
    )) in
    rw here (ap (λ js. i ∷ js) rest)
  where
    later : (k j : ℕ) → suc k ≡ 0 + j * suc gap → (j' : ℕ) × (k ≡ gap + j' * suc gap)
    later k zero e = absurd (omega arith)
    later k (suc j) e = (j, omega (arith, suc-mul j (suc gap)))
filter-spaced test gap (suc wait) (i ∷ is) periodic =
    rw (false_unless (test i) (λ passes. let h = (periodic 0 i refl).0 passes in omega (arith, h.1)))
    (filter-spaced test gap wait is (λ k j found. (
      (λ passes. let h = (periodic (suc k) j found).0 passes in (h.0, omega (arith, h.1))),
      (λ h. (periodic (suc k) j found).1 (h.0, omega (arith, h.1))),
    )))

-- a filter that passes nothing
pub filter-none : (test : ℤ → Bool) (is : List ℤ) → ((k : ℕ) (i : ℤ) → slice_get is k ≡ Some i → test i ≡ true → ⊥) → filter test is ≡ []
filter-none test [] never = refl
filter-none test (i ∷ is) never =
    rw (false_unless (test i) (never 0 i refl)) (filter-none test is (λ k j found. never (suc k) j found))

-- tests that agree on each element of a list keep the same elements
pub filter-alike : {X : Type 0} (p q : X → Bool) (xs : List X) → ((k : ℕ) (x : X) → slice_get xs k ≡ Some x → p x ≡ q x) → filter p xs ≡ filter q xs
filter-alike p q [] alike = refl
filter-alike p q (x ∷ xs) alike =
    ap (λ b. cond b (x ∷ filter p xs) (filter p xs)) (alike 0 x refl)
    ∙ ap (λ ys. cond (q x) (x ∷ ys) ys) (filter-alike p q xs (λ k y at. alike (suc k) y at))
