-- Lists: what a filter keeps, what a list has, and what stands where.
use Rattle.std.proofs.Common.{◌≡◌, ◌⊎◌, ◌<◌, ◌+◌, ◌&&◌, ℕ, zero, suc, Bool, true, false, cond, List, [], ◌∷◌, ◌++◌, filter, map, length, slice_get, get_or, All, Contains, Some, None, inl, inr, refl, ap, sym, subst, ◌∙◌, arith, ⊎_elim}
use Rattle.std.proofs.lemmas.List.Elements.{All-nil, All-cons, All-head, All-tail, All-contains, All-contains_itself, All-filter, filter_passes, Contains-get_or, Contains-append_right}
use Rattle.std.proofs.lemmas.Option.{get_or_from_slice_get, slice_get_within}
use Rattle.dpl_range.proofs.Lists.{filter-alike}

-- what holds of each element holds of the one at a place
pub All-slice_get : {X : Type 0} (P : X → Type 0) (xs : List X) (k : ℕ) (x : X) → All P xs → slice_get xs k ≡ Some x → P x
All-slice_get P xs k x all found = subst P (get_or_from_slice_get xs k x x found) (all k x (slice_get_within xs k x found))

-- a test is true or false
pub tells : (b : Bool) → (b ≡ true) ⊎ (b ≡ false)
tells true = inl refl
tells false = inr refl

module _ {X : Type 0} where
  -- a filter of a filter
  pub filter-filter : (p q : X → Bool) (xs : List X) → filter p (filter q xs) ≡ filter (λ x. q x && p x) xs
  filter-filter p q [] = refl
  filter-filter p q (x ∷ xs) =
      ⊎_elim
      (λ yes. rw yes (ap (λ ys. cond (p x) (x ∷ ys) ys) (filter-filter p q xs)))
      (λ no. rw no (filter-filter p q xs))
      (tells (q x))

  -- tests that agree on a list's elements keep the same ones
  pub filter-same : (p q : X → Bool) (xs : List X) → All (λ x. p x ≡ q x) xs → filter p xs ≡ filter q xs
  filter-same p q xs same = filter-alike p q xs (λ k x at. All-slice_get (λ y. p y ≡ q y) xs k x same at)

  pub All-each : (P : X → Type 0) → ((x : X) → P x) → (xs : List X) → All P xs
  All-each P each [] = All-nil P
  All-each P each (x ∷ xs) = All-cons P x xs (each x) (All-each P each xs)

  pub All-both : (P Q R : X → Type 0) → ((x : X) → P x → Q x → R x) → (xs : List X) → All P xs → All Q xs → All R xs
  All-both P Q R both [] ps qs = All-nil R
  All-both P Q R both (x ∷ xs) ps qs =
      All-cons R x xs (both x (All-head P x xs ps) (All-head Q x xs qs)) (All-both P Q R both xs (All-tail P x xs ps) (All-tail Q x xs qs))

  -- what holds of the elements that pass
  pub All-passed : (P : X → Type 0) (p : X → Bool) (xs : List X) → All P (filter p xs) → All (λ x. p x ≡ true → P x) xs
  All-passed P p [] all = All-nil (λ x. p x ≡ true → P x)
  All-passed P p (x ∷ xs) all =
      ⊎_elim
      (λ yes.
      let both : All P (x ∷ filter p xs) = subst (λ b. All P (cond b (x ∷ filter p xs) (filter p xs))) yes all in
      All-cons (λ y. p y ≡ true → P y) x xs (λ _. All-head P x (filter p xs) both) (All-passed P p xs (All-tail P x (filter p xs) both)))
      (λ no.
      let rest : All P (filter p xs) = subst (λ b. All P (cond b (x ∷ filter p xs) (filter p xs))) no all in
      All-cons (λ y. p y ≡ true → P y) x xs (λ yes. absurd (let e : true ≡ false = sym yes ∙ no in cc)) (All-passed P p xs rest))
      (tells (p x))

  pub All-filter_passed : (P : X → Type 0) (p : X → Bool) (xs : List X) → All (λ x. p x ≡ true → P x) xs → All P (filter p xs)
  All-filter_passed P p [] all = All-nil P
  All-filter_passed P p (x ∷ xs) all =
      let rest = All-filter_passed P p xs (All-tail (λ y. p y ≡ true → P y) x xs all) in
      ⊎_elim
      (λ yes. rw yes (All-cons P x (filter p xs) (All-head (λ y. p y ≡ true → P y) x xs all yes) rest))
      (λ no. rw no rest)
      (tells (p x))

  -- where nothing passes, the test is false everywhere
  pub none-passed : (p : X → Bool) (xs : List X) → filter p xs ≡ [] → All (λ x. p x ≡ false) xs
  none-passed p [] none = All-nil (λ x. p x ≡ false)
  none-passed p (x ∷ xs) none =
      ⊎_elim
      (λ yes. absurd (let e : x ∷ filter p xs ≡ [] = subst (λ b. cond b (x ∷ filter p xs) (filter p xs) ≡ []) yes none in cc))
      (λ no.
      let rest : filter p xs ≡ [] = subst (λ b. cond b (x ∷ filter p xs) (filter p xs) ≡ []) no none in
      All-cons (λ y. p y ≡ false) x xs no (none-passed p xs rest))
      (tells (p x))

module _ {X : Type 0} where
  -- what holds of whatever a list has holds of each of its elements
  pub All-members : (P : X → Type 0) (xs : List X) → ((x : X) → Contains xs x → P x) → All P xs
  All-members P xs each = λ k d within. each (get_or xs k d) (Contains-get_or xs k d within)

  pub Contains-here : (x : X) (xs : List X) → Contains (x ∷ xs) x
  Contains-here x xs = (0, omega arith, refl)

  pub Contains-later : (y : X) (xs : List X) (x : X) → Contains xs x → Contains (y ∷ xs) x
  Contains-later y xs x later = Contains-append_right (y ∷ []) xs x later

  pub Contains-cases : (y : X) (xs : List X) (x : X) → Contains (y ∷ xs) x → (y ≡ x) ⊎ Contains xs x
  Contains-cases y xs x (zero, within, is) = inl is
  Contains-cases y xs x (suc k, within, is) = inr (k, omega arith, is)

  pub Contains-nothing : (x : X) → Contains [] x → ⊥
  Contains-nothing x (k, within, is) = absurd (omega arith)

  -- what passes a test is kept by its filter
  pub Contains-filter : (p : X → Bool) (xs : List X) (x : X) → p x ≡ true → Contains xs x → Contains (filter p xs) x
  Contains-filter p [] x passes member = absurd (Contains-nothing x member)
  Contains-filter p (y ∷ ys) x passes member =
      ⊎_elim
      (λ here. let first : p y ≡ true = ap p here ∙ passes in rw first (subst (Contains (y ∷ filter p ys)) here (Contains-here y (filter p ys))))
      (λ later. kept (p y) (Contains-filter p ys x passes later))
      (Contains-cases y ys x member)
    where
      kept : (b : Bool) → Contains (filter p ys) x → Contains (cond b (y ∷ filter p ys) (filter p ys)) x
      kept true later = Contains-later y (filter p ys) x later
      kept false later = later

-- what a filter keeps is in the list and passes
pub Contains-filter_parts : {X : Type 0} (p : X → Bool) (xs : List X) (x : X) → Contains (filter p xs) x → Contains xs x × (p x ≡ true)
Contains-filter_parts p xs x member = (
  All-contains (Contains xs) (filter p xs) x (All-filter p (Contains xs) xs (All-contains_itself xs)) member,
  All-contains (λ y. p y ≡ true) (filter p xs) x (filter_passes p xs) member,
)

pub Contains-map : {X Y : Type 0} (f : X → Y) (xs : List X) (x : X) → Contains xs x → Contains (map f xs) (f x)
Contains-map f [] x member = absurd (Contains-nothing x member)
Contains-map f (y ∷ ys) x member =
    ⊎_elim
    (λ here. subst (λ z. Contains (f y ∷ map f ys) (f z)) here (Contains-here (f y) (map f ys)))
    (λ later. Contains-later (f y) (map f ys) (f x) (Contains-map f ys x later))
    (Contains-cases y ys x member)

-- and each value is that of an element
pub map-Contains : {X Y : Type 0} (f : X → Y) (xs : List X) (y : Y) → Contains (map f xs) y → (x : X) × Contains xs x × (f x ≡ y)
map-Contains f [] y member = absurd (Contains-nothing y member)
map-Contains f (x ∷ xs) y member =
    ⊎_elim
    (λ here. (x, Contains-here x xs, here))
    (λ later. let at = map-Contains f xs y later in (at.0, Contains-later x xs at.0 at.1, at.2))
    (Contains-cases (f x) (map f xs) y member)

-- the places of a list with one more element
pub slice_get-push : {P : Type 0} (ps : List P) (p : P) (k : ℕ) → k < length ps → slice_get (ps ++ p ∷ []) k ≡ slice_get ps k
slice_get-push [] p k within = absurd (omega arith)
slice_get-push (q ∷ ps) p zero within = refl
slice_get-push (q ∷ ps) p (suc k) within = slice_get-push ps p k (omega arith)

pub slice_get-pushed : {P : Type 0} (ps : List P) (p : P) → slice_get (ps ++ p ∷ []) (length ps) ≡ Some p
slice_get-pushed [] p = refl
slice_get-pushed (q ∷ ps) p = slice_get-pushed ps p

pub slice_get-push_past : {P : Type 0} (ps : List P) (p : P) (k : ℕ) → length ps < k → slice_get (ps ++ p ∷ []) k ≡ None
slice_get-push_past [] p zero past = absurd (omega arith)
slice_get-push_past [] p (suc k) past = refl
slice_get-push_past (q ∷ ps) p zero past = absurd (omega arith)
slice_get-push_past (q ∷ ps) p (suc k) past = slice_get-push_past ps p k (omega arith)

pub length-push : {P : Type 0} (ps : List P) (p : P) → length (ps ++ p ∷ []) ≡ length ps + 1
length-push [] p = refl
length-push (q ∷ ps) p = let e = length-push ps p in omega (arith, e)
