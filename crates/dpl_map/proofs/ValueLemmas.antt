-- How many values a function has on a list: what a list that has them all is no shorter than.
use Rattle.std.proofs.Common.{◌≡◌, ◌<◌, ◌≤◌, ◌+◌, ◌-◌, ◌==◌, ℕ, zero, suc, Bool, true, false, cond, not, List, [], ◌∷◌, filter, map, length, All, AllPairs, Contains, nat_lt, ap, sym, subst, ◌∙◌, arith, ⊎_elim, eqb-true}
use Rattle.std.proofs.lemmas.List.{length-map}
use Rattle.std.proofs.lemmas.List.Elements.{All-head, All-tail, All-weaker, All-contains}
use Rattle.dpl_domain.proofs.PlaceLemmas.{length-filter_le}
use Rattle.dpl_map.specs.Cuts.{behind}
use Rattle.dpl_map.specs.Counts.{IsWithinValues}
use Rattle.dpl_map.proofs.CutLemmas.{filter-between_none}
use Rattle.dpl_map.proofs.ListLemmas.{All-filter_passed, All-members, All-passed, Contains-cases, Contains-filter, Contains-map, Contains-nothing, length-push, tells}

module _ {X Y : Type 0} (f : X → Y) where
  -- a longer list has no fewer values
  pub IsWithinValues-more : (xs ys : List X) (n : ℕ) → ((x : X) → Contains xs x → Contains ys x) → IsWithinValues f xs n → IsWithinValues f ys n
  IsWithinValues-more xs ys n among within =
      λ values has.
      within values (All-members (λ x. Contains values (f x)) xs (λ x member. All-contains (λ x. Contains values (f x)) ys x has (among x member)))

  -- a list has no more values than elements
  pub IsWithinValues-length : (xs : List X) (n : ℕ) → IsWithinValues f xs n → n ≤ length xs
  IsWithinValues-length xs n within =
      let few = within (map f xs) (All-members (λ x. Contains (map f xs) (f x)) xs (Contains-map f xs)) in
      omega (arith, few, length-map xs f)

  pub IsWithinValues-less : (xs : List X) (m n : ℕ) → m ≤ n → IsWithinValues f xs n → IsWithinValues f xs m
  IsWithinValues-less xs m n fewer within = λ values has. let few = within values has in omega (arith, fewer, few)

  pub IsWithinValues-none : (xs : List X) → IsWithinValues f xs 0
  IsWithinValues-none xs = λ values has. omega arith

  -- an element has a value
  pub IsWithinValues-one : (xs : List X) (x : X) → Contains xs x → IsWithinValues f xs 1
  IsWithinValues-one xs x member = λ values has. some values (All-contains (λ x. Contains values (f x)) xs x has member)
    where
      some : (values : List Y) → Contains values (f x) → 1 ≤ length values
      some [] none = absurd (Contains-nothing (f x) none)
      some (v ∷ values) member = omega arith

-- values that are worked out from others are no more than they
pub IsWithinValues-through : {X Y Z : Type 0} (f : X → Y) (g : X → Z) (h : Y → Z) (xs : List X) (n : ℕ) → All (λ x. h (f x) ≡ g x) xs → IsWithinValues g xs n → IsWithinValues f xs n
IsWithinValues-through f g h xs n same within =
    λ values has.
    let few = within (map h values)
    (All-members (λ x. Contains (map h values) (g x)) xs
    (λ x member.
    let is : h (f x) ≡ g x = All-contains (λ x. h (f x) ≡ g x) xs x same member in
    subst (Contains (map h values)) is (Contains-map h values (f x) (All-contains (λ x. Contains values (f x)) xs x has member)))) in
    omega (arith, few, length-map values h)

-- a list without one of its values is shorter
others : ℕ → List ℕ → List ℕ
others n values = filter (λ v. not (v == n)) values

length-others : (n : ℕ) (values : List ℕ) → Contains values n → length (others n values) + 1 ≤ length values
unfolding others
length-others n [] member = absurd (Contains-nothing n member)
length-others n (v ∷ values) member =
    ⊎_elim
    (λ (here : v ≡ n).
    let gone : not (v == n) ≡ false = grind (arith, here) in
    rw gone (let fewer = length-filter_le (λ v. not (v == n)) values in omega (arith, fewer)))
    (λ later. kept (not (v == n)) (length-others n values later))
    (Contains-cases v values n member)
  where
    kept : (b : Bool) → length (filter (λ v. not (v == n)) values) + 1 ≤ length values → length (cond b (v ∷ filter (λ v. not (v == n)) values) (filter (λ v. not (v == n)) values)) + 1 ≤ suc (length values)
    kept true fewer = omega arith
    kept false fewer = omega arith

Contains-others : (n : ℕ) (values : List ℕ) (v : ℕ) → (v ≡ n → ⊥) → Contains values v → Contains (others n values) v
unfolding others
Contains-others n values v other member =
    Contains-filter (λ v. not (v == n)) values v (grind (arith, other)) member

-- a function that takes no value twice has as many values as there are elements
pub IsWithinValues-apart : {X : Type 0} (f : X → ℕ) (xs : List X) → AllPairs (λ x y. f x ≡ f y → ⊥) xs → IsWithinValues f xs (length xs)
IsWithinValues-apart f [] apart = λ values has. omega arith
IsWithinValues-apart f (x ∷ xs) apart =
    λ values has.
    let later : AllPairs (λ x y. f x ≡ f y → ⊥) xs = λ j k d before within. apart (suc j) (suc k) d (omega (arith, before)) (omega (arith, within)) in
    let differs : All (λ y. f y ≡ f x → ⊥) xs = λ k d within. λ same. apart 0 (suc k) d (omega arith) (omega (arith, within)) (sym same) in
    let rest : All (λ y. Contains (others (f x) values) (f y)) xs =
    All-members (λ y. Contains (others (f x) values) (f y)) xs
    (λ y member.
    Contains-others (f x) values (f y) (All-contains (λ y. f y ≡ f x → ⊥) xs y differs member)
    (All-contains (λ y. Contains values (f y)) xs y (All-tail (λ y. Contains values (f y)) x xs has) member)) in
    let fewer = IsWithinValues-apart f xs later (others (f x) values) rest in
    omega (arith, fewer, length-others (f x) values (All-head (λ y. Contains values (f y)) x xs has))

-- the numbers below k in a list
abbrev count_below : ℕ → List ℕ → ℕ
count_below k values = length (filter (λ v. nat_lt v k) values)

count_below-counted : (k v : ℕ) (values : List ℕ) → nat_lt v k ≡ true → count_below k (v ∷ values) ≡ count_below k values + 1
count_below-counted k v values below =
    ap (λ b. length (cond b (v ∷ filter (λ v. nat_lt v k) values) (filter (λ v. nat_lt v k) values))) below ∙ omega arith

count_below-passed : (k v : ℕ) (values : List ℕ) → nat_lt v k ≡ false → count_below k (v ∷ values) ≡ count_below k values
count_below-passed k v values past = ap (λ b. length (cond b (v ∷ filter (λ v. nat_lt v k) values) (filter (λ v. nat_lt v k) values))) past

-- one number more to count
count_below-grows : (k : ℕ) (values : List ℕ) → count_below k values ≤ count_below (k + 1) values
count_below-grows k [] = omega arith
count_below-grows k (v ∷ values) =
    let rest = count_below-grows k values in
    ⊎_elim
    (λ below. omega (arith, rest, count_below-counted k v values below, count_below-counted (k + 1) v values (grind (arith, below))))
    (λ past.
    ⊎_elim
    (λ new. omega (arith, rest, count_below-passed k v values past, count_below-counted (k + 1) v values new))
    (λ still. omega (arith, rest, count_below-passed k v values past, count_below-passed (k + 1) v values still))
    (tells (nat_lt v (k + 1))))
    (tells (nat_lt v k))

count_below-later : (j k : ℕ) (values : List ℕ) → j ≤ k → count_below j values ≤ count_below k values
count_below-later j k values before = let same : j + (k - j) ≡ k = omega (arith, before) in subst (λ n. count_below j values ≤ count_below n values) same (go (k - j))
  where
    go : (d : ℕ) → count_below j values ≤ count_below (j + d) values
    go zero = let same : j ≡ j + 0 = omega arith in subst (λ n. count_below j values ≤ count_below n values) same (omega arith)
    go (suc d) =
        let next : j + d + 1 ≡ j + suc d = omega arith in
        subst (λ n. count_below j values ≤ count_below n values) next (let e = go d in omega (arith, e, count_below-grows (j + d) values))

-- and it is counted where it is in the list
count_below-more : (k : ℕ) (values : List ℕ) → Contains values k → count_below k values + 1 ≤ count_below (k + 1) values
count_below-more k [] member = absurd (Contains-nothing k member)
count_below-more k (v ∷ values) member =
    ⊎_elim
    (λ (here : v ≡ k).
    omega (arith, count_below-grows k values, count_below-passed k v values (grind (arith, here)), count_below-counted (k + 1) v values (grind (arith, here))))
    (λ later.
    let rest = count_below-more k values later in
    ⊎_elim
    (λ below. omega (arith, rest, count_below-counted k v values below, count_below-counted (k + 1) v values (grind (arith, below))))
    (λ past.
    ⊎_elim
    (λ new. omega (arith, rest, count_below-passed k v values past, count_below-counted (k + 1) v values new))
    (λ still. omega (arith, rest, count_below-passed k v values past, count_below-passed (k + 1) v values still))
    (tells (nat_lt v (k + 1))))
    (tells (nat_lt v k)))
    (Contains-cases v values k member)

-- a number is no more than the values below k that a function has on those elements where it is below k
abbrev pub IsWithinBelow : {X : Type 0} → (X → ℕ) → List X → ℕ → ℕ → Type 0
IsWithinBelow num xs k n = (values : List ℕ) → All (λ x. Contains values (num x)) (filter (λ x. nat_lt (num x) k) xs) → n ≤ count_below k values

module _ {X : Type 0} (num : X → ℕ) (xs : List X) where
  pub IsWithinBelow-begin : IsWithinBelow num xs 0 0
  IsWithinBelow-begin = λ values has. omega arith

  -- a piece with the elements of number k is one more, where it has some
  pub IsWithinBelow-behind : {P : Type 0} (pieces : List P) (k : ℕ) (p : P) (ys : List X) → IsWithinBelow num xs k (length pieces) → ys ≡ filter (λ x. num x == k) xs → IsWithinBelow num xs (k + 1) (length (behind ys p pieces))
  IsWithinBelow-behind pieces k p ys within lists =
      λ values has.
      let passed : All (λ x. nat_lt (num x) (k + 1) ≡ true → Contains values (num x)) xs = All-passed (λ x. Contains values (num x)) (λ x. nat_lt (num x) (k + 1)) xs has in
      let below : All (λ x. Contains values (num x)) (filter (λ x. nat_lt (num x) k) xs) =
      All-filter_passed (λ x. Contains values (num x)) (λ x. nat_lt (num x) k) xs
      (All-weaker (λ x. nat_lt (num x) (k + 1) ≡ true → Contains values (num x)) (λ x. nat_lt (num x) k ≡ true → Contains values (num x)) (λ x held less. held (grind (arith, less))) xs passed) in
      let before : length pieces ≤ count_below k values = within values below in
      let new : All (λ x. Contains values k) (filter (λ x. num x == k) xs) =
      All-filter_passed (λ x. Contains values k) (λ x. num x == k) xs
      (All-weaker (λ x. nat_lt (num x) (k + 1) ≡ true → Contains values (num x)) (λ x. (num x == k) ≡ true → Contains values k)
      (λ x held is. let e : num x ≡ k = eqb-true (num x) k is in subst (Contains values) e (held (grind (arith, e)))) xs passed) in
      go ys values before (subst (All (λ x. Contains values k)) (sym lists) new)
    where
      go : (ys : List X) (values : List ℕ) → length pieces ≤ count_below k values → All (λ x. Contains values k) ys → length (behind ys p pieces) ≤ count_below (k + 1) values
      go [] values before new = let e = count_below-grows k values in omega (arith, e, before)
      go (y ∷ ys) values before new =
          let e = count_below-more k values (All-head (λ x. Contains values k) y ys new) in
          omega (arith, e, before, length-push pieces p)

  -- a greater bound, where no number lies between
  pub IsWithinBelow-later : (j k n : ℕ) → j ≤ k → All (λ x. num x < k → num x < j) xs → IsWithinBelow num xs j n → IsWithinBelow num xs k n
  IsWithinBelow-later j k n before none within =
      λ values has.
      let few = within values (subst (All (λ x. Contains values (num x))) (sym (filter-between_none num xs j k before none)) has) in
      omega (arith, few, count_below-later j k values before)

  pub IsWithinBelow-end : (k n : ℕ) → IsWithinBelow num xs k n → IsWithinValues num xs n
  IsWithinBelow-end k n within =
      λ values has.
      let few = within values (All-filter_passed (λ x. Contains values (num x)) (λ x. nat_lt (num x) k) xs (All-weaker (λ x. Contains values (num x)) (λ x. nat_lt (num x) k ≡ true → Contains values (num x)) (λ x held _. held) xs has)) in
      omega (arith, few, length-filter_le (λ v. nat_lt v k) values)
