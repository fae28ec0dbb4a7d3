-- Pieces that are cut out of a list one after another, each with the elements of one number.
use Rattle.std.proofs.Common.{◌≡◌, ◌≢◌, ◌↔◌, Contains, ◌<◌, ◌≤◌, ◌+◌, ◌==◌, ◌&&◌, ℕ, zero, suc, Bool, true, false, List, [], ◌∷◌, ◌++◌, filter, length, slice_get, All, IfSome, nat_lt, if◌then◌else◌, refl, ap, sym, subst, ◌∙◌, arith, ⊎_elim}
use Rattle.std.proofs.lemmas.Bool.{cases_lt, cases_eq}
use Rattle.std.proofs.lemmas.Option.{IfSome_then}
use Rattle.std.proofs.lemmas.List.Elements.{All-nil, All-head, All-tail, All-push, All-weaker, All-contains}
use Rattle.dpl_map.specs.Cuts.{AreCut, AreSorted, behind}
use Rattle.dpl_map.proofs.ListLemmas.{All-each, All-filter_passed, All-passed, Contains-filter, Contains-filter_parts, Contains-nothing, filter-filter, filter-same, length-push, none-passed, slice_get-push, slice_get-push_past, slice_get-pushed, tells}

-- where no number lies between two bounds, the same ones are below each
pub filter-between_none : {X : Type 0} (num : X → ℕ) (xs : List X) (j k : ℕ) → j ≤ k → All (λ x. num x < k → num x < j) xs → filter (λ x. nat_lt (num x) j) xs ≡ filter (λ x. nat_lt (num x) k) xs
filter-between_none num xs j k before none =
    filter-same (λ x. nat_lt (num x) j) (λ x. nat_lt (num x) k) xs
    (All-weaker (λ x. num x < k → num x < j) (λ x. nat_lt (num x) j ≡ nat_lt (num x) k)
    (λ x passed.
    ⊎_elim
    (λ (less : num x < j). grind (arith, less, before))
    (λ past.
    ⊎_elim
    (λ less. let sooner = passed less in absurd (omega (arith, sooner, past)))
    (λ over. grind (arith, past, over))
    (cases_lt (num x) k))
    (cases_lt (num x) j))
    xs none)

and_false : (b : Bool) → (b && false) ≡ false
and_false true = refl
and_false false = refl

and_true : (b : Bool) → (b && true) ≡ b
and_true true = refl
and_true false = refl

module _ {X P : Type 0} (elements : P → List X) where
  -- nothing is cut out of nothing
  pub AreCut-none : AreCut elements [] []
  AreCut-none = record { number = λ x. 0; numbered = All-nil (λ x. 0 < 0); listed = λ k. tt }

  -- one piece is a cut of its own elements
  pub AreCut-one : (xs : List X) (p : P) → elements p ≡ xs → AreCut elements xs (p ∷ [])
  AreCut-one xs p lists = record { number = λ x. 0; numbered = All-each (λ x. 0 < 1) (λ x. omega arith) xs; listed = listed }
    where
      every : (ys : List X) → ys ≡ filter (λ x. 0 == 0) ys
      every [] = refl
      every (y ∷ ys) = ap (λ zs. y ∷ zs) (every ys)

      listed : (k : ℕ) → IfSome (slice_get (p ∷ []) k) (λ q. elements q ≡ filter (λ x. 0 == k) xs)
      listed zero = lists ∙ every xs
      listed (suc k) = tt

-- cuts in an order
module _ {X P : Type 0} (elements : P → List X) where
  -- nothing is cut out of nothing
  pub AreSorted-none : (before : X → X → Type 0) → AreSorted elements before [] []
  AreSorted-none before = record { cut = AreCut-none elements; sorted = λ x y x-in y-in. absurd (Contains-nothing x x-in) }

  -- one piece is a cut of its own elements, in each order that tells none of them apart
  pub AreSorted-one : (before : X → X → Type 0) (xs : List X) (p : P) → ((x y : X) → before x y → ⊥) → elements p ≡ xs → AreSorted elements before xs (p ∷ [])
  unfolding AreCut-one
  AreSorted-one before xs p same lists = record {
    cut = AreCut-one elements xs p lists;
    sorted = λ x y x-in y-in. ((λ less. absurd (omega (arith, less))), (λ sooner. absurd (same x y sooner)));
  }

  -- and so it is where it is left out because it has none
  pub AreSorted-behind_none : (before : X → X → Type 0) (xs ys : List X) (p : P) → ((x y : X) → before x y → ⊥) → elements p ≡ xs → elements p ≡ ys → AreSorted elements before xs (behind ys p [])
  AreSorted-behind_none before xs [] p same lists none = subst (λ zs. AreSorted elements before zs []) (sym none ∙ lists) (AreSorted-none before)
  AreSorted-behind_none before xs (y ∷ ys) p same lists some = AreSorted-one before xs p same lists

  -- an order that says the same of the elements is as good
  pub AreSorted-same : (before after : X → X → Type 0) (xs : List X) (pieces : List P) → ((x y : X) → Contains xs x → Contains xs y → before x y ↔ after x y) → AreSorted elements before xs pieces → AreSorted elements after xs pieces
  AreSorted-same before after xs pieces same are = record {
    cut = are.cut;
    sorted = λ x y x-in y-in.
        let first = are.sorted x y x-in y-in in
        let second = same x y x-in y-in in
        ((λ less. second.0 (first.0 less)), (λ sooner. first.1 (second.1 sooner)));
  }

  module _ (num : X → ℕ) (xs : List X) (pieces : List P) (k : ℕ) (p : P) (are : AreSorted elements (λ x y. num x < num y) (filter (λ x. nat_lt (num x) k) xs) pieces) (lists : elements p ≡ filter (λ x. num x == k) xs) where
    -- a piece without elements changes nothing
    AreSorted-empty : elements p ≡ [] → AreSorted elements (λ x y. num x < num y) (filter (λ x. nat_lt (num x) (k + 1)) xs) pieces
    AreSorted-empty none =
        subst (λ ys. AreSorted elements (λ x y. num x < num y) ys pieces)
        (filter-same (λ x. nat_lt (num x) k) (λ x. nat_lt (num x) (k + 1)) xs
        (All-weaker (λ x. (num x == k) ≡ false) (λ x. nat_lt (num x) k ≡ nat_lt (num x) (k + 1)) (λ x other. grind (arith, other)) xs (none-passed (λ x. num x == k) xs (sym lists ∙ none))))
        are

    -- those of numbers below k keep their piece, and those of k have the new one
    renumber : X → ℕ
    renumber x = if nat_lt (num x) k then are.cut.number x else length pieces

    renumber-below : (x : X) → nat_lt (num x) k ≡ true → renumber x ≡ are.cut.number x
    unfolding renumber
    renumber-below x below = rw below refl

    renumber-new : (x : X) → nat_lt (num x) k ≡ false → renumber x ≡ length pieces
    unfolding renumber
    renumber-new x new = rw new refl

    -- the numbers that were given are those of pieces
    given : All (λ x. nat_lt (num x) k ≡ true → are.cut.number x < length pieces) xs
    given = All-passed (λ x. are.cut.number x < length pieces) (λ x. nat_lt (num x) k) xs are.cut.numbered

    numbered-grown : All (λ x. renumber x < length (pieces ++ p ∷ [])) (filter (λ x. nat_lt (num x) (k + 1)) xs)
    numbered-grown =
        All-filter_passed (λ x. renumber x < length (pieces ++ p ∷ [])) (λ x. nat_lt (num x) (k + 1)) xs
        (All-weaker (λ x. nat_lt (num x) k ≡ true → are.cut.number x < length pieces) (λ x. nat_lt (num x) (k + 1) ≡ true → renumber x < length (pieces ++ p ∷ []))
        (λ x before _.
        ⊎_elim
        (λ below. let e = renumber-below x below in omega (arith, e, before below, length-push pieces p))
        (λ new. let e = renumber-new x new in omega (arith, e, length-push pieces p))
        (tells (nat_lt (num x) k)))
        xs given)

    -- an older piece lists what it listed
    older : (j : ℕ) → j < length pieces → filter (λ x. are.cut.number x == j) (filter (λ x. nat_lt (num x) k) xs) ≡ filter (λ x. renumber x == j) (filter (λ x. nat_lt (num x) (k + 1)) xs)
    older j within =
        filter-filter (λ x. are.cut.number x == j) (λ x. nat_lt (num x) k) xs
        ∙ filter-same (λ x. nat_lt (num x) k && (are.cut.number x == j)) (λ x. nat_lt (num x) (k + 1) && (renumber x == j)) xs
        (All-each (λ x. (nat_lt (num x) k && (are.cut.number x == j)) ≡ (nat_lt (num x) (k + 1) && (renumber x == j)))
        (λ x.
        ⊎_elim
        (λ below.
        let e : nat_lt (num x) (k + 1) ≡ true = grind (arith, below) in
        let left : (nat_lt (num x) k && (are.cut.number x == j)) ≡ (are.cut.number x == j) = ap (λ b. b && (are.cut.number x == j)) below in
        let right : (nat_lt (num x) (k + 1) && (renumber x == j)) ≡ (are.cut.number x == j) =
        ap (λ b. b && (renumber x == j)) e ∙ ap (λ n. n == j) (renumber-below x below) in
        left ∙ sym right)
        (λ new.
        let other : (length pieces == j) ≡ false = grind arith in
        let left : (nat_lt (num x) k && (are.cut.number x == j)) ≡ false = ap (λ b. b && (are.cut.number x == j)) new in
        let right : (nat_lt (num x) (k + 1) && (renumber x == j)) ≡ false =
        ap (λ n. nat_lt (num x) (k + 1) && (n == j)) (renumber-new x new) ∙ ap (λ b. nat_lt (num x) (k + 1) && b) other ∙ and_false (nat_lt (num x) (k + 1)) in
        left ∙ sym right)
        (tells (nat_lt (num x) k)))
        xs)
        ∙ sym (filter-filter (λ x. renumber x == j) (λ x. nat_lt (num x) (k + 1)) xs)

    -- and the new one lists the elements of number k
    newest : filter (λ x. num x == k) xs ≡ filter (λ x. renumber x == length pieces) (filter (λ x. nat_lt (num x) (k + 1)) xs)
    newest =
        filter-same (λ x. num x == k) (λ x. nat_lt (num x) (k + 1) && (renumber x == length pieces)) xs
        (All-weaker (λ x. nat_lt (num x) k ≡ true → are.cut.number x < length pieces) (λ x. (num x == k) ≡ (nat_lt (num x) (k + 1) && (renumber x == length pieces)))
        (λ x before.
        ⊎_elim
        (λ below.
        let other : (are.cut.number x == length pieces) ≡ false = grind (arith, before below) in
        let least : (num x == k) ≡ false = grind (arith, below) in
        let right : (nat_lt (num x) (k + 1) && (renumber x == length pieces)) ≡ false =
        ap (λ n. nat_lt (num x) (k + 1) && (n == length pieces)) (renumber-below x below) ∙ ap (λ b. nat_lt (num x) (k + 1) && b) other ∙ and_false (nat_lt (num x) (k + 1)) in
        least ∙ sym right)
        (λ new.
        let itself : (length pieces == length pieces) ≡ true = grind arith in
        let e : (num x == k) ≡ nat_lt (num x) (k + 1) = grind (arith, new) in
        let right : (nat_lt (num x) (k + 1) && (renumber x == length pieces)) ≡ nat_lt (num x) (k + 1) =
        ap (λ n. nat_lt (num x) (k + 1) && (n == length pieces)) (renumber-new x new) ∙ ap (λ b. nat_lt (num x) (k + 1) && b) itself ∙ and_true (nat_lt (num x) (k + 1)) in
        e ∙ sym right)
        (tells (nat_lt (num x) k)))
        xs given)
        ∙ sym (filter-filter (λ x. renumber x == length pieces) (λ x. nat_lt (num x) (k + 1)) xs)

    listed-grown : (j : ℕ) → IfSome (slice_get (pieces ++ p ∷ []) j) (λ q. elements q ≡ filter (λ x. renumber x == j) (filter (λ x. nat_lt (num x) (k + 1)) xs))
    listed-grown j =
        ⊎_elim
        (λ within. rw (slice_get-push pieces p j within) (IfSome_then (slice_get pieces j) (are.cut.listed j) (λ q e. e ∙ older j within)))
        (λ past.
        ⊎_elim
        (λ same.
        subst (λ i. IfSome (slice_get (pieces ++ p ∷ []) i) (λ q. elements q ≡ filter (λ x. renumber x == i) (filter (λ x. nat_lt (num x) (k + 1)) xs))) (sym same)
        (rw (slice_get-pushed pieces p) (lists ∙ newest)))
        (λ other. rw (slice_get-push_past pieces p j (omega (arith, other))) tt)
        (cases_eq j (length pieces)))
        (cases_lt j (length pieces))

    -- an element of the list, and its number
    element : (x : X) → Contains (filter (λ y. nat_lt (num y) (k + 1)) xs) x → Contains xs x × (num x < k + 1)
    element x x-in =
        let at = Contains-filter_parts (λ y. nat_lt (num y) (k + 1)) xs x x-in in
        (at.0, grind (arith, at.1))

    older-in : (x : X) → Contains xs x → nat_lt (num x) k ≡ true → Contains (filter (λ y. nat_lt (num y) k) xs) x
    older-in x x-in below = Contains-filter (λ y. nat_lt (num y) k) xs x below x-in

    older-below : (x : X) → Contains xs x → nat_lt (num x) k ≡ true → are.cut.number x < length pieces
    older-below x x-in below = All-contains (λ y. nat_lt (num y) k ≡ true → are.cut.number y < length pieces) xs x given x-in below

    sorted-grown : (x y : X) → Contains (filter (λ z. nat_lt (num z) (k + 1)) xs) x → Contains (filter (λ z. nat_lt (num z) (k + 1)) xs) y → (renumber x < renumber y) ↔ (num x < num y)
    sorted-grown x y x-in y-in =
        let x-at = element x x-in in
        let y-at = element y y-in in
        ⊎_elim
        (λ (x-below : nat_lt (num x) k ≡ true). ⊎_elim
        (λ (y-below : nat_lt (num y) k ≡ true).
        let before = are.sorted x y (older-in x x-at.0 x-below) (older-in y y-at.0 y-below) in
        let first = renumber-below x x-below in
        let second = renumber-below y y-below in
        ((λ less. before.0 (omega (arith, less, first, second))), (λ less. let sooner = before.1 less in omega (arith, sooner, first, second))))
        (λ (y-new : nat_lt (num y) k ≡ false).
        let first = renumber-below x x-below in
        let second = renumber-new y y-new in
        let within = older-below x x-at.0 x-below in
        let low : num x < k = grind (arith, x-below) in
        let high : k ≤ num y = grind (arith, y-new) in
        ((λ less. omega (arith, low, high)), (λ less. omega (arith, first, second, within))))
        (tells (nat_lt (num y) k)))
        (λ (x-new : nat_lt (num x) k ≡ false). ⊎_elim
        (λ (y-below : nat_lt (num y) k ≡ true).
        let first = renumber-new x x-new in
        let second = renumber-below y y-below in
        let within = older-below y y-at.0 y-below in
        let low : num y < k = grind (arith, y-below) in
        let high : k ≤ num x = grind (arith, x-new) in
        ((λ less. absurd (omega (arith, less, first, second, within))), (λ less. absurd (omega (arith, less, low, high)))))
        (λ (y-new : nat_lt (num y) k ≡ false).
        let first = renumber-new x x-new in
        let second = renumber-new y y-new in
        let low : k ≤ num x = grind (arith, x-new) in
        let high : k ≤ num y = grind (arith, y-new) in
        ((λ less. absurd (omega (arith, less, first, second))), (λ less. absurd (omega (arith, less, low, high, x-at.1, y-at.1)))))
        (tells (nat_lt (num y) k)))
        (tells (nat_lt (num x) k))

    pub AreSorted-more : AreSorted elements (λ x y. num x < num y) (filter (λ x. nat_lt (num x) (k + 1)) xs) (pieces ++ p ∷ [])
    AreSorted-more = record { cut = record { number = renumber; numbered = numbered-grown; listed = listed-grown }; sorted = sorted-grown }

    -- the cut with one more piece, where that has elements
    pub AreSorted-behind : AreSorted elements (λ x y. num x < num y) (filter (λ x. nat_lt (num x) (k + 1)) xs) (behind (elements p) p pieces)
    AreSorted-behind = go (elements p) refl
      where
        go : (ys : List X) → elements p ≡ ys → AreSorted elements (λ x y. num x < num y) (filter (λ x. nat_lt (num x) (k + 1)) xs) (behind ys p pieces)
        go [] none = AreSorted-empty none
        go (y ∷ ys) some = AreSorted-more

  -- where each piece has elements, each still does with one more put behind them
  pub All-behind : (p : P) (pieces : List P) → All (λ q. elements q ≢ []) pieces → All (λ q. elements q ≢ []) (behind (elements p) p pieces)
  All-behind p pieces some = go (elements p) refl
    where
      go : (xs : List X) → elements p ≡ xs → All (λ q. elements q ≢ []) (behind xs p pieces)
      go [] none = some
      go (x ∷ xs) is = All-push (λ q. elements q ≢ []) pieces p some (λ none. absurd (let e : x ∷ xs ≡ [] = sym is ∙ none in cc))

  -- where no number is below 0
  pub AreSorted-begin : (num : X → ℕ) (xs : List X) → AreSorted elements (λ x y. num x < num y) (filter (λ x. nat_lt (num x) 0) xs) []
  AreSorted-begin num xs = subst (λ ys. AreSorted elements (λ x y. num x < num y) ys []) (sym (none xs)) (AreSorted-none (λ x y. num x < num y))
    where
      none : (ys : List X) → filter (λ x. nat_lt (num x) 0) ys ≡ []
      none [] = refl
      none (y ∷ ys) = let e : nat_lt (num y) 0 ≡ false = grind arith in rw e (none ys)

  -- where all numbers are below k
  pub AreSorted-end : (num : X → ℕ) (xs : List X) (k : ℕ) (pieces : List P) → All (λ x. num x < k) xs → AreSorted elements (λ x y. num x < num y) (filter (λ x. nat_lt (num x) k) xs) pieces → AreSorted elements (λ x y. num x < num y) xs pieces
  AreSorted-end num xs k pieces below are = subst (λ ys. AreSorted elements (λ x y. num x < num y) ys pieces) (all xs below) are
    where
      all : (ys : List X) → All (λ x. num x < k) ys → filter (λ x. nat_lt (num x) k) ys ≡ ys
      all [] each = refl
      all (y ∷ ys) each =
          let e : nat_lt (num y) k ≡ true = grind (arith, All-head (λ x. num x < k) y ys each) in
          rw e (ap (λ zs. y ∷ zs) (all ys (All-tail (λ x. num x < k) y ys each)))
