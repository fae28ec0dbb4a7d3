-- The sizes of pieces that are cut out of a list, and the one piece that has an element.
use Rattle.std.proofs.Common.{◌≡◌, ◌<◌, ◌≤◌, ◌+◌, ◌==◌, ℕ, zero, suc, true, false, List, [], ◌∷◌, ℤ, filter, length, slice_get, get_or, take, Some, All, Contains, IfSome, nat_lt, refl, ap, sym, subst, ◌∙◌, arith, ⊎_elim}
use Rattle.std.specs.List.{sum_by}
use Rattle.std.proofs.lemmas.List.Sums.{sum_by_more}
use Rattle.std.proofs.lemmas.List.Elements.{All-contains, All-head, All-tail}
use Rattle.std.proofs.lemmas.Option.{get_or_from_slice_get}
use Rattle.dpl_sets.specs.Ranges.{RangeValue}
use Rattle.dpl_range.proofs.Ends.{slice_get-Contains}
use Rattle.dpl_sets.specs.Indices.{indices}
use Rattle.dpl_map.specs.Cuts.{AreCut}
use Rattle.dpl_map.specs.Orders.{StandsInOne}
use Rattle.dpl_map.proofs.ListLemmas.{tells, All-members, Contains-filter}
use Rattle.dpl_map.proofs.OrderLemmas.{cut-at}

-- there is an element at each place
at-within : {X : Type 0} (xs : List X) (k : ℕ) → k < length xs → (x : X) × (slice_get xs k ≡ Some x)
at-within [] k within = absurd (omega (arith, within))
at-within (x ∷ xs) zero within = (x, refl)
at-within (x ∷ xs) (suc k) within = at-within xs k (omega (arith, within))

take-whole : {X : Type 0} (xs : List X) → take (length xs) xs ≡ xs
take-whole [] = refl
take-whole (x ∷ xs) = ap (λ ys. x ∷ ys) (take-whole xs)

module _ {X : Type 0} (num : X → ℕ) where
  none-below : (xs : List X) → length (filter (λ x. nat_lt (num x) 0) xs) ≡ 0
  none-below [] = refl
  none-below (x ∷ xs) = let e : nat_lt (num x) 0 ≡ false = grind arith in rw e (none-below xs)

  all-below : (n : ℕ) (xs : List X) → All (λ x. num x < n) xs → length (filter (λ x. nat_lt (num x) n) xs) ≡ length xs
  all-below n [] below = refl
  all-below n (x ∷ xs) below =
      let e : nat_lt (num x) n ≡ true = grind (arith, All-head (λ x. num x < n) x xs below) in
      rw e (ap suc (all-below n xs (All-tail (λ x. num x < n) x xs below)))

  -- one number more
  one-more : (k : ℕ) (xs : List X) → length (filter (λ x. nat_lt (num x) (suc k)) xs) ≡ length (filter (λ x. nat_lt (num x) k) xs) + length (filter (λ x. num x == k) xs)
  one-more k [] = refl
  one-more k (x ∷ xs) =
      ⊎_elim
      (λ (low : nat_lt (num x) k ≡ true).
      let below : nat_lt (num x) (suc k) ≡ true = grind (arith, low) in
      let other : (num x == k) ≡ false = grind (arith, low) in
      rw (below, low, other) (let rest = one-more k xs in omega (arith, rest)))
      (λ (high : nat_lt (num x) k ≡ false).
      ⊎_elim
      (λ (same : (num x == k) ≡ true).
      let below : nat_lt (num x) (suc k) ≡ true = grind (arith, same) in
      rw (below, high, same) (let rest = one-more k xs in omega (arith, rest)))
      (λ (other : (num x == k) ≡ false).
      let past : nat_lt (num x) (suc k) ≡ false = grind (arith, high, other) in
      rw (past, high, other) (one-more k xs))
      (tells (num x == k)))
      (tells (nat_lt (num x) k))

module _ {X P : Type 0} (elements : P → List X) (xs : List X) (pieces : List P) (cut : AreCut elements xs pieces) where
  sizes-below : (k : ℕ) → k ≤ length pieces → sum_by (λ p. length (elements p)) (take k pieces) ≡ length (filter (λ x. nat_lt (cut.number x) k) xs)
  sizes-below zero within = sym (none-below cut.number xs)
  sizes-below (suc k) within =
      let at = at-within pieces k (omega (arith, within)) in
      let lists : elements at.0 ≡ filter (λ x. cut.number x == k) xs = subst (λ o. IfSome o (λ p. elements p ≡ filter (λ x. cut.number x == k) xs)) at.1 (cut.listed k) in
      let step = sum_by_more (λ p. length (elements p)) pieces k at.0 (omega (arith, within)) in
      let here : get_or pieces k at.0 ≡ at.0 = get_or_from_slice_get pieces k at.0 at.0 at.1 in
      let next : k + 1 ≡ suc k = omega arith in
      let taken : sum_by (λ p. length (elements p)) (take (suc k) pieces) ≡ sum_by (λ p. length (elements p)) (take k pieces) + length (elements (get_or pieces k at.0)) =
      subst (λ (m : ℕ). sum_by (λ p. length (elements p)) (take m pieces) ≡ sum_by (λ p. length (elements p)) (take k pieces) + length (elements (get_or pieces k at.0))) next step in
      let size : length (elements (get_or pieces k at.0)) ≡ length (filter (λ x. cut.number x == k) xs) = ap (λ p. length (elements p)) here ∙ ap length lists in
      omega (arith, taken, size, sizes-below k (omega (arith, within)), one-more cut.number k xs)

  -- the sizes of the pieces add up to the length of the list
  pub sizes : sum_by (λ p. length (elements p)) pieces ≡ length xs
  sizes =
      ap (λ ps. sum_by (λ p. length (elements p)) ps) (sym (take-whole pieces))
      ∙ sizes-below (length pieces) (omega arith)
      ∙ all-below cut.number (length pieces) xs cut.numbered

-- each tuple of a list stands in one of the domains that are cut out of it
pub in-one : (ts : List (List ℤ)) (domains : List (List RangeValue)) → AreCut indices ts domains → All (StandsInOne domains) ts
in-one ts domains cut = All-members (StandsInOne domains) ts one
  where
    one : (t : List ℤ) → Contains ts t → StandsInOne domains t
    one t member =
        let at = at-within domains (cut.number t) (All-contains (λ t. cut.number t < length domains) ts t cut.numbered member) in
        let lists : indices at.0 ≡ filter (λ u. cut.number u == cut.number t) ts = subst (λ o. IfSome o (λ d. indices d ≡ filter (λ u. cut.number u == cut.number t) ts)) at.1 (cut.listed (cut.number t)) in
        let kept = Contains-filter (λ u. cut.number u == cut.number t) ts t (grind arith) member in
        let place = slice_get-Contains (indices at.0) t (subst (λ us. Contains us t) (sym lists) kept) in
        (cut.number t, (place.0, (at.0, at.1, place.1)), (λ l there. sym (cut-at ts domains cut l there.0 t there.1).1))
