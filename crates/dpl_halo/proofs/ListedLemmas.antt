-- Which indices a list has, by a test and by places.
-- The test says yes exactly of what stands at a place of the list.
use Rattle.std.proofs.Common.{◌≡◌, ◌⊎◌, ◌||◌, ◌+◌, zero, suc, ℤ, List, [], ◌∷◌, ◌++◌, map, length, Bool, true, false, Some, inl, inr, refl, ap, sym, subst, ◌∙◌, ⊎_elim}
use Rattle.std.specs.List.{flat_map}
use Rattle.std.proofs.lemmas.Bool.{cases_Bool}
use Rattle.std.proofs.lemmas.Option.{none-some, same_Some, slice_get_within}
use Rattle.dpl_array.specs.Elements.{same_index}
use Rattle.dpl_array.specs.Rows.{StandsIn}
use Rattle.dpl_array.proofs.ElementLemmas.{same_index-refl, same_index-true, stands-later}
use Rattle.dpl_array.proofs.RowLemmas.{slice_get-first, slice_get-second}
use Rattle.dpl_halo.specs.Listed.{is_listed}

pub or-false : (b : Bool) → (b || false) ≡ b
or-false true = refl
or-false false = refl

pub or-true : (b : Bool) → (b || true) ≡ true
or-true true = refl
or-true false = refl

pub stands-listed : (ts : List (List ℤ)) (t : List ℤ) → StandsIn ts t → is_listed ts t ≡ true
stands-listed [] t at = absurd (none-some t at.1)
stands-listed (s ∷ ts) t (zero, found) = let same : same_index t s ≡ true = ap (same_index t) (same_Some s t found) ∙ same_index-refl t in rw same refl
stands-listed (s ∷ ts) t (suc k, found) = ap (λ b. same_index t s || b) (stands-listed ts t (k, found)) ∙ or-true (same_index t s)

pub listed-stands : (ts : List (List ℤ)) (t : List ℤ) → is_listed ts t ≡ true → StandsIn ts t
listed-stands [] t listed = absurd (let e : false ≡ true = listed in cc)
listed-stands (s ∷ ts) t listed = by (same_index t s) refl listed (listed-stands ts t)
  where
    by : (b : Bool) → same_index t s ≡ b → (b || is_listed ts t) ≡ true → (is_listed ts t ≡ true → StandsIn ts t) → StandsIn (s ∷ ts) t
    by true is passes rest = (0, ap Some (sym (same_index-true t s is)))
    by false is passes rest = stands-later s ts t (rest passes)

-- an index stands in a list, or not
pub stands-cases : (ts : List (List ℤ)) (t : List ℤ) → StandsIn ts t ⊎ (StandsIn ts t → ⊥)
stands-cases ts t =
    ⊎_elim
    (λ yes. inl (listed-stands ts t yes))
    (λ no. inr (λ at. absurd (let e : true ≡ false = sym (stands-listed ts t at) ∙ no in cc)))
    (cases_Bool (is_listed ts t))

-- two lists with an index, or without it, pass the same test
pub listed-alike : (ts us : List (List ℤ)) (t : List ℤ) → (StandsIn ts t → StandsIn us t) → (StandsIn us t → StandsIn ts t) → is_listed ts t ≡ is_listed us t
listed-alike ts us t into back =
    ⊎_elim
    (λ (at : StandsIn ts t). stands-listed ts t at ∙ sym (stands-listed us t (into at)))
    (λ (none : StandsIn ts t → ⊥). not-listed ts t none ∙ sym (not-listed us t (λ at. none (back at))))
    (stands-cases ts t)
  where
    not-listed : (ss : List (List ℤ)) (s : List ℤ) → (StandsIn ss s → ⊥) → is_listed ss s ≡ false
    not-listed ss s none = ⊎_elim (λ yes. absurd (none (listed-stands ss s yes))) (λ no. no) (cases_Bool (is_listed ss s))

-- two lists with the same indices
pub listed-same : (ts us : List (List ℤ)) → ((t : List ℤ) → StandsIn ts t → StandsIn us t) → ((t : List ℤ) → StandsIn us t → StandsIn ts t) → (t : List ℤ) → is_listed ts t ≡ is_listed us t
listed-same ts us into back t = listed-alike ts us t (into t) (back t)

-- one index more
pub listed-push : (ts : List (List ℤ)) (u t : List ℤ) → is_listed (ts ++ u ∷ []) t ≡ (is_listed ts t || same_index t u)
listed-push [] u t = or-false (same_index t u)
listed-push (s ∷ ts) u t = ap (λ b. same_index t s || b) (listed-push ts u t) ∙ turn (same_index t s) (is_listed ts t) (same_index t u)
  where
    turn : (a b c : Bool) → (a || (b || c)) ≡ ((a || b) || c)
    turn true b c = refl
    turn false b c = refl

-- WHAT STANDS IN LISTS THAT ARE MADE OF OTHERS
module _ {X : Type 0} where
  pub stands-first : (xs ys : List X) (x : X) → StandsIn xs x → StandsIn (xs ++ ys) x
  stands-first xs ys x at = (at.0, slice_get-first xs ys at.0 (slice_get_within xs at.0 x at.1) ∙ at.1)

  pub stands-second : (xs ys : List X) (x : X) → StandsIn ys x → StandsIn (xs ++ ys) x
  stands-second xs ys x at = (length xs + at.0, slice_get-second xs ys at.0 ∙ at.1)

  pub stands-either : (xs ys : List X) (x : X) → StandsIn (xs ++ ys) x → StandsIn xs x ⊎ StandsIn ys x
  stands-either [] ys x at = inr at
  stands-either (y ∷ xs) ys x (zero, found) = inl (0, found)
  stands-either (y ∷ xs) ys x (suc k, found) =
      ⊎_elim
      (λ (at : StandsIn xs x). inl (suc at.0, at.1))
      (λ (at : StandsIn ys x). inr at)
      (stands-either xs ys x (k, found))

module _ {X Y : Type 0} (f : X → List Y) where
  pub stands-flat : (xs : List X) (x : X) (y : Y) → StandsIn xs x → StandsIn (f x) y → StandsIn (flat_map f xs) y
  stands-flat [] x y at here = absurd (none-some x at.1)
  stands-flat (z ∷ xs) x y (zero, found) here = stands-first (f z) (flat_map f xs) y (subst (λ w. StandsIn (f w) y) (sym (same_Some z x found)) here)
  stands-flat (z ∷ xs) x y (suc k, found) here = stands-second (f z) (flat_map f xs) y (stands-flat xs x y (k, found) here)

  pub flat-stands : (xs : List X) (y : Y) → StandsIn (flat_map f xs) y → (x : X) × StandsIn xs x × StandsIn (f x) y
  flat-stands [] y at = absurd (none-some y at.1)
  flat-stands (z ∷ xs) y at =
      ⊎_elim
      (λ (here : StandsIn (f z) y). (z, (0, refl), here))
      (λ (later : StandsIn (flat_map f xs) y). let rest = flat-stands xs y later in (rest.0, (suc rest.1.0, rest.1.1), rest.2))
      (stands-either (f z) (flat_map f xs) y at)

module _ {X Y : Type 0} (f : X → Y) where
  pub stands-map : (xs : List X) (x : X) → StandsIn xs x → StandsIn (map f xs) (f x)
  stands-map [] x at = absurd (none-some x at.1)
  stands-map (z ∷ xs) x (zero, found) = (0, ap (λ w. Some (f w)) (same_Some z x found))
  stands-map (z ∷ xs) x (suc k, found) = let rest = stands-map xs x (k, found) in (suc rest.0, rest.1)

  pub map-stands : (xs : List X) (y : Y) → StandsIn (map f xs) y → (x : X) × StandsIn xs x × (f x ≡ y)
  map-stands [] y at = absurd (none-some y at.1)
  map-stands (z ∷ xs) y (zero, found) = (z, (0, refl), same_Some (f z) y found)
  map-stands (z ∷ xs) y (suc k, found) = let rest = map-stands xs y (k, found) in (rest.0, (suc rest.1.0, rest.1.1), rest.2)
