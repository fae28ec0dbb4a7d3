-- Every tuple has one owner, so each index of a domain is in one part.
use Rattle.std.proofs.Common.{◌≡◌, ℕ, zero, suc, ◌*◌, ◌<◌, List, [], ◌∷◌, length, refl, sym, ◌∙◌, arith, ℤ, pos, ⊎_elim, Contains, true, ◌==◌, eqb-true, eq-eqb}
use Rattle.std.proofs.lemmas.Bool.{cases_eq}
use Rattle.std.proofs.lemmas.List.Elements.{All-contains, filter_passes}
use Rattle.dpl_sets.specs.Ranges.{RangeValue}
use Rattle.dpl_sets.specs.Indices.{indices}
use Rattle.dpl_map.specs.Parts.{part}
use Rattle.dpl_domain.specs.Ranks.{last_of}
use Rattle.dpl_map.specs.MapFields.{IsMap}
use Rattle.dpl_map.specs.Maps.{AxisValue, owner}
use Rattle.dpl_map.proofs.AxisLemmas.{axis-below}
use Rattle.dpl_map.proofs.OwnerLemmas.{owner-padded, owner-other, locales-padded, locales-positive, length-last_of, row-below}
use Rattle.dpl_map.proofs.ListLemmas.{Contains-filter}

module _ (o m i : AxisValue) where
  -- a tuple of the map's rank is owned by a place of the map
  owner-ranked : (rank : ℕ) (t : List ℤ) → IsMap rank o m i → length t ≡ rank → owner (last_of rank o m i) t < o.extent * m.extent * i.extent
  unfolding owner
  owner-ranked zero [] is same = omega (arith, locales-positive 0 o m i is, locales-padded 0 o m i is)
  owner-ranked zero (z ∷ t) is same = absurd (omega arith)
  owner-ranked (suc zero) [] is same = absurd (omega arith)
  owner-ranked (suc zero) (z ∷ []) is same =
      rw (owner-padded 1 o m i (pos 0) (pos 0) z is (record { from_one = omega arith; to_three = omega arith; first = λ _. refl; second = λ _. refl }))
      (row-below o.extent m.extent i.extent _ _ _ (axis-below o (pos 0) is.outer_limits) (axis-below m (pos 0) is.middle_limits) (axis-below i z is.inner_limits))
  owner-ranked (suc zero) (y ∷ z ∷ t) is same = absurd (omega arith)
  owner-ranked (suc (suc zero)) [] is same = absurd (omega arith)
  owner-ranked (suc (suc zero)) (y ∷ []) is same = absurd (omega arith)
  owner-ranked (suc (suc zero)) (y ∷ z ∷ []) is same =
      rw (owner-padded 2 o m i (pos 0) y z is (record { from_one = omega arith; to_three = omega arith; first = λ _. refl; second = λ h. absurd (omega arith) }))
      (row-below o.extent m.extent i.extent _ _ _ (axis-below o (pos 0) is.outer_limits) (axis-below m y is.middle_limits) (axis-below i z is.inner_limits))
  owner-ranked (suc (suc zero)) (x ∷ y ∷ z ∷ t) is same = absurd (omega arith)
  owner-ranked (suc (suc (suc zero))) [] is same = absurd (omega arith)
  owner-ranked (suc (suc (suc zero))) (x ∷ []) is same = absurd (omega arith)
  owner-ranked (suc (suc (suc zero))) (x ∷ y ∷ []) is same = absurd (omega arith)
  owner-ranked (suc (suc (suc zero))) (x ∷ y ∷ z ∷ []) is same =
      rw (owner-padded 3 o m i x y z is (record { from_one = omega arith; to_three = omega arith; first = λ h. absurd (omega arith); second = λ h. absurd (omega arith) }))
      (row-below o.extent m.extent i.extent _ _ _ (axis-below o x is.outer_limits) (axis-below m y is.middle_limits) (axis-below i z is.inner_limits))
  owner-ranked (suc (suc (suc zero))) (w ∷ x ∷ y ∷ z ∷ t) is same = absurd (omega arith)
  owner-ranked (suc (suc (suc (suc n)))) t is same = absurd (omega (arith, is.to_three))

  -- and so is every other
  pub owner-below : (rank : ℕ) (t : List ℤ) → IsMap rank o m i → owner (last_of rank o m i) t < o.extent * m.extent * i.extent
  owner-below rank t is =
      let long = length-last_of rank o m i is.to_three in
      ⊎_elim
      (λ (same : length t ≡ rank). owner-ranked rank t is same)
      (λ (other : length t ≡ rank → ⊥).
      let none = owner-other (last_of rank o m i) t (λ same. other (same ∙ long)) in
      omega (arith, none, locales-positive rank o m i is, locales-padded rank o m i is))
      (cases_eq (length t) rank)

-- a tuple of a part is owned by its locale
pub part-owned : (ranges : List RangeValue) (axes : List AxisValue) (locale : ℕ) (t : List ℤ) → Contains (part ranges axes locale) t → owner axes t ≡ locale
unfolding part
part-owned ranges axes locale t member =
    eqb-true (owner axes t) locale (All-contains (λ u. (owner axes u == locale) ≡ true) _ t (filter_passes (λ t. owner axes t == locale) (indices ranges)) member)

-- so no tuple is in two parts
pub parts-apart : (ranges : List RangeValue) (axes : List AxisValue) (t : List ℤ) (j k : ℕ) → Contains (part ranges axes j) t → Contains (part ranges axes k) t → j ≡ k
parts-apart ranges axes t j k first second = sym (part-owned ranges axes j t first) ∙ part-owned ranges axes k t second

-- and each index of a domain is in the part of its owner
pub parts-together : (ranges : List RangeValue) (axes : List AxisValue) (t : List ℤ) → Contains (indices ranges) t → Contains (part ranges axes (owner axes t)) t
unfolding part
parts-together ranges axes t member =
    Contains-filter (λ u. owner axes u == owner axes t) (indices ranges) t (eq-eqb _ _ refl) member
