-- Products of lists, and so the indices of a domain.
use Rattle.std.proofs.Common.{◌≡◌, ℕ, zero, suc, List, [], ◌∷◌, refl, ap, sym, ◌∙◌, arith, ℤ, pos, map, flat_map}
use Rattle.dpl_sets.specs.Members.{members}
use Rattle.dpl_sets.specs.Ranges.{RangeValue, members_of}
use Rattle.dpl_sets.specs.Indices.{tuples, indices}
use Rattle.dpl_domain.specs.Ranks.{last_of, point, IsPadded}

-- a product with a list that is empty is empty
flat_map-nothing : (is : List ℤ) (f : ℤ → List (List ℤ)) → ((i : ℤ) → f i ≡ []) → flat_map f is ≡ []
flat_map-nothing [] f nothing = refl
flat_map-nothing (i ∷ is) f nothing = rw (nothing i) (flat_map-nothing is f nothing)

pub tuples-empty : (is : List ℤ) (rest : List (List ℤ)) → tuples rest ≡ [] → tuples (is ∷ rest) ≡ []
tuples-empty is rest empty = flat_map-nothing is (λ i. map (λ t. i ∷ t) (tuples rest)) (λ i. ap (map (λ t. i ∷ t)) empty)

tuples-empty_first : (is : List ℤ) (rest : List (List ℤ)) → is ≡ [] → tuples (is ∷ rest) ≡ []
tuples-empty_first is rest empty = ap (λ js. tuples (js ∷ rest)) empty

point-some : (r : RangeValue) → r ≡ point → members_of r ≡ [] → ⊥
unfolding members
point-some r is empty = let e : pos 0 ∷ [] ≡ [] = sym (ap members_of is) ∙ empty in cc

-- a domain with an index has a member in each dimension
pub inner-some : (rank : ℕ) (o m i : RangeValue) → IsPadded point rank o m → (indices (last_of rank o m i) ≡ [] → ⊥) → members_of i ≡ [] → ⊥
unfolding indices
inner-some zero o m i padded some empty = absurd (omega (arith, padded.from_one))
inner-some (suc zero) o m i padded some empty = some (tuples-empty_first (members_of i) [] empty)
inner-some (suc (suc zero)) o m i padded some empty = some (tuples-empty (members_of m) (members_of i ∷ []) (tuples-empty_first (members_of i) [] empty))
inner-some (suc (suc (suc zero))) o m i padded some empty =
    some (tuples-empty (members_of o) (members_of m ∷ members_of i ∷ []) (tuples-empty (members_of m) (members_of i ∷ []) (tuples-empty_first (members_of i) [] empty)))
inner-some (suc (suc (suc (suc n)))) o m i padded some empty = absurd (omega (arith, padded.to_three))

pub middle-some : (rank : ℕ) (o m i : RangeValue) → IsPadded point rank o m → (indices (last_of rank o m i) ≡ [] → ⊥) → members_of m ≡ [] → ⊥
unfolding indices
middle-some zero o m i padded some empty = absurd (omega (arith, padded.from_one))
middle-some (suc zero) o m i padded some empty = point-some m (padded.second (omega arith)) empty
middle-some (suc (suc zero)) o m i padded some empty = some (tuples-empty_first (members_of m) (members_of i ∷ []) empty)
middle-some (suc (suc (suc zero))) o m i padded some empty =
    some (tuples-empty (members_of o) (members_of m ∷ members_of i ∷ []) (tuples-empty_first (members_of m) (members_of i ∷ []) empty))
middle-some (suc (suc (suc (suc n)))) o m i padded some empty = absurd (omega (arith, padded.to_three))

pub outer-some : (rank : ℕ) (o m i : RangeValue) → IsPadded point rank o m → (indices (last_of rank o m i) ≡ [] → ⊥) → members_of o ≡ [] → ⊥
unfolding indices
outer-some zero o m i padded some empty = absurd (omega (arith, padded.from_one))
outer-some (suc zero) o m i padded some empty = point-some o (padded.first (omega arith)) empty
outer-some (suc (suc zero)) o m i padded some empty = point-some o (padded.first (omega arith)) empty
outer-some (suc (suc (suc zero))) o m i padded some empty = some (tuples-empty_first (members_of o) (members_of m ∷ members_of i ∷ []) empty)
outer-some (suc (suc (suc (suc n)))) o m i padded some empty = absurd (omega (arith, padded.to_three))
