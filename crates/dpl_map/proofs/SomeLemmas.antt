-- Products of ranges with members have tuples.
use Rattle.std.proofs.Common.{◌≢◌, ℕ, zero, suc, List, [], ◌∷◌, ℤ, map, flat_map, refl}
use Rattle.dpl_sets.specs.Ranges.{RangeValue, members_of}
use Rattle.dpl_sets.specs.Indices.{tuples, indices}
use Rattle.dpl_domain.specs.Ranks.{last_of}
use Rattle.dpl_map.proofs.FewLemmas.{row-nothing}

tuples-nil_some : tuples [] ≢ []
tuples-nil_some = λ none. absurd cc

-- a product with a list more has tuples, where it had some and the list has elements
tuples-some : (is : List ℤ) (rest : List (List ℤ)) → is ≢ [] → tuples rest ≢ [] → tuples (is ∷ rest) ≢ []
tuples-some [] rest some others = absurd (some refl)
tuples-some (i ∷ is) rest some others = λ none. others (row-nothing i (tuples rest) (flat_map (λ i. map (λ t. i ∷ t) (tuples rest)) is) none)

-- a product of ranges with members has an index
pub indices-some : (rank : ℕ) (o m i : RangeValue) → members_of o ≢ [] → members_of m ≢ [] → members_of i ≢ [] → indices (last_of rank o m i) ≢ []
unfolding indices
indices-some zero o m i outer middle inner = tuples-nil_some
indices-some (suc zero) o m i outer middle inner = tuples-some (members_of i) [] inner tuples-nil_some
indices-some (suc (suc zero)) o m i outer middle inner =
    tuples-some (members_of m) (members_of i ∷ []) middle (tuples-some (members_of i) [] inner tuples-nil_some)
indices-some (suc (suc (suc n))) o m i outer middle inner =
    tuples-some (members_of o) (members_of m ∷ members_of i ∷ []) outer
    (tuples-some (members_of m) (members_of i ∷ []) middle (tuples-some (members_of i) [] inner tuples-nil_some))
