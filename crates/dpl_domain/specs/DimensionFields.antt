-- The fields that keep the up to three things of a list.
use Rattle.std.specs.Prelude.{◌≡◌, ℕ, zero, suc, List, [], ◌∷◌, refl}
use Rattle.std.proofs.Common.{arith}
use Rattle.dpl_domain.specs.declared.dimensions.Dimensions.TheInside.{Inside}
use Rattle.dpl_domain.specs.Ranks.{last_of, IsFilled}

abbrev pub fields_of : {A : Type 0} → A → List A → Inside A
fields_of unused [] = record { rank = 0; outer = unused; middle = unused; inner = unused }
fields_of unused (i ∷ []) = record { rank = 1; outer = unused; middle = unused; inner = i }
fields_of unused (m ∷ i ∷ []) = record { rank = 2; outer = unused; middle = m; inner = i }
fields_of unused (o ∷ m ∷ i ∷ _) = record { rank = 3; outer = o; middle = m; inner = i }

pub fields_of-last_of : {A : Type 0} (unused : A) (x : Inside A) → IsFilled unused x.rank x.outer x.middle x.inner → fields_of unused (last_of x.rank x.outer x.middle x.inner) ≡ x
fields_of-last_of {A = A} unused x filled = go x.rank x.outer x.middle x.inner filled
  where
    go : (rank : ℕ) (outer middle inner : A) → IsFilled unused rank outer middle inner → fields_of unused (last_of rank outer middle inner) ≡ record { rank = rank; outer = outer; middle = middle; inner = inner }
    go zero outer middle inner filled =
        let first : outer ≡ unused = filled.first (omega arith) in
        let second : middle ≡ unused = filled.second (omega arith) in
        let third : inner ≡ unused = filled.third (omega arith) in
        rw (first, second, third)
    go (suc zero) outer middle inner filled =
        let first : outer ≡ unused = filled.first (omega arith) in
        let second : middle ≡ unused = filled.second (omega arith) in
        rw (first, second)
    go (suc (suc zero)) outer middle inner filled =
        let first : outer ≡ unused = filled.first (omega arith) in
        rw first
    go (suc (suc (suc zero))) outer middle inner filled = refl
    go (suc (suc (suc (suc n)))) outer middle inner filled = absurd (omega (arith, filled.to_three))
