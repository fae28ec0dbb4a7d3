-- The ranges of an expanded domain: what each range gives, all of them give.
use Rattle.std.proofs.Common.{◌≡◌, ℕ, zero, suc, ◌*◌, ◌<◌, ◌≤◌, ◌^◌, ◌-◌, [], ◌∷◌, length, refl, ap, sym, ◌∙◌, arith, ℤ, pos, min, ⊎_elim, ◌↔◌}
use Rattle.std.proofs.lemmas.Bool.{cases_lt}
use Rattle.std.proofs.Math.Nat.{mul_comm, mul_assoc, le-mul_of_pos_right}
use Rattle.dpl_sets.specs.Ranges.{RangeValue, members_of}
use Rattle.dpl_sets.specs.Indices.{IsSmall}
use Rattle.dpl_domain.specs.Ranks.{last_of, point, IsPadded}
use Rattle.dpl_sets.specs.Expansions.{moved, expanded}
use Rattle.dpl_domain.proofs.TupleLemmas.{length-indices}

-- a factor that is cut off at a limit changes no product that is cut off there
pub min-mul_left : (a b limit : ℕ) → min (min a limit * b) limit ≡ min (a * b) limit
min-mul_left a zero limit = omega arith
min-mul_left a (suc b) limit =
    ⊎_elim
    (λ (past : limit < a).
    let e : min a limit ≡ limit = omega arith in
    ap (λ n. min (n * suc b) limit) e
    ∙ omega (arith, le-mul_of_pos_right {m = suc b} limit (omega arith), le-mul_of_pos_right {m = suc b} a (omega arith)))
    (λ (within : a ≤ limit). ap (λ n. min (n * suc b) limit) (omega arith))
    (cases_lt limit a)

pub min-product : (a b c limit : ℕ) → min (min a limit * min b limit * min c limit) limit ≡ min (a * b * c) limit
min-product a b c limit =
    let a' = min a limit in
    let b' = min b limit in
    let c' = min c limit in
    ap (λ n. min n limit) (mul_comm (a' * b') c')
    ∙ min-mul_left c (a' * b') limit
    ∙ ap (λ n. min n limit) (sym (mul_assoc c a' b') ∙ mul_comm (c * a') b')
    ∙ min-mul_left b (c * a') limit
    ∙ ap (λ n. min n limit) (sym (mul_assoc b c a') ∙ mul_comm (b * c) a')
    ∙ min-mul_left a (b * c) limit
    ∙ ap (λ n. min n limit) (sym (mul_assoc a b c))

-- whether three ranges have few tuples shows in their sizes as machine numbers
pub IsSmall-sizes : (rank : ℕ) (o m i : RangeValue) → IsPadded point rank o m → (size : ℕ) → size ≡ min (min (length (members_of o)) (2 ^ 64 - 1) * min (length (members_of m)) (2 ^ 64 - 1) * min (length (members_of i)) (2 ^ 64 - 1)) (2 ^ 64 - 1) → (size ≤ 2 ^ 40) ↔ IsSmall (last_of rank o m i)
IsSmall-sizes rank o m i padded size is =
    let many = length-indices rank o m i padded in
    let product = min-product (length (members_of o)) (length (members_of m)) (length (members_of i)) (2 ^ 64 - 1) in
    ((λ few. omega (arith, many, product, is)), (λ few. omega (arith, many, product, is)))

-- Where what is unused is moved by nothing, the moved ranges are those of the expanded domain.
pub expanded-last_of : (rank : ℕ) (o m i : RangeValue) (a b k : ℤ) → IsPadded point rank o m → (2 < rank → a ≡ k) → (1 < rank → b ≡ k) → last_of rank (moved a o) (moved b m) (moved k i) ≡ expanded k (last_of rank o m i)
expanded-last_of zero o m i a b k padded outer middle = absurd (omega (arith, padded.from_one))
expanded-last_of (suc zero) o m i a b k padded outer middle = refl
expanded-last_of (suc (suc zero)) o m i a b k padded outer middle = ap (λ y. moved y m ∷ moved k i ∷ []) (middle (omega arith))
expanded-last_of (suc (suc (suc zero))) o m i a b k padded outer middle =
    ap (λ x. moved x o ∷ moved b m ∷ moved k i ∷ []) (outer (omega arith))
    ∙ ap (λ y. moved k o ∷ moved y m ∷ moved k i ∷ []) (middle (omega arith))
expanded-last_of (suc (suc (suc (suc n)))) o m i a b k padded outer middle = absurd (omega (arith, padded.to_three))

pub IsPadded-moved : (rank : ℕ) (o m : RangeValue) (a b : ℤ) → IsPadded point rank o m → (rank < 3 → a ≡ pos 0) → (rank < 2 → b ≡ pos 0) → IsPadded point rank (moved a o) (moved b m)
IsPadded-moved rank o m a b padded outer middle =
    record {
      from_one = padded.from_one;
      to_three = padded.to_three;
      first = λ below. ap (λ x. moved x o) (outer below) ∙ ap (moved (pos 0)) (padded.first below);
      second = λ below. ap (λ y. moved y m) (middle below) ∙ ap (moved (pos 0)) (padded.second below);
    }
