-- Two maps are the same where their axes are.
use Rattle.std.proofs.Common.{◌≡◌, ℕ, zero, suc, List, [], ◌∷◌, length, ap, sym, subst, ◌∙◌, arith}
use Rattle.dpl_domain.specs.Ranks.{last_of}
use Rattle.dpl_map.specs.Maps.{AxisValue}
use Rattle.dpl_map.specs.MapFields.{IsMap}

axes-same : (n : ℕ) (o m i p q s : AxisValue) → IsMap n o m i → IsMap n p q s → last_of n o m i ≡ last_of n p q s → (o ≡ p) × (m ≡ q) × (i ≡ s)
axes-same zero o m i p q s one other same =
    (one.first (omega arith) ∙ sym (other.first (omega arith)), one.second (omega arith) ∙ sym (other.second (omega arith)), one.third (omega arith) ∙ sym (other.third (omega arith)))
axes-same (suc zero) o m i p q s one other same =
    (one.first (omega arith) ∙ sym (other.first (omega arith)), one.second (omega arith) ∙ sym (other.second (omega arith)), (let e : i ∷ [] ≡ s ∷ [] = same in cc))
axes-same (suc (suc zero)) o m i p q s one other same =
    let e : m ∷ i ∷ [] ≡ q ∷ s ∷ [] = same in
    let middle : m ≡ q = cc in
    let inner : i ≡ s = cc in
    (one.first (omega arith) ∙ sym (other.first (omega arith)), middle, inner)
axes-same (suc (suc (suc zero))) o m i p q s one other same =
    let e : o ∷ m ∷ i ∷ [] ≡ p ∷ q ∷ s ∷ [] = same in
    let outer : o ≡ p = cc in
    let middle : m ≡ q = cc in
    let inner : i ≡ s = cc in
    (outer, middle, inner)
axes-same (suc (suc (suc (suc n)))) o m i p q s one other same = absurd (omega (arith, one.to_three))

module _ (d e : List AxisValue) (o m i p q s : AxisValue) (d-is : d ≡ last_of (length d) o m i) (e-is : e ≡ last_of (length e) p q s) (one : IsMap (length d) o m i) (other : IsMap (length e) p q s) where
  -- the axes of one map
  pub same-axes : d ≡ e → (o ≡ p) × (m ≡ q) × (i ≡ s)
  same-axes same =
      let rank : length e ≡ length d = ap length (sym same) in
      axes-same (length d) o m i p q s one (subst (λ n. IsMap n p q s) rank other) (sym d-is ∙ same ∙ e-is ∙ ap (λ n. last_of n p q s) rank)

  -- and the map of its axes
  pub same-map : length d ≡ length e → o ≡ p → m ≡ q → i ≡ s → d ≡ e
  same-map rank outer middle inner =
      d-is ∙ ap (λ n. last_of n o m i) rank ∙ ap (λ a. last_of (length e) a m i) outer ∙ ap (λ a. last_of (length e) p a i) middle ∙ ap (λ a. last_of (length e) p q a) inner ∙ sym e-is
