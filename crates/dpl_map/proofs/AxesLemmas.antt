-- The axes of a map in three places.
use Rattle.std.proofs.Common.{◌≡◌, ◌≤◌, ◌*◌, ℕ, zero, suc, List, [], ◌∷◌, sym, subst, arith}
use Rattle.std.proofs.lemmas.Int.{ints}
use Rattle.std.proofs.lemmas.List.Elements.{All-nil, All-cons, All-head, All-tail}
use Rattle.std.proofs.Math.Nat.{mul-le-mul_right}
use Rattle.dpl_domain.specs.Ranks.{last_of, IsFilled}
use Rattle.dpl_map.specs.AxisFields.{IsAxis}
use Rattle.dpl_map.specs.Maps.{AxisValue}
use Rattle.dpl_map.specs.MapFields.{idle, AreAxes, IsMap}

IsAxis-idle : (axis : AxisValue) → axis ≡ idle → IsAxis axis
IsAxis-idle axis is = subst IsAxis (sym is) (record { extent = (omega arith, omega arith); rule = (omega (arith, ints), omega (arith, ints)) })

pub IsMap-filled : (axes : List AxisValue) (rank : ℕ) (o m i : AxisValue) → axes ≡ last_of rank o m i → IsFilled idle rank o m i → AreAxes axes → IsMap rank o m i
IsMap-filled axes rank o m i is filled are = go rank filled (subst AreAxes is are)
  where
    go : (rank : ℕ) → IsFilled idle rank o m i → AreAxes (last_of rank o m i) → IsMap rank o m i
    go zero filled are =
        let first : o ≡ idle = filled.first (omega arith) in
        let second : m ≡ idle = filled.second (omega arith) in
        let third : i ≡ idle = filled.third (omega arith) in
        record {
          to_three = omega arith;
          first = filled.first;
          second = filled.second;
          third = filled.third;
          outer_limits = IsAxis-idle o first;
          middle_limits = IsAxis-idle m second;
          inner_limits = IsAxis-idle i third;
          size = rw (first, second, third) (omega arith);
        }
    go (suc zero) filled are =
        let first : o ≡ idle = filled.first (omega arith) in
        let second : m ≡ idle = filled.second (omega arith) in
        record {
          to_three = omega arith;
          first = filled.first;
          second = filled.second;
          third = filled.third;
          outer_limits = IsAxis-idle o first;
          middle_limits = IsAxis-idle m second;
          inner_limits = All-head IsAxis i [] are.limits;
          size = rw (first, second) (omega (arith, are.size));
        }
    go (suc (suc zero)) filled are =
        let first : o ≡ idle = filled.first (omega arith) in
        record {
          to_three = omega arith;
          first = filled.first;
          second = filled.second;
          third = filled.third;
          outer_limits = IsAxis-idle o first;
          middle_limits = All-head IsAxis m (i ∷ []) are.limits;
          inner_limits = All-head IsAxis i [] (All-tail IsAxis m (i ∷ []) are.limits);
          size = rw first (omega (arith, are.size));
        }
    go (suc (suc (suc zero))) filled are =
        let rest = All-tail IsAxis o (m ∷ i ∷ []) are.limits in
        record {
          to_three = omega arith;
          first = filled.first;
          second = filled.second;
          third = filled.third;
          outer_limits = All-head IsAxis o (m ∷ i ∷ []) are.limits;
          middle_limits = All-head IsAxis m (i ∷ []) rest;
          inner_limits = All-head IsAxis i [] (All-tail IsAxis m (i ∷ []) rest);
          size = omega (arith, are.size);
        }
    go (suc (suc (suc (suc n)))) filled are = absurd (omega (arith, filled.to_three))

pub AreAxes-last_of : (rank : ℕ) (o m i : AxisValue) → IsAxis o → IsAxis m → IsAxis i → o.extent * m.extent * i.extent ≤ 64 → AreAxes (last_of rank o m i)
AreAxes-last_of zero o m i first second third size = record { limits = All-nil IsAxis; size = omega arith }
AreAxes-last_of (suc zero) o m i first second third size = record {
  limits = All-cons IsAxis i [] third (All-nil IsAxis);
  size =
      let planes : 1 * 1 ≤ o.extent * m.extent = product first.extent.0 second.extent.0 in
      let all : 1 * i.extent ≤ o.extent * m.extent * i.extent = mul-le-mul_right i.extent (omega (arith, planes)) in
      omega (arith, size, all);
}
  where
    product : {a b : ℕ} → 1 ≤ a → 1 ≤ b → 1 * 1 ≤ a * b
    product {a = suc a} {b = suc b} some more = omega arith
    product {a = zero} {b = b} some more = absurd (omega (arith, some))
    product {a = suc a} {b = zero} some more = absurd (omega (arith, more))
AreAxes-last_of (suc (suc zero)) o m i first second third size = record {
  limits = All-cons IsAxis m (i ∷ []) second (All-cons IsAxis i [] third (All-nil IsAxis));
  size =
      let rows : 1 * m.extent ≤ o.extent * m.extent = mul-le-mul_right m.extent first.extent.0 in
      let all : 1 * m.extent * i.extent ≤ o.extent * m.extent * i.extent = mul-le-mul_right i.extent rows in
      omega (arith, size, all);
}
AreAxes-last_of (suc (suc (suc n))) o m i first second third size = record {
  limits = All-cons IsAxis o (m ∷ i ∷ []) first (All-cons IsAxis m (i ∷ []) second (All-cons IsAxis i [] third (All-nil IsAxis)));
  size = omega (arith, size);
}
