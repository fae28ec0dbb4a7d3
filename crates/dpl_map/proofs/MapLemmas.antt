-- Maps whose rules give each coordinate one range of each dimension, and the dimensions that a map does not have.
use Rattle.std.proofs.Common.{◌≡◌, ◌≤◌, ◌<◌, ◌*◌, ◌==◌, ℕ, zero, suc, true, ℤ, pos, List, length, Contains, refl, ap, sym, subst, arith, eq-eqb}
use Rattle.std.proofs.Math.Nat.{mul-le-mul}
use Rattle.std.proofs.lemmas.Int.{ints}
use Rattle.std.proofs.lemmas.List.Elements.{All-contains}
use Rattle.dpl_sets.specs.Ranges.{RangeValue, members_of}
use Rattle.dpl_range.proofs.Ends.{Contains-slice_get}
use Rattle.dpl_range.proofs.MemberLemmas.{slice_get-members}
use Rattle.dpl_domain.specs.Ranks.{last_of, point}
use Rattle.dpl_map.specs.AxisFields.{IsAxis}
use Rattle.dpl_map.specs.Counts.{rule_offsets, AreFewRanges}
use Rattle.dpl_map.specs.Cuts.{AreCut}
use Rattle.dpl_map.specs.MapFields.{IsMap, idle}
use Rattle.dpl_map.specs.Maps.{RuleValue, Block, Cyclic, BlockCyclic, AxisValue, axis_coordinate}
use Rattle.dpl_map.specs.Axes.{AreSingle, IsSingle, cut_rule, owned_of}
use Rattle.dpl_map.proofs.AxisLemmas.{axis-below}
use Rattle.dpl_map.proofs.ListLemmas.{Contains-filter}

-- the axis that stands where a map has none is such
pub single-idle : (axis : AxisValue) → axis ≡ idle → IsSingle (cut_rule axis)
single-idle axis is = subst (λ (a : AxisValue). IsSingle (cut_rule a)) (sym is) tt

pub AreSingle-last_of : (rank : ℕ) (o m i : AxisValue) → IsMap rank o m i → 1 ≤ rank → AreSingle (last_of rank o m i) → IsSingle (cut_rule o) × IsSingle (cut_rule m) × IsSingle (cut_rule i)
AreSingle-last_of zero o m i is some single = absurd (omega arith)
AreSingle-last_of (suc zero) o m i is some single = (single-idle o (is.first (omega arith)), single-idle m (is.second (omega arith)), single.0)
AreSingle-last_of (suc (suc zero)) o m i is some single = (single-idle o (is.first (omega arith)), single.0, single.1.0)
AreSingle-last_of (suc (suc (suc zero))) o m i is some single = (single.0, single.1.0, single.1.1.0)
AreSingle-last_of (suc (suc (suc (suc n)))) o m i is some single = absurd (omega (arith, is.to_three))

-- a list with an element is cut into some pieces
AreCut-some : {X P : Type 0} (elements : P → List X) (xs : List X) (pieces : List P) (x : X) → Contains xs x → AreCut elements xs pieces → 1 ≤ length pieces
AreCut-some elements xs pieces x member cut =
    let below = All-contains (λ x. cut.number x < length pieces) xs x cut.numbered member in
    omega (arith, below)

-- the one coordinate of the axis that stands where a map has none owns the index that stands where a domain has none
unused-owned : (axis : AxisValue) (c : ℕ) → IsAxis axis → axis ≡ idle → c < axis.extent → Contains (owned_of axis c point) (pos 0)
unused-owned axis c limits unused among =
    let one : axis.extent ≡ 1 = ap (λ (a : AxisValue). a.extent) unused in
    let owned : (axis_coordinate axis (pos 0) == c) ≡ true = eq-eqb _ _ (omega (arith, axis-below axis (pos 0) limits, one, among)) in
    let member = Contains-slice_get (members_of point) 0 (pos 0) (slice_get-members (pos 0) (pos 0) (pos 1) 0 1 0 refl refl (omega arith) (omega arith)) in
    Contains-filter (λ i. axis_coordinate axis i == c) (members_of point) (pos 0) owned member

-- which is one range
pub one-unused : (axis : AxisValue) (c : ℕ) (r : RangeValue) (pieces : List RangeValue) → IsAxis axis → axis ≡ idle → r ≡ point → c < axis.extent → AreCut members_of (owned_of axis c r) pieces → AreFewRanges (cut_rule axis) (owned_of axis c r) (length pieces) → length pieces ≡ 1
one-unused axis c r pieces limits unused empty among cut few =
    let member = subst (λ (s : RangeValue). Contains (owned_of axis c s) (pos 0)) (sym empty) (unused-owned axis c limits unused among) in
    let some = AreCut-some members_of (owned_of axis c r) pieces (pos 0) member cut in
    let one : rule_offsets (cut_rule axis) ≡ pos 1 = ap (λ (a : AxisValue). rule_offsets (cut_rule a)) unused in
    omega (arith, ints, some, few.0, one)

-- by such a rule there is one range at the most
pub one-single : (rule : RuleValue) (is : List ℤ) (n : ℕ) → IsSingle rule → AreFewRanges rule is n → n ≤ 1
one-single (Block low high) is n single few = omega (arith, ints, few.0)
one-single (Cyclic start) is n single few = omega (arith, ints, few.0)
one-single (BlockCyclic start size) is n single few = absurd single

pub one-product : (a b c : ℕ) → a ≤ 1 → b ≤ 1 → c ≤ 1 → a * b * c ≤ 1
one-product a b c first second third =
    let rows : a * b ≤ 1 * 1 = mul-le-mul {n₁ = a} {m₁ = b} {n₂ = 1} {m₂ = 1} first second in
    let all : a * b * c ≤ 1 * 1 * 1 = mul-le-mul {n₁ = a * b} {m₁ = c} {n₂ = 1 * 1} {m₂ = 1} rows third in
    omega (arith, all)
