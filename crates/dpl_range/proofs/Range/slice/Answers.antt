-- A slice is what is cut out between the nearer of the two pairs of bounds.
use Rattle.std.proofs.Common.{◌≡◌, ℤ, pos, ◌<ℤ◌, ap, sym, ◌∙◌, arith, FitsSigned, w64, rules}
use Rattle.std.proofs.lemmas.Int.{ints, to_z-of_z}
use Rattle.std.specs.Int.{int_max, int_min}
use Rattle.dpl_sets.specs.Ranges.{RangeValue, IsBound}
use Rattle.dpl_range.specs.Invariant.{IsRange}
use Rattle.dpl_sets.specs.RangeSlices.{narrowed, begun_with}
use Rattle.dpl_range.proofs.SliceLemmas.{slice-unit, slice-none, slice-cut, sliced-unit, sliced-none, sliced-other, IsBound-int_max, IsBound-int_min}
use Rattle.dpl_range.proofs.Range.slice.Goals as goal
use Rattle.dpl_range.proofs.Range.slice.Goals.{After-min-high, After-unit}

abbrev range : ℤ → ℤ → ℤ → RangeValue
range low high stride = record { low = low; high = high; stride = stride }

low-is : (c : After-min-high) → c.max-low.result ≡ int_max c.args.self.now.low c.args.low
low-is c =
    let low_fits : FitsSigned w64 c.args.low = c.ranges.low in
    let own_fits : FitsSigned w64 c.self.inside.low = search rules in
    simp to_z-of_z at c.max-low.ensures.value ∙ ap (λ (v : RangeValue). int_max v.low c.args.low) c.self.view_is

high-is : (c : After-min-high) → c.min-high.result ≡ int_min c.args.self.now.high c.args.high
high-is c =
    let high_fits : FitsSigned w64 c.args.high = c.ranges.high in
    let own_fits : FitsSigned w64 c.self.inside.high = search rules in
    simp to_z-of_z at c.min-high.ensures.value ∙ ap (λ (v : RangeValue). int_min v.high c.args.high) c.self.view_is

limits-of : (c : After-min-high) → IsRange c.args.self.now
limits-of c = rw (← c.self.view_is) c.self.invariant

low-bound : (c : After-min-high) → IsBound c.max-low.result
low-bound c = rw (low-is c) (IsBound-int_max c.args.self.now.low c.args.low (limits-of c).low_is_bound c.requires.low_is_bound)

high-bound : (c : After-min-high) → IsBound c.min-high.result
high-bound c = rw (high-is c) (IsBound-int_min c.args.self.now.high c.args.high (limits-of c).high_is_bound c.requires.high_is_bound)

pub unit-requires-clause-low_is_bound : goal.unit-requires-clause-low_is_bound
unit-requires-clause-low_is_bound c =
    let fits : FitsSigned w64 c.max-low.result = search rules in
    rw (to_z-of_z w64 c.max-low.result fits) (low-bound (goal.at.unit-requires-clause-low_is_bound c).After-min-high)

pub unit-requires-clause-high_is_bound : goal.unit-requires-clause-high_is_bound
unit-requires-clause-high_is_bound c =
    let fits : FitsSigned w64 c.min-high.result = search rules in
    rw (to_z-of_z w64 c.min-high.result fits) (high-bound (goal.at.unit-requires-clause-high_is_bound c).After-min-high)

-- what is made of stride 1
narrowed-is : (c : After-unit) → c.unit.result ≡ record { low = int_max c.args.self.now.low c.args.low; high = int_min c.args.self.now.high c.args.high; stride = pos 1 }
narrowed-is c =
    let cut = (goal.at.returns-then-self-eq1-clause-members c).After-min-high in
    let low_fits : FitsSigned w64 c.max-low.result = search rules in
    let high_fits : FitsSigned w64 c.min-high.result = search rules in
    simp to_z-of_z at c.unit.ensures.value
    ∙ ap (λ (low : ℤ). range low c.min-high.result (pos 1)) (low-is cut)
    ∙ ap (λ (high : ℤ). range (int_max c.args.self.now.low c.args.low) high (pos 1)) (high-is cut)

pub returns-then-self-eq1-clause-value : goal.returns-then-self-eq1-clause-value
returns-then-self-eq1-clause-value c =
    let cut = (goal.at.returns-then-self-eq1-clause-value c).After-min-high in
    let unit : c.self.inside.stride ≡ pos 1 = omega (arith, ints) in
    narrowed-is c ∙ sliced-unit c.args.self.now c.args.low c.args.high (limits-of cut) (sym (ap (λ (v : RangeValue). v.stride) c.self.view_is) ∙ unit)

pub returns-then-self-eq1-clause-members : goal.returns-then-self-eq1-clause-members
returns-then-self-eq1-clause-members c =
    let cut = (goal.at.returns-then-self-eq1-clause-members c).After-min-high in
    let unit : c.self.inside.stride ≡ pos 1 = omega (arith, ints) in
    rw (narrowed-is c) (slice-unit c.args.self.now c.args.low c.args.high (limits-of cut) c.requires.low_is_bound c.requires.high_is_bound (sym (ap (λ (v : RangeValue). v.stride) c.self.view_is) ∙ unit))

pub returns-then-self-eq1-clause-stride : goal.returns-then-self-eq1-clause-stride
returns-then-self-eq1-clause-stride c =
    let unit : c.self.inside.stride ≡ pos 1 = omega (arith, ints) in
    ap (λ (v : RangeValue). v.stride) c.unit.ensures.value ∙ sym unit ∙ ap (λ (v : RangeValue). v.stride) c.self.view_is

pub returns-then-high-low-clause-members : goal.returns-then-high-low-clause-members
returns-then-high-low-clause-members c =
    let cut = (goal.at.returns-then-high-low-clause-members c).After-min-high in
    let low_fits : FitsSigned w64 c.max-low.result = search rules in
    let high_fits : FitsSigned w64 c.min-high.result = search rules in
    let apart : c.min-high.result <ℤ c.max-low.result = omega (arith, ints) in
    let apart_by : int_min c.args.self.now.high c.args.high <ℤ int_max c.args.self.now.low c.args.low = rw (← high-is cut, ← low-is cut) apart in
    rw c.none.ensures.value (slice-none c.args.self.now c.args.low c.args.high (limits-of cut) apart_by)

-- a stride other than 1
other : (c : After-min-high) → (c.self.inside.stride ≡ pos 1 → ⊥) → c.args.self.now.stride ≡ pos 1 → ⊥
other c not_one same = not_one (ap (λ (v : RangeValue). v.stride) c.self.view_is ∙ same)

pub returns-then-high-low-clause-value : goal.returns-then-high-low-clause-value
returns-then-high-low-clause-value c =
    let cut = (goal.at.returns-then-high-low-clause-value c).After-min-high in
    let low_fits : FitsSigned w64 c.max-low.result = search rules in
    let high_fits : FitsSigned w64 c.min-high.result = search rules in
    let apart : c.min-high.result <ℤ c.max-low.result = omega (arith, ints) in
    let apart_by : int_min c.args.self.now.high c.args.high <ℤ int_max c.args.self.now.low c.args.low = rw (← high-is cut, ← low-is cut) apart in
    c.none.ensures.value
    ∙ sliced-none c.args.self.now c.args.low c.args.high (limits-of cut) apart_by (other cut (λ one. omega (arith, ints)))

pub returns-clause-value : goal.returns-clause-value
returns-clause-value c =
    let cut = (goal.at.returns-clause-value c).After-min-high in
    let low_fits : FitsSigned w64 c.max-low.result = search rules in
    let high_fits : FitsSigned w64 c.min-high.result = search rules in
    let value = simp to_z-of_z at c.cut.ensures.value in
    let by_bounds = rw (low-is cut, high-is cut) at value in
    by_bounds
    ∙ ap (λ is. begun_with is (narrowed c.args.low c.args.high c.args.self.now)) (slice-cut c.args.self.now c.args.low c.args.high (limits-of cut))
    ∙ sliced-other c.args.self.now c.args.low c.args.high (limits-of cut) (other cut (λ one. omega (arith, ints)))

pub returns-clause-members : goal.returns-clause-members
returns-clause-members c =
    let cut = (goal.at.returns-clause-members c).After-min-high in
    let low_fits : FitsSigned w64 c.max-low.result = search rules in
    let high_fits : FitsSigned w64 c.min-high.result = search rules in
    let members = simp to_z-of_z at c.cut.ensures.members in
    let by_bounds = rw (low-is cut, high-is cut) at members in
    by_bounds ∙ slice-cut c.args.self.now c.args.low c.args.high (limits-of cut)
