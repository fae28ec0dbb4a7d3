-- Each `period`-th member is a member of a range whose stride is `period` times as long.
use Rattle.std.proofs.Common.{◌≡◌, ap, sym, ◌∙◌, arith, FitsSigned, w64, rules, ℤ, pos, ◌<◌, ◌≤◌, ◌*◌, ◌+◌, ◌+ℤ◌, ◌≤ℤ◌, unsigned_abs, length}
use Rattle.std.proofs.lemmas.Int.{to_z-of_z}
use Rattle.std.proofs.Math.Nat.{mul-le-mul}
use Rattle.dpl_sets.specs.Ranges.{RangeValue, members_of, IsBound}
use Rattle.dpl_range.specs.Walk.{walked, nearer, begun}
use Rattle.dpl_range.proofs.MemberLemmas.{walk-within, walk-short}
use Rattle.dpl_range.proofs.ClassLemmas.{only-members, begun-members, begun-short, begun-two, IsBound-walked}
use Rattle.dpl_range.proofs.Range.every.Goals as goal
use Rattle.dpl_range.proofs.Range.every.Goals.{After-step, After-walked-only, After-nearer, After-begun}

pub overflow_mul-offset : goal.overflow_mul-offset
overflow_mul-offset c = walk-short c.args.self.now c.step.result c.args.skipped c.step.ensures.limits c.step.ensures.size c.requires.skipped

-- the walk up to the first of them is within the bounds
within : (c : After-step) → (c.args.self.now.low +ℤ pos (c.args.skipped * c.step.result)) ≤ℤ c.args.self.now.high
within c = rw (← c.step.ensures.size) (walk-within c.args.self.now c.args.skipped c.step.ensures.limits c.requires.skipped)

pub walked-only-requires : goal.walked-only-requires
walked-only-requires c = within (goal.at.walked-only-requires c).After-step

only-bound : (c : After-walked-only) → (c.args.self.now.low +ℤ pos (c.args.skipped * c.step.result)) ≤ℤ c.args.self.now.high → IsBound c.walked-only.result
only-bound c near =
    rw c.walked-only.ensures
    (IsBound-walked c.args.self.now.low c.args.self.now.high c.args.self.now.stride (c.args.skipped * c.step.result)
    c.step.ensures.limits.low_is_bound c.step.ensures.limits.high_is_bound near)

pub unit-requires-clause-low_is_bound : goal.unit-requires-clause-low_is_bound
unit-requires-clause-low_is_bound c =
    let fits : FitsSigned w64 c.walked-only.result = search rules in
    rw (to_z-of_z w64 c.walked-only.result fits) (only-bound c (within (goal.at.unit-requires-clause-low_is_bound c).After-step))

pub unit-requires-clause-high_is_bound : goal.unit-requires-clause-high_is_bound
unit-requires-clause-high_is_bound c =
    let fits : FitsSigned w64 c.walked-only.result = search rules in
    rw (to_z-of_z w64 c.walked-only.result fits) (only-bound c (within (goal.at.unit-requires-clause-high_is_bound c).After-step))

abbrev range : ℤ → ℤ → ℤ → RangeValue
range low high stride = record { low = low; high = high; stride = stride }

pub returns-then-size-skipped-clause-members : goal.returns-then-size-skipped-clause-members
returns-then-size-skipped-clause-members c =
    let fits : FitsSigned w64 c.walked-only.result = search rules in
    let is = simp to_z-of_z at c.unit.ensures.value in
    let at : c.walked-only.result ≡ walked c.args.self.now.low c.args.self.now.high c.args.self.now.stride (c.args.skipped * unsigned_abs c.args.self.now.stride) =
    rw c.step.ensures.size c.walked-only.ensures in
    rw is (only-members c.args.self.now c.args.skipped c.args.period c.step.ensures.limits c.requires.skipped c.requires.positive c.walked-only.result at (omega arith))

-- more than one is left
more : (c : After-nearer) → c.args.skipped + c.args.period < length (members_of c.args.self.now)
more c = omega arith

pub lengthened-requires-clause-short : goal.lengthened-requires-clause-short
lengthened-requires-clause-short c =
    begun-short c.args.self.now c.args.skipped c.args.period c.step.ensures.limits c.requires.skipped c.requires.positive (more c)

pub begun-requires-clause-within : goal.begun-requires-clause-within
begun-requires-clause-within c = within (goal.at.begun-requires-clause-within c).After-step

pub begun-requires-clause-stride_is_not_zero : goal.begun-requires-clause-stride_is_not_zero
begun-requires-clause-stride_is_not_zero c =
    let fits : FitsSigned w64 c.lengthened.result = search rules in
    rw (to_z-of_z w64 c.lengthened.result fits, c.lengthened.ensures.size)
    (mul-le-mul {n₁ = 1} {m₁ = 1} c.step.ensures.limits.stride_is_not_zero c.requires.positive)

pub begun-requires-clause-stride_is_short : goal.begun-requires-clause-stride_is_short
begun-requires-clause-stride_is_short c =
    let fits : FitsSigned w64 c.lengthened.result = search rules in
    rw (to_z-of_z w64 c.lengthened.result fits, c.lengthened.ensures.size)
    (begun-short c.args.self.now c.args.skipped c.args.period c.step.ensures.limits c.requires.skipped c.requires.positive
    (more (goal.at.begun-requires-clause-stride_is_short c).After-nearer))

-- what is begun, in the words of the lemmas
begun-is : (c : After-begun) → c.begun.result ≡ begun c.args.self.now (c.args.skipped * unsigned_abs c.args.self.now.stride) (nearer c.args.self.now.stride c.args.self.now.high c.args.self.now.low) c.lengthened.result
begun-is c =
    let low_fits : FitsSigned w64 c.self.inside.low = search rules in
    let high_fits : FitsSigned w64 c.self.inside.high = search rules in
    let far_fits : FitsSigned w64 c.nearer.result = search rules in
    let stride_fits : FitsSigned w64 c.lengthened.result = search rules in
    let far = simp to_z-of_z at c.nearer.ensures in
    simp to_z-of_z at c.begun.ensures.value
    ∙ ap (λ o. begun c.args.self.now (c.args.skipped * o) c.nearer.result c.lengthened.result) (sym c.step.ensures.size)
    ∙ ap (λ f. begun c.args.self.now (c.args.skipped * unsigned_abs c.args.self.now.stride) f c.lengthened.result) far
    ∙ ap (λ (v : RangeValue). begun c.args.self.now (c.args.skipped * unsigned_abs c.args.self.now.stride) (nearer c.args.self.now.stride v.high v.low) c.lengthened.result) c.self.view_is

pub returns-clause-members : goal.returns-clause-members
returns-clause-members c =
    rw (begun-is c)
    (begun-members c.args.self.now c.args.skipped c.args.period c.step.ensures.limits c.requires.skipped c.requires.positive c.lengthened.result c.lengthened.ensures.way c.lengthened.ensures.size)

pub returns-clause-short : goal.returns-clause-short
returns-clause-short c =
    let two : 2 ≤ length (members_of c.begun.result) =
    rw (begun-is c) (begun-two c.args.self.now c.args.skipped c.args.period c.step.ensures.limits c.requires.skipped c.requires.positive c.lengthened.result c.lengthened.ensures.way c.lengthened.ensures.size (more (goal.at.returns-clause-short c).After-nearer)) in
    λ fewer. absurd (omega arith)
