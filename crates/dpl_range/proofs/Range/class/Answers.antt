-- The class is each `period`-th member from the first that is congruent.
use Rattle.std.proofs.Common.{◌≡◌, ap, sym, ◌∙◌, arith, w64, pos, ◌<◌, ◌*◌, ◌+◌, ◌+ℤ◌, ◌%◌, ℕ, length, to_z, of_z}
use Rattle.std.proofs.lemmas.Int.{ints}
use Rattle.std.specs.Int.{int_rem_euclid}
use Rattle.dpl_sets.specs.Ranges.{members_of}
use Rattle.dpl_range.specs.Walk.{ahead}
use Rattle.dpl_range.proofs.ClassLemmas.{class-members, class-none}
use Rattle.dpl_range.proofs.Congruence.{never-multiple}
use Rattle.dpl_range.proofs.Range.class.Goals as goal
use Rattle.dpl_range.proofs.Range.class.Goals.{After-first_multiple, in_default-via-in-Some+else-skipped-size, in_default-via-in_default}

-- the gap, without the casts on the way
gap-is : (c : After-first_multiple) → int_rem_euclid (ahead c.args.self.now.low c.args.self.now.high c.args.self.now.stride (c.args.start +ℤ pos c.args.r)) (pos c.args.n) ≡ pos c.gap-gap.result
gap-is c =
    let target : to_z w64 (of_z w64 (to_z w64 (of_z w64 c.args.start) +ℤ to_z w64 c.args.r)) ≡ c.args.start +ℤ pos c.args.r = omega (arith, ints) in
    ap (λ t. int_rem_euclid (ahead c.args.self.now.low c.args.self.now.high c.args.self.now.stride t) (pos c.args.n)) (sym target) ∙ c.gap-gap.ensures.gap

pub returns-in-Some-clause-members : goal.returns-in-Some-clause-members
returns-in-Some-clause-members c =
    c.every.ensures.members
    ∙ class-members c.args.self.now (c.args.start +ℤ pos c.args.r) c.args.n c.gap-gap.result c.step.result c.step.ensures.limits (omega arith) c.step.ensures.size
    (gap-is (goal.at.returns-in-Some-clause-members c).After-first_multiple)
    c.in-Some.skipped c.period.result c.in-Some.ensures.meets c.in-Some.ensures.least c.period.ensures.positive c.period.ensures.meets c.period.ensures.least

pub returns-in_default-clause-members : goal.returns-in_default-clause-members
returns-in_default-clause-members c =
    let never : (k : ℕ) → k < length (members_of c.args.self.now) → (c.gap-gap.result + k * (c.step.result % c.args.n)) % c.args.n ≡ 0 → ⊥ =
    λ k within meets. elim c.in_default.branch [
      | in_default-via-in-Some+else-skipped-size w ↦ w.in-Some.ensures.least k (omega arith) meets
      | in_default-via-in_default w ↦
          never-multiple c.args.n c.gap-gap.result (c.step.result % c.args.n) (omega arith) w.in_default.ensures.none k meets
    ] in
    rw c.unit.ensures.value
    (class-none c.args.self.now (c.args.start +ℤ pos c.args.r) c.args.n c.gap-gap.result c.step.result c.step.ensures.limits (omega arith) c.step.ensures.size
    (gap-is (goal.at.returns-in_default-clause-members c).After-first_multiple) never)
