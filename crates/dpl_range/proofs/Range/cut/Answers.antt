-- What is cut out begins at the first whole number of strides that reaches it.
use Rattle.std.proofs.Common.{◌≡◌, pos, ap, sym, ◌∙◌, arith, FitsSigned, w64, rules, subst}
use Rattle.std.proofs.lemmas.Int.{ints, to_z-of_z}
use Rattle.dpl_sets.specs.Ranges.{RangeValue, members_of}
use Rattle.dpl_sets.specs.RangeSlices.{members_within, begun_with}
use Rattle.dpl_range.specs.Invariant.{IsRange}
use Rattle.dpl_range.specs.Walk.{walked, nearer, begun}
use Rattle.dpl_range.proofs.SliceLemmas.{cut-none, cut-members, cut-value, nearer-high}
use Rattle.dpl_range.proofs.MemberLemmas.{members-empty}
use Rattle.dpl_range.proofs.Range.cut.Goals as goal
use Rattle.dpl_range.proofs.Range.cut.Goals.{Then-offset-begin, After-begun}

pub offset-requires-2-clause-high : goal.offset-requires-2-clause-high
offset-requires-2-clause-high c =
    let low_fits : FitsSigned w64 c.args.low = c.ranges.low in
    let high_fits : FitsSigned w64 c.args.high = c.ranges.high in
    let far_fits : FitsSigned w64 c.nearer-far.result = search rules in
    let far = simp to_z-of_z at c.nearer-far.ensures in
    rw (to_z-of_z w64 c.nearer-far.result far_fits, far)
    (nearer-high c.args.self.now.stride c.args.high c.args.low c.args.self.now.high c.requires.high (omega (arith, ints)))

-- nothing lies between the two bounds
empty : (c : Then-offset-begin) → members_of (record { low = pos 1; high = pos 0; stride = c.args.self.now.stride }) ≡ members_within c.args.low c.args.high c.args.self.now
empty c =
    let low_fits : FitsSigned w64 c.args.low = c.ranges.low in
    let high_fits : FitsSigned w64 c.args.high = c.ranges.high in
    let near_fits : FitsSigned w64 c.nearer.result = search rules in
    let far_fits : FitsSigned w64 c.nearer-far.result = search rules in
    let near = sym (simp to_z-of_z at c.nearer.ensures) ∙ simp to_z-of_z at c.offset.ensures.walked in
    let far = sym (simp to_z-of_z at c.nearer-far.ensures) ∙ simp to_z-of_z at c.offset-2.ensures.walked in
    let whole = rw (← c.step.ensures.size) at c.next_multiple_of-begin.ensures.multiple in
    let least = rw (← c.step.ensures.size) at c.next_multiple_of-begin.ensures.upper_bound in
    cut-none c.args.self.now c.args.low c.args.high c.offset.result c.offset-2.result c.next_multiple_of-begin.result
    c.offset.ensures.limits near far whole c.next_multiple_of-begin.ensures.lower_bound least c.if-offset-begin.true

pub returns-then-offset-begin-clause-members : goal.returns-then-offset-begin-clause-members
returns-then-offset-begin-clause-members c = rw c.none.ensures.value (empty (goal.at.returns-then-offset-begin-clause-members c).Then-offset-begin)

pub returns-then-offset-begin-clause-value : goal.returns-then-offset-begin-clause-value
returns-then-offset-begin-clause-value c =
    c.none.ensures.value
    ∙ ap (λ is. begun_with is (record c.args.self.now { low = c.args.low; high = c.args.high }))
    (sym (members-empty (pos 1) (pos 0) c.args.self.now.stride (omega (arith, ints))) ∙ empty (goal.at.returns-then-offset-begin-clause-value c).Then-offset-begin)

-- what is begun at the first whole number of strides, and that it is a range
picked : (c : After-begun) → c.begun.result ≡ begun c.args.self.now c.next_multiple_of-begin.result (nearer c.args.self.now.stride c.args.high c.args.low) c.args.self.now.stride
picked c =
    let low_fits : FitsSigned w64 c.args.low = c.ranges.low in
    let high_fits : FitsSigned w64 c.args.high = c.ranges.high in
    let far_fits : FitsSigned w64 c.nearer-far.result = search rules in
    let stride_fits : FitsSigned w64 c.self.inside.stride = search rules in
    let far_is = simp to_z-of_z at c.nearer-far.ensures in
    simp to_z-of_z at c.begun.ensures.value
    ∙ ap (λ f. begun c.args.self.now c.next_multiple_of-begin.result f c.self.inside.stride) far_is
    ∙ ap (λ (v : RangeValue). begun c.args.self.now c.next_multiple_of-begin.result (nearer c.args.self.now.stride c.args.high c.args.low) v.stride) c.self.view_is

limits : (c : After-begun) → IsRange (begun c.args.self.now c.next_multiple_of-begin.result (nearer c.args.self.now.stride c.args.high c.args.low) c.args.self.now.stride)
limits c = subst IsRange (picked c) c.begun.ensures.limits

near : (c : After-begun) → nearer c.args.self.now.stride c.args.low c.args.high ≡ walked c.args.self.now.low c.args.self.now.high c.args.self.now.stride c.offset.result
near c =
    let low_fits : FitsSigned w64 c.args.low = c.ranges.low in
    let high_fits : FitsSigned w64 c.args.high = c.ranges.high in
    let near_fits : FitsSigned w64 c.nearer.result = search rules in
    sym (simp to_z-of_z at c.nearer.ensures) ∙ simp to_z-of_z at c.offset.ensures.walked

far : (c : After-begun) → nearer c.args.self.now.stride c.args.high c.args.low ≡ walked c.args.self.now.low c.args.self.now.high c.args.self.now.stride c.offset-2.result
far c =
    let low_fits : FitsSigned w64 c.args.low = c.ranges.low in
    let high_fits : FitsSigned w64 c.args.high = c.ranges.high in
    let far_fits : FitsSigned w64 c.nearer-far.result = search rules in
    sym (simp to_z-of_z at c.nearer-far.ensures) ∙ simp to_z-of_z at c.offset-2.ensures.walked

pub returns-clause-members : goal.returns-clause-members
returns-clause-members c =
    let whole = rw (← c.step.ensures.size) at c.next_multiple_of-begin.ensures.multiple in
    let least = rw (← c.step.ensures.size) at c.next_multiple_of-begin.ensures.upper_bound in
    rw (picked c)
    (cut-members c.args.self.now c.args.low c.args.high c.offset.result c.offset-2.result c.next_multiple_of-begin.result
    c.offset.ensures.limits (near c) (far c) whole c.next_multiple_of-begin.ensures.lower_bound least c.if-offset-begin.false
    (limits c) c.requires.low c.requires.high)

pub returns-clause-value : goal.returns-clause-value
returns-clause-value c =
    let whole = rw (← c.step.ensures.size) at c.next_multiple_of-begin.ensures.multiple in
    let least = rw (← c.step.ensures.size) at c.next_multiple_of-begin.ensures.upper_bound in
    picked c
    ∙ cut-value c.args.self.now c.args.low c.args.high c.offset.result c.offset-2.result c.next_multiple_of-begin.result
    c.offset.ensures.limits (near c) (far c) whole c.next_multiple_of-begin.ensures.lower_bound least c.if-offset-begin.false
    (limits c) c.requires.low c.requires.high
