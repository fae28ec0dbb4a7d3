-- The members of a range are told by their number, the first of them and the stride.
-- These are the answers to the goals of `same_members`.
use mir.Val.{of_z}
use Rattle.std.proofs.Common.{rules, w64, ◌≡◌, ◌≤◌, length, true, false, refl, sym, ap, ◌∙◌, arith, slice_get}
use Rattle.dpl_sets.specs.Ranges.{members_of}
use Rattle.dpl_array.proofs.SameLemmas.{members-same, strides-same, words-same, options-same}
use Rattle.dpl_array.proofs.same.same_members.Goals as goal
use Rattle.dpl_array.proofs.same.same_members.Goals.{else-size-ge2-via-then-size-ge2+else-stride, else-size-ge2-via-else-size-ge2}

pub returns-then-stride : goal.returns-then-stride
returns-then-stride c =
    let many : 2 ≤ length (members_of c.args.one.now) = omega (arith, c.if-size-ge2.true, c.size-3.ensures.length) in (
      (λ no. absurd (let e : false ≡ true = no in cc)),
      (λ same. absurd (c.if-stride.true (ap (of_z w64) (c.stride.ensures.stride ∙ strides-same c.args.one.now c.args.other.now c.size.ensures.limits c.size-2.ensures.limits same many ∙ sym c.stride-then-size-ge2.ensures.stride)))),
    )

pub returns : goal.returns
returns c =
    let sizes : length (members_of c.args.one.now) ≡ length (members_of c.args.other.now) = sym c.size.ensures.length ∙ c.if-size.false ∙ c.size-2.ensures.length in
    let firsts : slice_get (members_of c.args.one.now) 0 ≡ slice_get (members_of c.args.other.now) 0 = sym c.first.ensures ∙ options-same c.first.result c.first-else-size.result c.if-ne.ensures ∙ c.first-else-size.ensures in
    let strides : 2 ≤ length (members_of c.args.one.now) → c.args.one.now.stride ≡ c.args.other.now.stride =
    λ many. elim c.else-size-ge2.branch [
      | else-size-ge2-via-then-size-ge2+else-stride w ↦ sym w.stride.ensures.stride ∙ words-same w.stride.result w.stride-then-size-ge2.result (search rules) (search rules) w.if-stride.false ∙ w.stride-then-size-ge2.ensures.stride
      | else-size-ge2-via-else-size-ge2 w ↦ absurd (omega (arith, many, w.if-size-ge2.false, c.size-3.ensures.length))
    ] in
    ((λ yes. members-same c.args.one.now c.args.other.now c.size.ensures.limits c.size-2.ensures.limits sizes firsts strides), (λ same. refl))
