-- All ints up to the last one of a strip lie between the first and that.
-- These are the answers to the goals of `stepping`.
use Rattle.std.proofs.Common.{◌≡◌, pos, ◌+ℤ◌, ◌*ℤ◌, FitsSigned, w64, to_z, of_z, subst, sym, ap, ◌∙◌, arith, rules}
use Rattle.std.proofs.lemmas.Int.{to_z-of_z}
use Rattle.dpl_array.proofs.Behind.{on-the-way}
use Rattle.dpl_strips.specs.declared.pace.Pace.TheVariants.{Stepping}
use Rattle.dpl_strips.proofs.pace.stepping.Goals as goal

pub returns : goal.returns
returns c =
    let from = c.args.from in
    let step = c.args.row.step in
    let far = c.in_ok-checked_mul.field-0 in
    let step_fits : FitsSigned w64 c.step.result = search rules in
    let from_is = to_z-of_z w64 from c.ranges.from in
    let far_fits : FitsSigned w64 far = subst (FitsSigned w64) (sym c.in_ok-checked_mul.ensures.1) c.in_ok-checked_mul.ensures.0 in
    let far_is : to_z w64 (of_z w64 far) ≡ step *ℤ pos 63 =
    to_z-of_z w64 far far_fits ∙ c.in_ok-checked_mul.ensures.1 ∙ ap (λ s. s *ℤ pos 63) (to_z-of_z w64 c.step.result step_fits ∙ c.step.ensures.step) in
    let last : FitsSigned w64 (from +ℤ step *ℤ pos 63) =
    subst (FitsSigned w64) (ap (λ z. z +ℤ to_z w64 (of_z w64 far)) from_is ∙ ap (λ z. from +ℤ z) far_is) c.in_ok-checked_add.ensures.0 in (
      λ k below. subst (λ z. FitsSigned w64 (z +ℤ step *ℤ pos k)) (sym from_is) (on-the-way from step k 63 (omega (arith, below)) c.ranges.from last),
      ap Stepping from_is,
    )
