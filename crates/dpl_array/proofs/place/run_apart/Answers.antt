-- Some strides of a part that is one domain are a step of the row.
-- These are the answers to the goals of `run_apart`.
use Rattle.std.proofs.Common.{◌≡◌, ◌+◌, ◌-◌, ◌*◌, ◌<◌, ◌≤◌, pos, ◌*ℤ◌, length, Some, refl, sym, ap, ◌∙◌, arith, rules, FitsSigned, w64}
use Rattle.std.proofs.lemmas.Int.{to_z-of_z}
use Rattle.std.proofs.lemmas.Option.{slice_get_read}
use Rattle.std.proofs.Math.Nat.{le-div_iff_mul-le}
use Rattle.dpl_array.specs.Elements.{behind}
use Rattle.dpl_array.proofs.Behind.{behind-times}
use Rattle.dpl_array.proofs.RowLemmas.{row-first}
use Rattle.dpl_array.proofs.place.run_apart.Goals as goal

pub returns : goal.returns
returns c k below =
    let parts = c.args.parts.now in
    let own = c.of-own.result.0 in
    let left = c.of-own.result.1 in
    let row = c.args.row in
    let pace = c.in-Some-times.pace in
    let step_fits : FitsSigned w64 c.step.result = search rules in
    let own_fits : FitsSigned w64 c.step-2.result = search rules in
    let steps : own.step *ℤ pos pace ≡ row.step = ap (λ s. s *ℤ pos pace) (sym (to_z-of_z w64 c.step-2.result own_fits ∙ c.step-2.ensures.step)) ∙ c.in-Some-times.ensures.1 ∙ to_z-of_z w64 c.step.result step_fits ∙ c.step.ensures.step in
    let first : own.first ≡ row.first = c.of-own.ensures.first ∙ c.first-2.ensures in
    let reached : k * pace ≤ left - 1 = (le-div_iff_mul-le {k = pace} {x = k} {y = left - 1} c.in-Some-times.ensures.0).0 (omega (arith, below)) in
    let there : k * pace < left = omega (arith, reached, c.if-left-eq0.false) in
    let within : 0 < length parts = omega (arith, c.in-len1.len_at_least) in
    row-first parts c.part-item.result (slice_get_read parts _ 0 c.part-item.result refl within c.part-item.is) (c.in-Some.place + k * pace) (behind k row)
    (c.of-own.ensures.there (k * pace) there ∙ ap Some (behind-times own row pace k first steps))
