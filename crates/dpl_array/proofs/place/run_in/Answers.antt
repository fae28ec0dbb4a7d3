-- The indices of a part that is one domain stand in their own order.
-- These are the answers to the goals of `run_in`.
use Rattle.std.proofs.Common.{◌≡◌, ◌+◌, ◌<◌, pos, ◌*ℤ◌, length, Some, refl, sym, ap, ◌∙◌, arith, rules, FitsSigned, w64, to_z}
use Rattle.std.proofs.lemmas.Int.{to_z-of_z}
use Rattle.std.proofs.lemmas.Option.{slice_get_read}
use Rattle.dpl_array.specs.Elements.{along, behind}
use Rattle.dpl_array.proofs.RowLemmas.{row-first}
use Rattle.dpl_array.proofs.place.run_in.Goals as goal

pub returns : goal.returns
returns c k below =
    let parts = c.args.parts.now in
    let own = c.of-own.result.0 in
    let row = c.args.row in
    let own_fits : FitsSigned w64 c.step.result = search rules in
    let row_fits : FitsSigned w64 c.step-2.result = search rules in
    let words : c.step.result ≡ c.step-2.result = sym (to_z-of_z w64 c.step.result own_fits) ∙ ap (to_z w64) c.if-step.false ∙ to_z-of_z w64 c.step-2.result row_fits in
    let same : own.step ≡ row.step = sym c.step.ensures.step ∙ words ∙ c.step-2.ensures.step in
    let first : own.first ≡ row.first = c.of-own.ensures.first ∙ c.first-2.ensures in
    let within : 0 < length parts = omega (arith, c.in-len1.len_at_least) in
    row-first parts c.part-item.result (slice_get_read parts _ 0 c.part-item.result refl within c.part-item.is) (c.in-Some.place + k) (behind k row)
    (c.of-own.ensures.there k below
    ∙ ap (λ s. Some (along (s *ℤ pos k) own.first)) same
    ∙ ap (λ t. Some (along (row.step *ℤ pos k) t)) first)
