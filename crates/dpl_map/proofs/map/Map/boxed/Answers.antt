-- The axis of the dimension, if it has a box.
-- These are the answers to the goals of `Map::boxed`.
use Rattle.std.proofs.Common.{◌≡◌, ap, sym, ◌∙◌, Some, slice_get, rules, FitsSigned, w64, subst}
use Rattle.std.proofs.lemmas.Int.{to_z-of_z}
use Rattle.std.proofs.lemmas.Option.{none-some}
use Rattle.dpl_map.proofs.SteadyLemmas.{IsBoxOf, box-absent, box-there}
use Rattle.dpl_map.proofs.map.Map.boxed.Goals as goal

pub returns-in_err-low : goal.returns-in_err-low
returns-in_err-low c =
    let axes = c.args.self.now in
    let at : slice_get axes c.args.d ≡ Some c.in_ok-axis.axis = ap (λ xs. slice_get xs c.args.d) (sym c.self.view_is) ∙ sym c.get.ensures ∙ c.in_ok-axis.was in
    box-absent axes c.args.d c.in_ok-axis.axis at c.from_residual-in_err-low.result c.from_residual-in_err-low.ensures
    (λ low high is. none-some (low, high) (sym c.in_err-low.was ∙ (c.bounds.ensures low high).1 is))

pub returns : goal.returns
returns c =
    let axes = c.args.self.now in
    let low_fits : FitsSigned w64 c.in_ok-low.low = search rules in
    let high_fits : FitsSigned w64 c.in_ok-low.high = search rules in
    let at : slice_get axes c.args.d ≡ Some c.in_ok-axis.axis = ap (λ xs. slice_get xs c.args.d) (sym c.self.view_is) ∙ sym c.get.ensures ∙ c.in_ok-axis.was in
    let is = (c.bounds.ensures c.in_ok-low.low c.in_ok-low.high).0 c.in_ok-low.was in
    simp to_z-of_z
    (subst (λ n. IsBoxOf axes c.args.d (Some (c.in_ok-low.low, c.in_ok-low.high, n))) (sym c.extent.ensures.extent)
    (box-there axes c.args.d c.in_ok-axis.axis at c.in_ok-low.low c.in_ok-low.high is (λ low high rule. sym c.in_ok-low.was ∙ (c.bounds.ensures low high).1 rule)))
