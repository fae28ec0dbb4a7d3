-- The axis of the dimension, if it goes round.
-- These are the answers to the goals of `Map::round`.
use Rattle.std.proofs.Common.{◌≡◌, ap, sym, ◌∙◌, Some, slice_get, rules, FitsSigned, w64, subst}
use Rattle.std.proofs.lemmas.Int.{to_z-of_z}
use Rattle.std.proofs.lemmas.Option.{none-some, same_Some}
use Rattle.dpl_map.proofs.SteadyLemmas.{IsRoundOf, round-absent, round-there}
use Rattle.dpl_map.proofs.map.Map.round.Goals as goal

pub returns-in_err-start : goal.returns-in_err-start
returns-in_err-start c =
    let axes = c.args.self.now in
    let at : slice_get axes c.args.d ≡ Some c.in_ok-axis.axis = ap (λ xs. slice_get xs c.args.d) (sym c.self.view_is) ∙ sym c.get.ensures ∙ c.in_ok-axis.was in
    round-absent axes c.args.d c.in_ok-axis.axis at c.from_residual-in_err-start.result c.from_residual-in_err-start.ensures
    (λ start is. none-some start (sym c.in_err-start.was ∙ (c.start.ensures start).1 is))

pub returns : goal.returns
returns c =
    let axes = c.args.self.now in
    let start_fits : FitsSigned w64 c.in_ok-start.start = search rules in
    let at : slice_get axes c.args.d ≡ Some c.in_ok-axis.axis = ap (λ xs. slice_get xs c.args.d) (sym c.self.view_is) ∙ sym c.get.ensures ∙ c.in_ok-axis.was in
    let is = (c.start.ensures c.in_ok-start.start).0 c.in_ok-start.was in
    simp to_z-of_z
    (subst (λ n. IsRoundOf axes c.args.d (Some (c.in_ok-start.start, n))) (sym c.extent.ensures.extent)
    (round-there axes c.args.d c.in_ok-axis.axis at c.in_ok-start.start is (λ start rule. same_Some c.in_ok-start.start start (sym c.in_ok-start.was ∙ (c.start.ensures start).1 rule))))
