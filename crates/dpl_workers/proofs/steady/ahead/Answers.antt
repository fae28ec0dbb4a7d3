-- The last coordinate goes on by so many steps.
-- These are the answers to the goals of `ahead`.
use Rattle.std.proofs.Common.{◌≡◌, ◌+ℤ◌, ◌*ℤ◌, pos, sym, subst, ap, ◌∙◌, rules, FitsSigned, w64}
use Rattle.std.specs.Option.{IfSome}
use Rattle.std.proofs.lemmas.Int.{to_z-of_z}
use Rattle.dpl_domain.specs.Ranks.{last_of}
use Rattle.dpl_array.specs.Elements.{along, behind}
use Rattle.dpl_array.proofs.Behind.{last-along}
use Rattle.dpl_workers.proofs.steady.ahead.Goals as goal

pub returns : goal.returns
returns c =
    let d = c.args.row.now.step *ℤ pos c.args.k in
    let x = c.numbers-outer.result.0 in
    let y = c.numbers-outer.result.1 in
    let z = c.numbers-outer.result.2 in
    let n = c.rank.result in
    let step_fits : FitsSigned w64 c.step.result = search rules in
    let steps_fits : FitsSigned w64 c.in-Ok.steps = search rules in
    let x_fits : FitsSigned w64 x = search rules in
    let y_fits : FitsSigned w64 y = search rules in
    let z_fits : FitsSigned w64 z = search rules in
    let distance_fits : FitsSigned w64 c.in-Some.distance = search rules in
    let last_fits : FitsSigned w64 c.in-Some-checked_add.last = search rules in
    let moved = simp to_z-of_z at c.in-Some.ensures in
    let sum = simp to_z-of_z at c.in-Some-checked_add.ensures in
    let steps = c.in-Ok.ensures in
    let made = simp to_z-of_z at c.of_rank.ensures in
    let first = c.numbers-outer.ensures.coordinates in
    let far : c.in-Some.distance ≡ d = moved.1 ∙ ap (λ s. s *ℤ c.in-Ok.steps) c.step.ensures.step ∙ ap (λ n. c.args.row.now.step *ℤ n) steps.1 in
    let end : c.in-Some-checked_add.last ≡ z +ℤ d = sum.1 ∙ ap (λ m. z +ℤ m) far in
    let is : last_of n x y c.in-Some-checked_add.last ≡ behind c.args.k c.args.row.now =
    last-along d n x y c.in-Some-checked_add.last z end ∙ ap (λ m. along d (last_of m x y z)) c.rank.ensures.rank ∙ ap (along d) (sym first ∙ c.first-first.ensures) in
    subst (λ u. IfSome c.of_rank.result (λ t. t ≡ u)) is made
