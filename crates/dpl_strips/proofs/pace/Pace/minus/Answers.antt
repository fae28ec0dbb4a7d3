-- An int that stays, less, changes where the other one begins.
-- These are the answers to the goals of `Pace::minus`.
use Rattle.std.proofs.Common.{rules, FitsSigned, w64, arith, ap}
use Rattle.std.proofs.lemmas.Int.{ints, to_z-of_z}
use Rattle.dpl_language.specs.Arithmetic.{wrap}
use Rattle.dpl_strips.specs.declared.apply.Wrapping.TheVariants.{Difference}
use Rattle.dpl_strips.proofs.Paces.{goes-stepping}
use Rattle.dpl_strips.proofs.pace.Pace.minus.Goals as goal

pub returns-in_ok-checked_sub-in-Stepping-Steady : goal.returns-in_ok-checked_sub-in-Stepping-Steady
returns-in_ok-checked_sub-in-Stepping-Steady c =
    let a = c.in-Stepping-Steady.a in
    let b = c.in-Stepping-Steady.b in
    let from = c.in_ok-checked_sub-in-Stepping-Steady.field-0 in
    let a_fits : FitsSigned w64 a = search rules in
    let b_fits : FitsSigned w64 b = search rules in
    let from_fits : FitsSigned w64 from = search rules in
    let made = simp to_z-of_z at c.in_ok-checked_sub-in-Stepping-Steady.ensures.1 in
    goes-stepping Difference c.args.row.step from c.args.self c.args.other c.stepping.result
    (λ k. rw c.in-Stepping-Steady.is-0 (rw c.in-Stepping-Steady.is-1 (ap wrap (omega (arith, ints, made))))) (simp to_z-of_z at c.stepping.ensures)
