use Rattle.std.proofs.Common.{w64, to_z, of_z, rules, ◌∙◌, ap}
use Rattle.std.proofs.lemmas.Int.{to_z-of_z}
use Rattle.std.specs.Int.{int_wrapping_div}
use mir.Val.{SFits}
use Rattle.dpl_arithmetic.proofs.Wrapped.{wrap_quotient}
use Rattle.dpl_arithmetic.proofs.number.quotient.Goals as goal

pub returns : goal.returns
returns c =
    let f : SFits w64 c.wrapping_div.result = search rules in
    to_z-of_z w64 c.wrapping_div.result f ∙ c.wrapping_div.ensures
    ∙ ap (λ z. int_wrapping_div w64 z (to_z w64 (of_z w64 c.args.b))) (to_z-of_z w64 c.args.a c.ranges.a) ∙ ap (int_wrapping_div w64 c.args.a) (to_z-of_z w64 c.args.b c.ranges.b)
    ∙ wrap_quotient c.args.a c.args.b c.ranges.a
