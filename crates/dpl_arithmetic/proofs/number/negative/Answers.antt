use Rattle.std.proofs.Common.{w64, rules, ◌∙◌, ap}
use Rattle.std.proofs.lemmas.Int.{wrapping_neg_is, to_z-of_z}
use Rattle.std.specs.Int.{int_wrapping_neg}
use mir.Val.{SFits}
use Rattle.dpl_arithmetic.proofs.number.negative.Goals as goal

pub returns : goal.returns
returns c =
    let f : SFits w64 c.wrapping_neg.result = search rules in
    to_z-of_z w64 c.wrapping_neg.result f ∙ c.wrapping_neg.ensures ∙ ap (int_wrapping_neg w64) (to_z-of_z w64 c.args.a c.ranges.a) ∙ wrapping_neg_is w64 c.args.a c.ranges.a
