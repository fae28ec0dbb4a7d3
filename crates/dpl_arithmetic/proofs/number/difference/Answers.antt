use Rattle.std.proofs.Common.{w64}
use Rattle.std.proofs.lemmas.Int.{wrapping_sub_is}
use Rattle.dpl_arithmetic.proofs.number.difference.Goals as goal

pub returns : goal.returns
returns c = wrapping_sub_is w64 c.args.a c.args.b c.ranges.a c.ranges.b
