-- A sum that wraps is the sum, wrapped.
-- These are the answers to the goals of `sum`.
use Rattle.std.specs.Int.{w64}
use Rattle.std.proofs.lemmas.Int.{wrapping_add_is}
use Rattle.dpl_halo.proofs.shift.sum.Goals as goal

pub returns : goal.returns
returns c = wrapping_add_is w64 c.args.a c.args.b c.ranges.a c.ranges.b
