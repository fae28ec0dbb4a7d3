-- Where the second integer is below the first, nothing lies between them.
use Rattle.std.proofs.Common.{◌∙◌, arith, ◌<ℤ◌}
use Rattle.std.proofs.lemmas.Int.{ints}
use Rattle.dpl_sets.specs.Ranges.{members_of}
use Rattle.dpl_map.proofs.AxisLemmas.{between-none}
use Rattle.dpl_map.proofs.axis.between.Goals as goal

pub returns-then-to-from-clause-members : goal.returns-then-to-from-clause-members
returns-then-to-from-clause-members c =
    let apart : c.args.to <ℤ c.args.from = omega (arith, ints) in
    c.slice.ensures.members ∙ between-none c.args.from c.args.to (members_of c.args.range.now) apart
