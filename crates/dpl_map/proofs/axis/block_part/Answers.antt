-- What lies between the ends of a block goes to its coordinate.
use Rattle.std.proofs.Common.{rules, ◌∙◌, FitsSigned, w64}
use Rattle.std.proofs.lemmas.Int.{to_z-of_z}
use Rattle.dpl_map.proofs.AxisLemmas.{block-between}
use Rattle.dpl_map.proofs.axis.block_part.Goals as goal

pub returns-clause-members : goal.returns-clause-members
returns-clause-members c =
    let low_fits : FitsSigned w64 c.args.low = c.ranges.low in
    let high_fits : FitsSigned w64 c.args.high = c.ranges.high in
    let from_fits : FitsSigned w64 c.block_from-from.result = search rules in
    let to_fits : FitsSigned w64 c.block_to-to.result = search rules in
    let begins = simp to_z-of_z at c.block_from-from.ensures.owned in
    let ends = simp to_z-of_z at c.block_to-to.ensures.owned in
    let members = simp to_z-of_z at c.between.ensures.members in
    members
    ∙ block-between c.args.range.now c.args.low c.args.high c.block_from-from.result c.block_to-to.result c.args.extent c.args.coordinate c.requires.range_limits begins ends
