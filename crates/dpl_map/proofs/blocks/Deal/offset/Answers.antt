-- The members of an offset are a class of congruence.
use Rattle.std.proofs.Common.{◌∙◌, FitsSigned, w64}
use Rattle.std.proofs.lemmas.Int.{to_z-of_z}
use Rattle.dpl_map.proofs.DealLemmas.{offset-members}
use Rattle.dpl_map.proofs.blocks.Deal.offset.Goals as goal

pub returns : goal.returns
returns c =
    let start_fits : FitsSigned w64 c.args.start = c.ranges.start in
    simp to_z-of_z at c.class.ensures.members
    ∙ offset-members c.args.self.now.range c.args.self.now.origin c.args.self.now.size c.args.self.now.extent c.args.self.now.coordinate c.args.self.now.deal c.args.start c.args.offset c.requires.begins c.requires.within
