-- One int stands everywhere.
-- These are the answers to the goals of `repeat`.
use Rattle.std.proofs.Common.{FitsSigned, w64, ◌∙◌}
use Rattle.std.proofs.lemmas.Int.{to_z-of_z}
use Rattle.dpl_strips.proofs.Strips.{repeated}
use Rattle.dpl_strips.proofs.apply.repeat.Goals as goal

pub returns-clause-words : goal.returns-clause-words
returns-clause-words c k below =
    let fits : FitsSigned w64 c.args.word = c.ranges.word in
    repeated 64 k _ below ∙ to_z-of_z w64 c.args.word fits
