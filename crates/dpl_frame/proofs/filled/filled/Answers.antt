-- An array of one word is what it is made as.
use Rattle.std.proofs.Common.{w64, FitsSigned}
use Rattle.std.proofs.lemmas.Int.{to_z-of_z}
use Rattle.dpl_frame.proofs.filled.filled.Goals as goal

pub returns-in-Ok : goal.returns-in-Ok
returns-in-Ok c =
    let word_fits : FitsSigned w64 c.args.word = c.ranges.word in
    simp to_z-of_z at c.in-Ok.ensures.array
