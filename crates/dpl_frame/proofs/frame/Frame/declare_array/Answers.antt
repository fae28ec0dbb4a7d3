-- The array that is declared in the slot is the one of one word.
use Rattle.std.proofs.Common.{ap, ◌∙◌, w64, FitsSigned}
use Rattle.std.proofs.lemmas.Int.{to_z-of_z}
use Rattle.dpl_language.specs.Distributions.{no_root}
use Rattle.dpl_memory.specs.Memory.{with_array, with_root}
use Rattle.dpl_frame.specs.Frames.{with_memory}
use Rattle.dpl_frame.proofs.frame.Frame.declare_array.Goals as goal

pub returns-clause-declared : goal.returns-clause-declared
returns-clause-declared g c =
    let word_fits : FitsSigned w64 c.args.word = c.ranges.word in
    let array = simp to_z-of_z at c.in_ok-array.ensures in
    c.declare.ensures ∙ ap (λ a. with_memory (with_root c.args.slot no_root (with_array c.args.slot a c.args.self.now.memory)) c.args.self.now) array
