-- What is given so far, and what is left, is all.
use Rattle.std.proofs.Common.{◌≡◌, ◌++◌, take}
use Rattle.dpl_frame.specs.Frames.{with_words}
use Rattle.dpl_outcome.proofs.frame.give_all.Given as goal

abbrev pub invariant-loop-word : goal.invariant-loop-word
invariant-loop-word l =
    l.frame ≡ with_words (record l.initial.frame.memory.words { sets = l.initial.frame.memory.words.sets ++ take l.word-index l.words }) l.initial.frame
