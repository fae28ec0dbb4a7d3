use Rattle.std.proofs.Common.{◌≡◌}
use Rattle.dpl_batches.specs.Folded.{folded_words}
use Rattle.dpl_batches.proofs.fold.folded_by.Given as goal

-- the ints before the loop's are folded onto the word
abbrev pub invariant-loop-k : goal.invariant-loop-k
invariant-loop-k l = l.made ≡ folded_words l.fn.fold l.fn.word l.fn.words l.k
