use Rattle.std.proofs.Common.{◌≡◌}
use Rattle.dpl_batches.specs.Folded.{folded_where}
use Rattle.dpl_batches.proofs.fold.folded_where_by.Given as goal

-- the ints before the loop's are folded onto the word where the mask says so
abbrev pub invariant-loop-k : goal.invariant-loop-k
invariant-loop-k l = l.made ≡ folded_where l.fn.fold l.fn.word l.fn.mask l.fn.words l.k
