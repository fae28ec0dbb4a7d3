-- The lines so far, and those of the variables that are left, are all.
use Rattle.std.proofs.Common.{◌≡◌, ◌++◌, drop}
use Rattle.dpl_says.specs.Dump.{dumped}
use Rattle.dpl_outcome.proofs.listing.lines.Given as goal

abbrev pub invariant-loop-number : goal.invariant-loop-number
invariant-loop-number l = l.text.items ++ dumped (drop l.number l.left) ≡ dumped l.left
