-- `opening_words`: the words of the cells before the loop's are written.
-- The state words after them are still 0.
use Rattle.dpl_cell.proofs.Opening.{AreOpeningUpTo}
use Rattle.dpl_cell.proofs.words.opening_words.Given as goal

abbrev pub invariant-loop-cell : goal.invariant-loop-cell
invariant-loop-cell l = AreOpeningUpTo l.cells.items l.words.items l.cell
