-- `close`: the cells before the loop's are filled from their words.
-- The words stay as they are.
use Rattle.std.proofs.Common.{◌≡◌, ℕ, ◌+◌, ◌<◌, vec_len}
use Rattle.dpl_history.specs.Histories.{cell_at}
use Rattle.dpl_cell.specs.Rule.{cell_of}
use Rattle.dpl_cell.proofs.Looking.{word_at}
use Rattle.dpl_cell.proofs.words.Words.close.Given as goal

abbrev pub invariant-loop-cell : goal.invariant-loop-cell
invariant-loop-cell l = record {
  wide : vec_len l.cells ≡ vec_len l.initial.cells;
  filled : (k : ℕ) → k < l.cell → cell_at l.cells.items k ≡ cell_of (word_at l.closed.words.items k) (word_at l.closed.words.items (l.count + k));
}
