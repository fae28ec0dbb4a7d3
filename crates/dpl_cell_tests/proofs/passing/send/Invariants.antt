-- `send`: so far the seat's number has put in the values before the loop's.
-- The seat stays one of the board, with its number.
use Rattle.std.proofs.Common.{take}
use Rattle.dpl_cell.specs.Seats.{IsSeatOf}
use Rattle.dpl_cell.specs.Calls.{KeepsNumbers}
use Rattle.dpl_cell_tests.specs.Passing.{sends, HasDone}
use Rattle.dpl_cell_tests.proofs.passing.send.Given as goal

abbrev pub invariant-loop-value : goal.invariant-loop-value
invariant-loop-value l = record {
  own : IsSeatOf l.board l.seat;
  numbers : KeepsNumbers l.initial.seat l.seat;
  sent : HasDone (sends l.initial.seat.number (take l.value-index l.values)) l.initial.seat l.seat;
}
