-- `count_up`: so far the seat's number has done as many rounds as the loop has made.
-- The seat stays one of the board, with its number.
use Rattle.dpl_cell.specs.Seats.{IsSeatOf}
use Rattle.dpl_cell.specs.Calls.{KeepsNumbers}
use Rattle.dpl_cell_tests.specs.Counting.{HasCounted}
use Rattle.dpl_cell_tests.proofs.counting.count_up.Given as goal

abbrev pub invariant-loop-made : goal.invariant-loop-made
invariant-loop-made l = record {
  own : IsSeatOf l.board l.seat;
  numbers : KeepsNumbers l.initial.seat l.seat;
  counted : HasCounted l.made l.initial.seat l.seat;
}
