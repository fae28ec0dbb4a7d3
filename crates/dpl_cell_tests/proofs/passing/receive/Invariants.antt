-- `receive`: so far the seat's number has taken out the values that it has got.
-- The seat stays one of the board, with its number.
use Rattle.dpl_cell.specs.Seats.{IsSeatOf}
use Rattle.dpl_cell.specs.Calls.{KeepsNumbers}
use Rattle.dpl_cell_tests.specs.Passing.{receives, HasDone}
use Rattle.dpl_cell_tests.proofs.passing.receive.Given as goal

abbrev pub invariant-loop-made : goal.invariant-loop-made
invariant-loop-made l = record {
  own : IsSeatOf l.board l.seat;
  numbers : KeepsNumbers l.initial.seat l.seat;
  received : HasDone (receives l.initial.seat.number l.got.items) l.initial.seat l.seat;
}
