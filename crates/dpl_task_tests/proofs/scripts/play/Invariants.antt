-- `play`: what the seat's number has done so far is the first part of the script's run.
-- The seat stays one of the board, with its number.
use Rattle.std.proofs.Common.{drop, length}
use Rattle.dpl_history.specs.Histories.{of_task}
use Rattle.dpl_cell.specs.Seats.{IsSeatOf}
use Rattle.dpl_cell.specs.Calls.{KeepsNumbers}
use Rattle.dpl_task_tests.proofs.Playing.{GoesOn}
use Rattle.dpl_task_tests.proofs.scripts.play.Given as goal

abbrev pub invariant-loop-deed : goal.invariant-loop-deed
invariant-loop-deed l = record {
  own : IsSeatOf l.board l.seat;
  numbers : KeepsNumbers l.initial.seat l.seat;
  goes : GoesOn (length l.board.opening) l.script (of_task l.initial.seat.number l.seat.history) (drop l.deed-index l.script) l.value;
}
