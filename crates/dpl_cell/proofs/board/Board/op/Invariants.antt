-- `op`: all tries so far missed.
-- After the first, the seat knows a legal history.
use Rattle.std.proofs.Common.{◌<◌}
use Rattle.dpl_history.specs.Histories.{Legal, AllUpTo}
use Rattle.dpl_cell.specs.Calls.{KeepsNumbers, Waited}
use Rattle.dpl_cell.specs.Seats.{IsSeatOf}
use Rattle.dpl_cell.proofs.board.Board.op.Given as goal

abbrev pub invariant-loop-made : goal.invariant-loop-made
invariant-loop-made l = record {
  own : IsSeatOf l.self l.seat;
  numbers : KeepsNumbers l.initial.seat l.seat;
  legal : 0 < l.made → Legal l.self.opening l.seat.history;
  ours : 0 < l.made → AllUpTo l.self.tasks l.seat.history;
  waited : Waited l.made l.initial.seat l.cell l.op l.seat;
}
