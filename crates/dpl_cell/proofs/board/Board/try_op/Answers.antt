-- `try_op`: a taking and a publishing are the operation done.
-- By `Telling`.
use Rattle.std.proofs.Common.{subst}
use Rattle.dpl_cell.specs.Seats.{SeatValue}
use Rattle.dpl_cell.specs.Calls.{Did}
use Rattle.dpl_cell.specs.Shown.{shown_seat}
use Rattle.dpl_cell.proofs.Telling.{Did-ends, IsReplyTo-ends}
use Rattle.dpl_cell.proofs.board.Board.try_op.Goals as goal

pub returns-in-Ok-clause-done : goal.returns-in-Ok-clause-done
returns-in-Ok-clause-done c =
    subst (λ (s : SeatValue). Did s c.args.cell c.args.op c.finish.result (shown_seat c.finish.new.token.table_id c.finish.new.token.me.0)) c.seat.view_is
    (Did-ends _ _ _ c.grab.new.token.me c.finish.new.token.me _ _ _ _ c.seat.invariant.2 c.in-Ok.ensures.told.1 c.finish.ensures.told)

pub returns-in-Ok-clause-reply : goal.returns-in-Ok-clause-reply
returns-in-Ok-clause-reply c = IsReplyTo-ends c.grab.new.token.me c.finish.new.token.me _ _ _ c.finish.ensures.told
