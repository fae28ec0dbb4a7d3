-- `close`: a cell that was used as a channel has handed its values on.
-- By the law of dpl_history.
use Rattle.std.proofs.Common.{subst}
use Rattle.dpl_history.specs.Histories.{Legal}
use Rattle.dpl_history.proofs.Values.{HandsOn-channel}
use Rattle.dpl_cell.specs.Seats.{BoardValue, SeatValue}
use Rattle.dpl_cell.proofs.board.Board.close.Goals as goal

pub returns-clause-channels : goal.returns-clause-channels
returns-clause-channels c = λ cell only.
    let s : SeatValue = c.args.seat in
    let seen = subst (λ (s : SeatValue). Legal s.board.opening s.history) c.seat.view_is c.close.ensures.legal.0 in
    let own = subst (λ (b : BoardValue). Legal b.opening s.history) c.requires.own seen in
    HandsOn-channel c.args.self.opening cell s.history own only
