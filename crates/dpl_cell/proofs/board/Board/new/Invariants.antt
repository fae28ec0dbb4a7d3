-- `Board::new`: the seats before the loop's number are dealt, and the rest of the numbers are left.
-- There is room for all of them.
use Rattle.std.proofs.Common.{◌≡◌, ℕ, ◌+◌, ◌≤◌, [], Some, slice_get, vec_len}
use Rattle.std.specs.Vec.{vec_capacity}
use Rattle.dpl_cell.specs.Seats.{SeatValue}
use Rattle.dpl_cell.specs.Shown.{shown_seat}
use Rattle.dpl_cell.proofs.Opening.{first_view_from, fresh_view}
use Rattle.dpl_cell.proofs.board.Board.new.Given as goal

abbrev pub invariant-loop-number : goal.invariant-loop-number
invariant-loop-number l = record {
  own : l.rest.table_id ≡ l.words.table.shared.table_id;
  rest : l.rest.me ≡ (first_view_from l.words.table.shared.key l.number, []);
  count : vec_len l.seats ≡ l.number;
  room : l.fn.tasks + 1 ≤ vec_capacity l.seats;
  seats : (k : ℕ) (s : SeatValue) → slice_get l.seats.items k ≡ Some s → s ≡ shown_seat l.words.table.shared.table_id (fresh_view l.words.table.shared.key k);
}
