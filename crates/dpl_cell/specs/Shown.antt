-- What a seat's token shows to the contracts: the number of its board's table, and of its view all but the cell that it
-- holds and what its last join came to.
use Rattle.std.specs.Prelude.{ℕ, List}
use Rattle.atomic_table.specs.Seated.{TableId}
use Rattle.dpl_history.specs.declared.cell.CellState.{CellState}
use Rattle.dpl_cell.specs.declared.view.View.{View}
use Rattle.dpl_cell.specs.Seats.{BoardValue, SeatValue}

-- the board of this table, with these opening cells and so many tasks
abbrev pub shown_board : TableId → List CellState → ℕ → BoardValue
shown_board id cs n = record { id = record { table = id }; opening = cs; tasks = n }

-- the seat whose token is of this table and has this view
abbrev pub shown_seat : TableId → View → SeatValue
shown_seat id v = record {
  board = shown_board id v.opening v.tasks;
  number = v.number;
  numbers = v.numbers;
  history = v.history;
  misses = v.misses;
}
