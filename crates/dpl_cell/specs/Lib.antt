-- The definitions that the contracts cite. They stand on the cells, histories and looks of dpl_history.
-- First what a reader has to believe: what is seen of a board and of a seat, and what the calls make of a seat.
pub mod Seats
pub mod Calls
-- The rest serves the model of a seat and the private functions alone: how all of it is kept.
pub mod Rule
pub mod Steps
pub mod Shown
