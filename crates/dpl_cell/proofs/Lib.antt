-- The lemmas, from plain lists up to the steps of a board and what its calls tell.
pub mod Numbers
pub mod Views
pub mod Looking
pub mod Taking
pub mod Writing
pub mod Publishing
pub mod Splitting
pub mod Joining
pub mod Closing
pub mod Opening
pub mod Telling
pub mod SeatLists
