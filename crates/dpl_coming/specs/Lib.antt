-- What a run takes of what is to come to it, and what it does one part after another.
pub mod Taken
-- Statements that see nothing of what is to come.
pub mod Calm
-- A memory in which foralls are noted.
pub mod Noting
-- What a walk over statements comes to; then what whoever answers an operation on a cell promises it.
pub mod Walks
pub mod Calls
