-- Two memories that go along in a turn, and what that makes of turns.
pub mod Lists
pub mod Ends
pub mod Begins
pub mod Quiet
-- What a turn may do with names.
pub mod Added
pub mod Scoped
-- Whole arrays.
pub mod Wholes
-- Bodies.
pub mod Bound
pub mod Silent
pub mod Bodies
pub mod Typed
pub mod Steps
-- Rows.
pub mod Worked
pub mod WorkedTurns
