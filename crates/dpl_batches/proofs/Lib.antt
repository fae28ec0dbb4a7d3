-- What serves contracts and proofs alone.
pub mod Rooms
pub mod FoldedTurns
pub mod Stores
pub mod StoreTurns
pub mod Kept
pub mod Found
