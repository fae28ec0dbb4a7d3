-- The slots of declarations.
pub mod Slots
-- What serves contracts and proofs alone.
pub mod Types
pub mod View
pub mod Marks
pub mod Kept
