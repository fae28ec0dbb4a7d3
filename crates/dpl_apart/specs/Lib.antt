-- What serves contracts and proofs alone: what may be put together in any order; loops by their rows, and what their parts come to; turns
-- over a state that keep apart, and which turns over memories may be made apart.
pub mod Operands
pub mod Rows
pub mod Folds
pub mod Apart
pub mod Memories
pub mod Workers
