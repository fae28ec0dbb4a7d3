-- What serves contracts and proofs alone.
pub mod Insides
pub mod Heads
pub mod Nodes
