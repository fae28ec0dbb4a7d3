-- What serves contracts and proofs alone: what is known of names, how a lowered tree is put together, and lowered trees.
pub mod Known
pub mod Shapes
pub mod LoweredExpressions
pub mod LoweredStatements
