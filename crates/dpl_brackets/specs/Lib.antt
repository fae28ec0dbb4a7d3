-- What serves contracts and proofs alone.
pub mod Parts
