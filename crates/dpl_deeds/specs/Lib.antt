-- What serves contracts and proofs alone.
pub mod View
pub mod Parts
