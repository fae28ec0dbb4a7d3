-- What serves contracts and proofs alone.
pub mod Forms
pub mod Built
pub mod SoFar
pub mod Inside
