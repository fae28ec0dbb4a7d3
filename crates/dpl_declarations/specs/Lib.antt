-- Which declarations run.
pub mod Plain
-- What serves contracts and proofs alone.
pub mod Told
pub mod Apart
pub mod Trees
pub mod Made
