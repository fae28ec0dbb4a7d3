-- The map that a text names: what it is as it is run.
pub mod Starts
pub mod Named
-- What serves contracts and proofs alone.
pub mod Told
pub mod Made
