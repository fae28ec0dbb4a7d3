-- Which prints run.
pub mod Plain
-- What serves contracts and proofs alone.
pub mod Told
pub mod Made
pub mod Done
