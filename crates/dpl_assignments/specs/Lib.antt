-- Which assignments run.
pub mod Plain
-- What serves contracts and proofs alone.
pub mod Around
pub mod Told
pub mod Takes
pub mod Made
pub mod Overs
