-- Which heads run, and what is made of them.
pub mod Plain
pub mod Made
-- What serves contracts and proofs alone.
pub mod Told
pub mod Seen
pub mod Listed
