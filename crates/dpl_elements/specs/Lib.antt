-- Which entries a gate may refuse of an assignment to a whole array.
pub mod Refusals
-- The turns of an assignment to a whole array.
pub mod Wholes
-- What serves contracts and proofs alone.
pub mod Changes
pub mod Arrays
pub mod Turns
pub mod Rows
