-- Which settings a meaning knows, what a program leaves, and how a refused run is told.
pub mod Settings
pub mod Names
pub mod Leaving
pub mod Refusals
-- What serves contracts and proofs alone.
pub mod Writers
