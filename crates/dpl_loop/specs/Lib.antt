-- How a loop or a run answers, by how the language's meaning ends; and which entries a gate may refuse of a loop.
pub mod Runs
pub mod Entries
pub mod Values
pub mod Folds
-- What serves contracts and proofs alone.
pub mod Tells
