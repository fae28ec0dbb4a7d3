-- Which number a text is.
pub mod Numbers
-- What serves contracts and proofs alone.
pub mod Counts
pub mod Sets
