-- What serves contracts and proofs alone: the kinds of plain variables, and their words.
pub mod Words
