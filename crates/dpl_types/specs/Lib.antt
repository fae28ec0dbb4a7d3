-- What serves contracts and proofs alone.
pub mod View
pub mod Wants
pub mod Owes
