-- What serves contracts and proofs alone: what may stand in each turn of a forall.
pub mod Turns
