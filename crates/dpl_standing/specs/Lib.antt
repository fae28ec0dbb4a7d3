-- What serves contracts and proofs alone: where statements stand, and which may stand there; and which array they write first.
pub mod Standing
pub mod Written
