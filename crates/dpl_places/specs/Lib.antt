-- What serves contracts and proofs alone: where statements stand, and places that rise.
pub mod Statements
pub mod Rising
