-- What the command line sets.
pub mod Given
-- What serves contracts and proofs alone: what each name in sight of a program that runs is, what its statements are, and what each tree that is written is.
pub mod Kinds
pub mod Runnable
pub mod Written
pub mod InSight
