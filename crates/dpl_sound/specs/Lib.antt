-- What type soundness says, in reading order. It serves contracts and proofs alone: it is no part of the language, and none of it is to be believed.
pub mod Formed
pub mod Typed
-- The environment by names: stores that have what the scopes declare.
pub mod Stores
pub mod Runs
