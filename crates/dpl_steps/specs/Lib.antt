-- Which entries a gate may refuse of a forall.
pub mod Refusals
-- The turns of loops, where foralls are noted.
pub mod Noted
-- What a context is made with, of the crates below.
pub mod Contexts
