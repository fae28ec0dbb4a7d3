-- The plain trees that typed trees stand for; and what serves contracts alone.
pub mod Typed
pub mod Chains
pub mod Steps
pub mod Spots
pub mod Roots
