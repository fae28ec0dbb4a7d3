-- The lemmas of scripts.
pub mod Playing
