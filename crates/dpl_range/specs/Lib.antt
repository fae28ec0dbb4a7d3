-- What contracts and proofs of the code speak of; a range's list, its slices and its limits are definitions of dpl_sets.
pub mod Congruence
pub mod Invariant
pub mod Walk
