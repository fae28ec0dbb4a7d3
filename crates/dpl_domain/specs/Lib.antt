-- What contracts and proofs of the code speak of; a domain's list, its slices and its expansions are definitions of dpl_sets.
pub mod Ranks
pub mod DimensionFields
pub mod DomainFields
pub mod Moved
pub mod Progression
pub mod Cursor
