pub mod TupleLemmas
pub mod PlaceLemmas
pub mod ProgressionLemmas
pub mod CursorLemmas
pub mod ExpansionLemmas
pub mod OrderLemmas
pub mod EqualityLemmas
pub mod DistinctLemmas
