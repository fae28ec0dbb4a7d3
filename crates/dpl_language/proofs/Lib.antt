-- Worked rows: what sample programs write, computed from the definitions; and the samples, as trees.
pub mod Spelled
pub mod Says
pub mod ScalarsSamples
pub mod Scalars
pub mod ArraysSamples
pub mod Arrays
pub mod FaultsSamples
pub mod Faults
pub mod TasksSamples
pub mod Tasks
pub mod Together
