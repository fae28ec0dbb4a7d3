pub mod Steps
pub mod Indices
pub mod Parts
