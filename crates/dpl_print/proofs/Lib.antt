pub mod Shown
pub mod Writing
pub mod Growing
pub mod ShownArrays
