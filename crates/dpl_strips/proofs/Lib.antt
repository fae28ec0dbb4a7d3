pub mod Strips
pub mod Paces
pub mod Truths
pub mod Targets
pub mod RowParts
