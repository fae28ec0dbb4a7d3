pub mod Kept
pub mod EmptySlots
pub mod Redomained
pub mod Dealing
pub mod OwnShares
