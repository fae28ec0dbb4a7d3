-- What workers own, make and leave, how it is put together, and which of their ends is told.
pub mod Workers
pub mod Owned
pub mod Parts
pub mod Taken
pub mod Formed
pub mod Joined
pub mod Soonest
pub mod Foralls
pub mod PartFolds
