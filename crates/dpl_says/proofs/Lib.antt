pub mod OneSaying
pub mod Untasked
pub mod HistoriesFree
pub mod Anywhere
pub mod Worked
