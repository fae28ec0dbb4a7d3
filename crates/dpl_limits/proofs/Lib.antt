pub mod Counting
pub mod Texts
