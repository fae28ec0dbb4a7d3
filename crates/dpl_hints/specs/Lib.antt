-- Of which rows a hint is.
pub mod Hints
