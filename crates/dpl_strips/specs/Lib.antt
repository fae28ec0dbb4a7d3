-- Ints of several indices at once, and truth values.
pub mod Strips
pub mod Truths
