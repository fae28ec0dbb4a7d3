-- What is printed, and how what was printed grows by it.
pub mod Texts
