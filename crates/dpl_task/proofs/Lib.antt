-- The lemmas of levels of threads, and of what their tasks come to together.
pub mod Levels
pub mod Gathering
