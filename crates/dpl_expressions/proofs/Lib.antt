pub mod Levels
pub mod Lists
pub mod Tokens
