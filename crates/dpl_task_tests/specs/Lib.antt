-- What the scripts of the tests do by themselves.
pub mod Scripts
