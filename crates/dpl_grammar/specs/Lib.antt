-- Languages of tokens, rules that denote them, and what a parse says of tokens.
pub mod Numbers
pub mod Classes
pub mod Language
pub mod Rule
pub mod Parsing
-- What serves contracts and proofs alone.
pub mod Reader
pub mod Laws
pub mod Same
pub mod Reading
pub mod Gives
pub mod Each
