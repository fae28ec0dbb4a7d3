-- The language: tokens, the text of which they are, texts without tokens, and the lines that tell.
pub mod Tokens
pub mod Gaps
pub mod Text
pub mod Refused
pub mod Places
pub mod Lines
-- What serves contracts and proofs alone.
pub mod Stops
