-- The grammar of programs and what tokens spell or are refused for, in reading order: all of it is to be believed.
pub mod Nested
pub mod Expressions
pub mod Declarations
pub mod Statements
pub mod Grammar
pub mod Theorem
-- What is true of each tree that tokens spell, which serves contracts and proofs alone.
pub mod Spelt
-- What serves contracts and proofs alone.
pub mod Reading
pub mod Parts
