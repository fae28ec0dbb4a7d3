-- The trees: what is spelled.
pub mod Tree
-- What programs mean, in reading order: all of it is to be believed.
pub mod Values
pub mod Arithmetic
pub mod Ranges
pub mod Printing
pub mod Outcome
pub mod Distributions
pub mod Environment
pub mod Phrases
pub mod Expressions
pub mod Loops
pub mod Assignments
pub mod Declarations
pub mod Roots
pub mod Writing
pub mod Tasks
pub mod Statements
pub mod Names
pub mod Program
pub mod Together
-- What serves contracts and proofs alone: what is true of each tree that a text spells.
pub mod Spelled
