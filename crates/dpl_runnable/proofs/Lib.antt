-- Types that have kinds; and what holds of values by them.
pub mod Kept
pub mod Operands
pub mod Formed
pub mod Sights
pub mod Shaped
pub mod Fits
pub mod Overs
pub mod SuitedArrays
-- Expressions, and what stands behind declarations and in loops.
pub mod Expressions
pub mod Scopes
-- The parts of statements.
pub mod Owed
pub mod Arrays
pub mod Maps
pub mod Declared
pub mod Changes
pub mod Printed
pub mod Loops
-- Reduce variables, and what is known inside a forall.
pub mod Reduced
pub mod Around
-- Programs, and what the grammar says of them.
pub mod Statements
pub mod Spelled
pub mod Texts
-- What is in sight with names resolved, and what the command line owes it.
pub mod Scoped
pub mod Configs
pub mod Singles
-- The names of a program that runs resolve.
pub mod Headers
pub mod Turned
pub mod Fitting
pub mod Wholes
pub mod Suiting
pub mod Declaring
pub mod Changing
pub mod Resolving
-- And it is plain, so that the walk over it makes its steps.
pub mod Plain
