-- What a verdict tells where it gives a type, and what a result is where it is no fault.
pub mod Given
pub mod Results
-- What operators give; chains; ranges and domains; names; what stands behind a base.
pub mod Operators
pub mod Chains
pub mod Ranges
pub mod Names
pub mod Posts
-- Type soundness.
pub mod Sound
pub mod Outcomes
pub mod Known
-- The environment by names.
pub mod Stores
pub mod Changes
pub mod Sides
pub mod Initial
pub mod Wholes
pub mod Declarations
pub mod Unbroken
pub mod Loops
-- Worked rows.
pub mod Rows
