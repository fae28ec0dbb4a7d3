-- What trees in memory stand for.
pub mod View
pub mod Declarations
pub mod Statements
