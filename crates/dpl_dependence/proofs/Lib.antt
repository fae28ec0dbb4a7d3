pub mod Expressions
pub mod Slots
pub mod Statements
