-- A lexer that computes, and that it finds the tokens of the definition.
pub mod Lexer
pub mod Lexed
-- What is computed of a text, and what that says of it.
pub mod Texts
-- Rows: what texts are refused for, one or a few for each rule.
pub mod Names
pub mod Expressions
pub mod Statements
pub mod Foralls
pub mod Depth
pub mod Bytes
pub mod RulesNames
pub mod RulesTypes
pub mod RulesLoops
-- Rows: what texts write, and which word of them does not run.
pub mod Closed
pub mod Runs
pub mod Grammar
pub mod Corners
pub mod Budgets
pub mod Orders
-- Rows: by which roots texts deal out their domains and arrays.
pub mod Roots
-- Rows: how many elements texts read that other locales own.
pub mod Exchange
