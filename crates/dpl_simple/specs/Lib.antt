-- How their parts answer, by how the language's meaning ends.
pub mod Runs
-- Where maps start that are named.
pub mod Starts
-- Which root a declared domain or array gets.
pub mod Lineages
-- Which entries a gate may refuse of an array's declaration.
pub mod Refusals
