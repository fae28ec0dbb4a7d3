-- The status and the line on standard error, by what became of a text; by which settings it was run; what was read, run and told when the program ends.
pub mod Statuses
pub mod Asked
pub mod Ending
