-- The definitions that the contracts cite, on the histories of dpl_history and the task runs of dpl_language.
-- First what a reader has to believe: how ends are told, when tasks have run together, and what a task owes.
pub mod Ends
pub mod Together
pub mod Ran
-- What the levels of threads say to one another serves the private functions, but for the gate's entries.
pub mod Levels
