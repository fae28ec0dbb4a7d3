-- What a command line means.
pub mod CommandLine
-- Why it gives no settings, which serves the clauses.
pub mod Causes
-- With which status the process then ends.
pub mod Statuses
