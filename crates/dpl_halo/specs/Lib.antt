-- What halos and loans are: parts of an array's elements.
-- The files stand in reading order: first what a reader has to believe, and then what serves the code.
pub mod Listed
pub mod Shifts
pub mod Halos
pub mod Loans
-- From here on: what serves contracts and proofs alone. How elements are gathered and kept.
pub mod Turns
pub mod Gathering
pub mod GatheredFields
