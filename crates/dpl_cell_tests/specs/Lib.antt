-- What the clients of boards promise: `Counting` of tasks that count up in one cell, `Passing` of tasks that pass values on.
pub mod Counting
pub mod Passing
