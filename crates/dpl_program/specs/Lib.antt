-- How a program's loops end.
pub mod Making
-- What is known of what was done.
pub mod Printed
