-- What was read and run, and writes that are cut off.
mod Reading
mod Writing
