-- Where a text ends, what a writer took of bytes, what is listed of a variable, and which names marks declare.
pub mod LineEnds
pub mod Taking
pub mod Empty
pub mod Dumped
pub mod MarkedNames
