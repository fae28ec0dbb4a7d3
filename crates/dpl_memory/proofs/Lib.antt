-- In a memory what is known of names is so.
pub mod Known
-- By names and in a memory alike (read MemoryAgrees last).
pub mod Elements
pub mod OfKind
pub mod InSight
pub mod OverShapes
pub mod Shapes
pub mod Domains
pub mod Wholes
pub mod Roots
pub mod Cells
pub mod MemoryAgrees
-- How a program is seen to fit, and samples.
pub mod Suiting
pub mod Fitting
pub mod ScalarsWorked
pub mod Worked
pub mod Pieces
pub mod CellsWorked
