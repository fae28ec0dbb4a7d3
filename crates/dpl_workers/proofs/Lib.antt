-- The turns of workers, what they take and leave, and how all is put together.
pub mod OwnIndices
pub mod Workers
pub mod FormedMemories
pub mod WorkerEnds
pub mod Foralls
pub mod SoleParts
pub mod TakenApart
pub mod Intents
pub mod JobShares
pub mod Staying
pub mod Back
-- The folds of parts, and strides within a row.
pub mod Between
pub mod Folds
pub mod OwnFolds
pub mod PartFolding
