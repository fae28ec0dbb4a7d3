-- The nine operators of reductions put values together in whatever order.
pub mod Bits
pub mod Operators
pub mod ReduceWords
-- A loop is what its parts come to, merged.
pub mod Indices
pub mod Split
pub mod Parts
pub mod Folds
pub mod Places
-- Turns that keep apart, over a state.
pub mod InOrder
pub mod Located
pub mod AnyOrder
-- Turns over memories.
pub mod Memories
pub mod Foralls
-- Workers.
pub mod Shares
pub mod Rejoined
pub mod SharedForalls
pub mod Least
pub mod Workers
pub mod Collected
-- Rows.
pub mod Worked
pub mod WorkedForalls
pub mod WorkedWorkers
