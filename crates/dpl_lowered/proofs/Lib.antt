-- The parts: how lowered trees are put together, and what is seen of them without a state.
pub mod Nests
pub mod Seen
pub mod Bases
-- The laws: what a lowered tree means is what the tree means.
pub mod Values
pub mod Parts
pub mod Assignments
pub mod Declarations
pub mod Roots
pub mod Writing
pub mod Runs
pub mod Programs
-- Their premise can be met, whatever is known.
pub mod Knowing
-- A lowered tree is lowered to itself.
pub mod Formed
pub mod Twice
pub mod TwiceStatements
-- Rows that are worked out against the definitions.
pub mod Worked
