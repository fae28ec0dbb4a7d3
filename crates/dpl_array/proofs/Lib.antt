-- What is proved of arrays beside the code.
-- The lemmas, a file for each subject; the files in folders answer the goals of one function each.
pub mod RowLemmas
pub mod ElementLemmas
pub mod DistinctLemmas
pub mod PieceLemmas
pub mod UnionLemmas
pub mod HeldLemmas
pub mod SameLemmas
mod Worked
pub mod WalkLemmas
pub mod WindowLemmas
pub mod Behind
pub mod InRows
pub mod RunLemmas
pub mod PutLemmas
pub mod ReaderLemmas
