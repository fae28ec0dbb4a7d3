-- What is proved of layouts beside the code.
-- The lemmas, a file for each subject; the files in folders answer the goals of one function each.
pub mod CornerLemmas
pub mod SameLemmas
pub mod RootMapLemmas
mod Worked
