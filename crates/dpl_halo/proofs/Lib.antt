-- What is proved of halos and loans beside the code.
-- The lemmas, a file for each subject; the files in folders answer the goals of one function each.
pub mod ListedLemmas
pub mod ChosenLemmas
pub mod GatherLemmas
pub mod ReadLemmas
pub mod SettleLemmas
mod Worked
mod TurnLemmas
mod ReachLemmas
