-- The lemmas, a file for each subject; the files in folders answer the goals of one function each.
pub mod Sizes
pub mod Slices
pub mod Expansions
pub mod Members
pub mod Words
pub mod PutLemmas
pub mod DealtLemmas
pub mod PieceWordLemmas
pub mod PartedLemmas
pub mod Rejoined
pub mod Spaced
pub mod Layouts
