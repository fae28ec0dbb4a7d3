-- Worked rows: the first breach of sample texts, computed from the definitions.
pub mod House
pub mod Rows
pub mod Lists
pub mod Runs
pub mod Limits
pub mod Shifted
-- A forall is admitted exactly where none of C6 to C9 is broken in its body, and the foralls of a sound program are admitted.
pub mod Admission
pub mod Soundness
-- The breach that is told is one of the breaches, and none of them is before it.
pub mod First
-- A scope that is left is as it was entered.
pub mod Left
