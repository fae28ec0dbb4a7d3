-- What a text comes to, and what a checked program does.
pub mod Headline
pub mod Programs
-- What serves contracts and proofs alone.
pub mod TopLevel
pub mod Runs
pub mod Plans
pub mod Elaborated
pub mod Refusing
-- Which foralls a run enters, and has on record where it keeps one; and by which map their turns are dealt out.
pub mod Entered
pub mod Recorded
pub mod Dealing
-- A program without its maps, and variables without roots.
pub mod Unmapped
