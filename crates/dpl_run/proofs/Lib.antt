-- What is left at a program's end.
pub mod Collecting
-- A run of a plan is what its program means.
pub mod Planned
pub mod Standing
pub mod Ends
pub mod Meaning
pub mod Stages
pub mod Elsewhere
pub mod Runnable
pub mod Walking
pub mod Declared
-- By which array's map turns are dealt out is what the rules say.
pub mod FirstWritten
pub mod OuterArrays
-- The foralls that a run enters are those of the program's run by names, and their turns are dealt out by the definition's map.
pub mod EnteredAlike
pub mod EnteredLowered
pub mod ForallsStand
pub mod TurnsMap
-- A run that keeps a record of its foralls has on it those that it enters: so what is counted is what is dealt out.
pub mod RecordKept
pub mod Recorded
pub mod CountedAt
pub mod Dealt
-- Maps and roots change nothing of what a program writes, and of how it ends (read MapsForgotten last).
pub mod SeenAlike
pub mod ButForRoots
pub mod MapsForgotten
