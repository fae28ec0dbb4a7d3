-- The simulation theorem: two environments that agree step by step run every program alike (read Agreement last).
pub mod RunsAlike
pub mod RenamedParts
pub mod ExpressionsAlike
pub mod LoopsAlike
pub mod AssignmentsAlike
pub mod DeclarationsAlike
pub mod RootsAlike
pub mod Agreement
pub mod ProgramsAlike
-- Its premises can be met: by an environment and itself, or seen through other names, and by the language's own with
-- names spelled otherwise.
pub mod RenamedSame
pub mod AgreementWithItself
pub mod FreeNames
pub mod Respelled
pub mod Through
-- And by slots, of which each declaration in sight has one of its own (read SlotsAgree last).
pub mod Slots
pub mod SlotRoots
pub mod SlotDomains
pub mod SlotCells
pub mod SlotsAgree
pub mod SlotsSample
pub mod RenamedTwice
-- And what a program without the words of tasks means doesn't hang on the number of locales (read LocalesFree last).
pub mod UntaskedValues
pub mod UntaskedRoots
pub mod UntaskedRuns
pub mod ContentsFree
pub mod StoresFree
pub mod LocalesFree
