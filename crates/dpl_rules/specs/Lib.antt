-- The rules that a program keeps beyond its grammar, in reading order: all of it is to be believed.
pub mod Types
pub mod Verdicts
pub mod Places
pub mod Sights
pub mod Operators
-- What expressions do, which loops around them may forbid, and which C9 asks of promoted ones.
pub mod Deeds
pub mod Expressions
pub mod Maps
pub mod Declarations
pub mod Assignments
pub mod Loops
-- What loops may do: what a body does, the rules on it, where foralls stand, what is admitted, and which reads are shifted.
pub mod Doings
pub mod Bodies
pub mod Foralls
pub mod Admitted
pub mod AnyOrder
pub mod Shifts
-- The walk over a program, its first breach, and its refusal.
pub mod Breaches
pub mod Sound
