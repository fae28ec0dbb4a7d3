-- All of it serves contracts and proofs alone: how programs run, and not what they mean.
-- Variables, memory, and what the language's meaning asks of them.
pub mod Memory
-- What locales own of a memory's arrays.
pub mod Pieces
-- Programs whose names are resolved, where a name may stand in them, and the store that a memory is.
pub mod Resolved
