-- Whose map deals out the indices of a reduction; and which entries the reductions of an expression ask for.
pub mod Reducing
pub mod Reductions
pub mod Arguments
-- The meanings of expressions, which contracts name.
pub mod Meanings
-- What a team tells of a reduction.
pub mod Teams
-- What serves contracts and proofs alone.
pub mod Bounds
pub mod Elements
