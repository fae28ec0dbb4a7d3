-- The shape of a name's values, and names resolved by the scopes where they stand.
pub mod Shapes
pub mod Sights
pub mod Bounds
-- What serves contracts and proofs alone.
pub mod Run
