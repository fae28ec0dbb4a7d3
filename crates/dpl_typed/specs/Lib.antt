-- What a typed expression is of, and what it stands for; the leaf of a name; and which expressions are simple by their form.
pub mod Typed
pub mod Leaves
pub mod Simple
pub mod Lowered
-- What serves contracts and proofs alone.
pub mod Told
pub mod Stands
pub mod Where
