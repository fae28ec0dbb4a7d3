-- The values that contracts speak of.
pub mod Range
pub mod Kinds
pub mod Parted
-- What only models, private calls and proofs speak of.
pub mod Flags
pub mod Parts
pub mod Domains
pub mod DomainFields
pub mod Arrays
pub mod Pieces
pub mod Dealt
pub mod Layout
