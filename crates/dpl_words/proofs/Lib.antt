-- Values of a kind, as words keep them.
pub mod OfKind
