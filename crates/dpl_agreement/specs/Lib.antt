-- What serves contracts and proofs alone: trees with other names, which names a tree may use where, and when two environments agree.
pub mod Renamed
pub mod Scopes
pub mod Agreement
pub mod Untasked
