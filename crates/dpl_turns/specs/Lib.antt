-- What serves contracts and proofs alone: which turns may be made apart, and how two memories go along in a turn.
pub mod Bodies
pub mod Wholes
pub mod Typed
pub mod Alongside
