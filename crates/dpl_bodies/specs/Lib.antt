-- What serves contracts and proofs alone.
pub mod View
pub mod Intents
pub mod Promoted
pub mod Written
