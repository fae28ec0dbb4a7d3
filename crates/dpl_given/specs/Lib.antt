-- What sets give by slots.
pub mod Words
