pub mod Starting
pub mod Rooting
pub mod Gathered
pub mod ArrayItems
-- What an `if` does where foralls are noted.
pub mod Noted
