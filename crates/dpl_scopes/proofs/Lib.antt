mod Sights
mod Marks
mod Places
pub mod Slots
mod Worked
