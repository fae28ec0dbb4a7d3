pub mod Sights
pub mod Sides
