-- What statements are read as where they stand.
pub mod Readings
-- Which array they write first, by its slot.
pub mod Written
