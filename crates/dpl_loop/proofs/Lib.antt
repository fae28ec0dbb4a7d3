-- Runs one after another that end early; and the turns of a loop, one by one.
pub mod Ends
pub mod Order
-- Lists by places, and the indices of a range.
pub mod Places
pub mod Lines
pub mod Folding
