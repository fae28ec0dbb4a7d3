-- Ints that are folded onto a word, in turns that are made at once.
pub mod Folded
-- What turns leave in variables, kept back until all their statements are found.
pub mod Stores
-- The same for the lanes of a strip.
pub mod Lanes
