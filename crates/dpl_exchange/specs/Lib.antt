-- The count of remote elements: to be believed, beside the language and its maps.
pub mod Counts
