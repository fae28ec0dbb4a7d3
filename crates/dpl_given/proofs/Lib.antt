-- No two names in sight have one slot.
pub mod Slots
-- So by slots a name is given what it is given by its text.
pub mod Alike
