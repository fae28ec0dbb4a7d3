-- Sample programs, and where their statements stand.
pub mod Worked
-- Parts of lists.
pub mod Parts
-- The tokens of a text stand at places that rise.
pub mod Tokens
-- The statements of a spelled tree stand where some of its tokens do, in their order: first for any grammar.
pub mod Taken
pub mod Spelled
-- So they rise, and so do the foralls among them.
pub mod Foralls
pub mod Programs
