-- Small trees, and where their statements may stand.
pub mod Worked
-- Other names in a tree, and lowering, change nothing.
pub mod Renamed
pub mod Lowered
-- What breaks no rule stands where it may, and so does a program.
pub mod Ruled
pub mod Programs
-- What statements write first is the same of other names and of lowered trees.
pub mod FirstWritten
-- Expressions and declarations write no array of a forall's.
pub mod Reading
