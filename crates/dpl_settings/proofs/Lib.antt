-- Command lines, worked out.
pub mod Worked
-- Numbers as `parse` reads them.
pub mod Numbers
