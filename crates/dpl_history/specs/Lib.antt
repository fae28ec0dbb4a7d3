-- The definitions, in reading order: cells, histories and looks. All of them are to be believed.
pub mod Cells
pub mod Histories
pub mod Looks
-- The values that a cell hands on: they serve the clause `channels` of `close` (dpl_cell) alone.
pub mod Values
