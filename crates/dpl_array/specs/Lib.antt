-- What an array is: a finite map from indices to values.
-- The files stand in reading order: first what a reader has to believe, and then what serves the code.
pub mod Elements
pub mod Same
pub mod Arrays
-- From here on: what serves contracts and proofs alone. How the elements of a piece are kept.
pub mod Rows
pub mod PieceFields
pub mod PiecesFields
pub mod WalkFields
pub mod Windows
pub mod Spans
pub mod ReaderFields
