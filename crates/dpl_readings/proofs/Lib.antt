pub mod Views
-- Where they may stand they are read as the plain statements that they stand for.
pub mod Standing
