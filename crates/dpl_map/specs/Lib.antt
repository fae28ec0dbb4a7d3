-- Who owns an index, and so what a locale's part is: the language's definitions.
pub mod Places
pub mod Grids
pub mod Maps
pub mod Parts
-- From here on: what serves contracts and proofs alone. Indices between two others; how a part is cut, into how few domains and in what order they stand.
pub mod Boxes
pub mod Axes
pub mod Cuts
pub mod Counts
pub mod Orders
pub mod Blocks
pub mod Deals
pub mod GridFields
pub mod AxisFields
pub mod MapFields
