-- How locales are laid out, and which map a root gets: the language's definitions, in reading order.
pub mod Layouts
pub mod Roots
-- From here on: what serves contracts and proofs alone.
pub mod LayoutFields
pub mod RootMaps
