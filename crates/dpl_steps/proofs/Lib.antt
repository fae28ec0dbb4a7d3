pub mod Looping
pub mod Tested
pub mod Refusing
pub mod Contexts
-- Walks: what is calm, a fault that is told, and loops by their turns.
pub mod CalmForms
pub mod Telling
pub mod Walked
