pub mod Reductions
pub mod Inner
pub mod Same
pub mod Typed
pub mod Unbroken
pub mod Lows
pub mod Tuples
