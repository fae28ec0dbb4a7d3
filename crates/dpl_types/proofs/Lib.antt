pub mod Breaches
pub mod Unbroken
