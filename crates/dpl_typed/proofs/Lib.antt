pub mod Names
pub mod Standing
pub mod Steps
