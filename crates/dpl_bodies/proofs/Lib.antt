pub mod Intents
pub mod Members
pub mod Keys
