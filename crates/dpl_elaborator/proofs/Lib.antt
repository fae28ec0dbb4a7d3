pub mod Steps
pub mod Chains
pub mod Bases
pub mod Behind
pub mod Listed
pub mod Promoted
