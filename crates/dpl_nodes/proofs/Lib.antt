pub mod Underived
pub mod Items
pub mod Methods
pub mod Evaluated
pub mod Rows
pub mod Unread
pub mod Promotions
pub mod Chains
