pub mod Showing
pub mod Unbroken
pub mod Printing
pub mod Doing
