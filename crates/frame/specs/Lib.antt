pub mod Fields
pub mod Orders
pub mod Ignored
pub mod Calls
