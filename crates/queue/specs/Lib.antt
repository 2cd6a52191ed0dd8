pub mod Calls
pub mod Sequence
