pub mod Octets
pub mod Records
pub mod Sequence
