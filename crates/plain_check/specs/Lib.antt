pub mod Bits
pub mod Check
