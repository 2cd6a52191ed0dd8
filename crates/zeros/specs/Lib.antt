pub mod Parts
pub mod Zeros
