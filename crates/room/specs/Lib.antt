pub mod Plain
pub mod Waiting
pub mod Rules
pub mod Parts
