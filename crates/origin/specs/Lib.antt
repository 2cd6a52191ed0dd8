pub mod Burst
pub mod Send
pub mod Signal
