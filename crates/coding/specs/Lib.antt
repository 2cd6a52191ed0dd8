pub mod Coding
pub mod Noise
pub mod Tables
