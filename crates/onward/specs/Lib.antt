pub mod Onward
pub mod Sent
