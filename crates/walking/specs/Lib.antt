pub mod Text
pub mod Walk
pub mod Held
pub mod Stream
