pub mod Tray
pub mod Parts
pub mod Turns
