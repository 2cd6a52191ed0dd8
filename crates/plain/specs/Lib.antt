pub mod Forward
pub mod Read
pub mod Send
