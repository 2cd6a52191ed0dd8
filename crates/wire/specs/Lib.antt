pub mod Across
pub mod Wire
