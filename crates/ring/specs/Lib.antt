pub mod Ring
pub mod Parts
