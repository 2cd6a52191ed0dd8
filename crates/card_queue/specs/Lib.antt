pub mod Queues
pub mod Parts
