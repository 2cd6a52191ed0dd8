pub mod Arrival
pub mod Calls
pub mod Fill
pub mod Outcome
pub mod Read
pub mod Signal
