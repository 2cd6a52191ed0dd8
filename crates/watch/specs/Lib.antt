pub mod Events
pub mod Numbers
pub mod Table
pub mod Texts
pub mod Watch
