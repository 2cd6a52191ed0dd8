pub mod Figure7
