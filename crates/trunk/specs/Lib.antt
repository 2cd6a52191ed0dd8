pub mod Trunk
