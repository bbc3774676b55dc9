pub mod Bytes
pub mod Minutes
pub mod Memory
