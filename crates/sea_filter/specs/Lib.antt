pub mod Comparison
pub mod Selection
