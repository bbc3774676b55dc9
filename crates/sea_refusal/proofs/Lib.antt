pub mod Filtered
pub mod Repeats
