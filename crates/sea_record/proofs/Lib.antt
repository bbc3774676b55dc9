pub mod Fields
pub mod Entries
pub mod Places
pub mod Sizes
