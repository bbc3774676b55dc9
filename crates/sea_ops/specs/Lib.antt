pub mod Beside
pub mod Operations
pub mod Texts
pub mod Straight
