pub mod Tables
pub mod Layout
pub mod Ends
pub mod Changes
