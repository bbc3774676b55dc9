pub mod Distinct
pub mod Named
