pub mod Dates
pub mod Moment
