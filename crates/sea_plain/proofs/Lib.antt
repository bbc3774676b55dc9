pub mod Found
pub mod Gone
pub mod Joining
pub mod Linkless
pub mod Numbers
pub mod Stamps
