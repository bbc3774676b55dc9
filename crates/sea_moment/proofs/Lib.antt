pub mod DayNumbers
pub mod ReadAgain
