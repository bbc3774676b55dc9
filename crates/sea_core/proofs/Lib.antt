pub mod Making
pub mod Standing
pub mod Editing
pub mod Alike
pub mod Gates
pub mod Found
pub mod Counting
