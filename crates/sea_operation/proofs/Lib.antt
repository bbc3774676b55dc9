pub mod Alike
pub mod Firsts
pub mod Found
pub mod Numbered
pub mod There
