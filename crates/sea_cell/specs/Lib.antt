pub mod Answers
pub mod Cells
pub mod Conversion
pub mod Kinds
pub mod Predicates
pub mod Sizes
pub mod Words
