pub mod IndexLaws
pub mod LookLaws
pub mod PairsLaws
pub mod RemovalLaws
pub mod RowsLaws
pub mod SidesLaws
