pub mod Gates
pub mod Moments
pub mod Pieces
pub mod RecordsLaws
pub mod Scanned
pub mod Uniqueness
