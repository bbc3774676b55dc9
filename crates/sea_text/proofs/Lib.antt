pub mod DistinctLaws
pub mod NamesLaws
pub mod PlacesLaws
pub mod ChangesLaws
