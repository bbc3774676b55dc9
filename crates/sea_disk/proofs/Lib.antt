pub mod Overlays
pub mod Before
pub mod Recorded
pub mod Images
