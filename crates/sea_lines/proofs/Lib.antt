pub mod LinesOf
pub mod LinesBuffer
pub mod LinesSteps
pub mod LinesLaws
