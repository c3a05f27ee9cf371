-- Laws of the definitions.

pub mod Openings
pub mod Readings
pub mod RunSteps
