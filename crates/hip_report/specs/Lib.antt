pub mod TrackerView
pub mod EndOfRun
pub mod BeforeStep
pub mod StepsToEvent
pub mod StandingCalls
