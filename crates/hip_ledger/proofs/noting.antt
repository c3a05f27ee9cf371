pub mod Assembled
pub mod CallsStay
pub mod LooseSteps
pub mod StandingCalls
pub mod Steps
pub mod Still
