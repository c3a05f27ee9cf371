pub mod CallLaws
pub mod FreshSteps
pub mod Reaching
