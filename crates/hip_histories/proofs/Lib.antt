pub mod Corresponding
pub mod Rounds
pub mod Repairs
pub mod OneEnd
pub mod Covering
pub mod SameSteps
pub mod wrong
