-- The meaning of the values of the code.
pub mod Answers
pub mod Arrivals
pub mod AssignedSeen
pub mod Carried
pub mod EndSeen
pub mod Inner
pub mod InstrSeen
pub mod NamesSeen
pub mod PhiSeen
pub mod RegistersSeen
pub mod Tables
pub mod TablesSeen
pub mod TargetsSeen
pub mod UsesSeen
