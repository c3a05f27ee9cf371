-- What a run finds: reports, and the marks by which sites are scored.
pub mod Marks
pub mod Objects
pub mod Reports
pub mod Scores
pub mod Tags
pub mod WellFormed
