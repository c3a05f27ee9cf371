pub mod Whole
pub mod DirectSites
pub mod Suited
pub mod Grows
pub mod Walks
pub mod CloneNames
