pub mod Counts
pub mod MendingTests
pub mod Reasons
pub mod Union
