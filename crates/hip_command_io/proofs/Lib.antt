pub mod Failing
pub mod Longer
pub mod Recorded
pub mod Runs
pub mod Traces
