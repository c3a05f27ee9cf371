pub mod Histories
pub mod NoHarm
pub mod SameSteps
pub mod WholeRuns
pub mod Chains
pub mod CrashSafe
pub mod examples
