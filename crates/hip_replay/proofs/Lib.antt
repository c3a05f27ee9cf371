pub mod Followed
pub mod FollowedQuietly
pub mod Deliveries
pub mod Quietly
pub mod Silently
pub mod Outputs
pub mod TraceTexts
