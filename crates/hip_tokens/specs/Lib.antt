pub mod Bytes
pub mod Tokens
pub mod Seen
pub mod Longest
pub mod Formed
pub mod Lines
pub mod Cuts
pub mod Written
