pub mod Compared
pub mod Copied
