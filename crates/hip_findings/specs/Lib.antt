pub mod CallPaths
pub mod Shared
