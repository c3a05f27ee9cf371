pub mod Tables
pub mod Directories
