pub mod Effects
pub mod Far
pub mod Fields
pub mod Kinds
pub mod Passed
