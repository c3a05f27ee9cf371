pub mod Demonstrating
pub mod Generating
pub mod Inputs
pub mod Replaying
pub mod Showing
mod OneDemo
