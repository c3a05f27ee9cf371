pub mod RunRepairs
pub mod Spared
