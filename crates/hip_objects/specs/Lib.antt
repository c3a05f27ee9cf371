pub mod Blocks
pub mod Globals
pub mod Order
