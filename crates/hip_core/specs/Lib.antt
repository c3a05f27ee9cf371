pub mod Puts
pub mod Room
pub mod Blocks
pub mod Placed
pub mod Below
pub mod Stands
pub mod Acts
pub mod PointerOperands
