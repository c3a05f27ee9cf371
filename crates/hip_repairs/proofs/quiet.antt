pub mod OutsideAddresses
pub mod AssignedOnce
pub mod StackRegisters
pub mod QuietStores
