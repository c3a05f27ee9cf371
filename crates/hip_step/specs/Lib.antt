pub mod Within
pub mod Pending
pub mod MachineState
pub mod Laws
pub mod Faults
