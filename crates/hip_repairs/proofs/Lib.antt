pub mod functions
pub mod soundness
pub mod simulation
pub mod clean
pub mod quiet
pub mod covered
pub mod Theorems
pub mod worked
