pub mod Failures
pub mod Laws
pub mod LoadedPrograms
pub mod Outside
