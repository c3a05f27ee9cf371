pub mod GivenInput
pub mod InStep
pub mod Nexts
pub mod HeaderInput
pub mod ReadEntries
pub mod Refusals
pub mod Laws
pub mod Usuals
