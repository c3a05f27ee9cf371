pub mod Contents
pub mod Calls
pub mod Fields
pub mod Represented
pub mod Laws
