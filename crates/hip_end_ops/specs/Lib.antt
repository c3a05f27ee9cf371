pub mod Edged
pub mod Switched
