pub mod Constants
pub mod Growth
pub mod Names
pub mod Places
pub mod Sound
