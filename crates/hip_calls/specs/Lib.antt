pub mod Reach
pub mod Fresh
pub mod Meaning
pub mod Laws
