pub mod Answers
pub mod Cured
pub mod Laws
