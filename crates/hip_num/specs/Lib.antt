pub mod Arithmetic
pub mod Casts
pub mod Comparisons
pub mod Texts
pub mod Laws
