pub mod BlockOps
pub mod Fronts
pub mod Scoped
pub mod Walks
