pub mod Extents
pub mod Made
pub mod ResolvedProgram
