pub mod Cabinets
pub mod Counts
pub mod Fakes
pub mod Reads
pub mod Sinks
pub mod Laws
