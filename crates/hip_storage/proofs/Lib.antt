pub mod Flushes
pub mod LowBytes
