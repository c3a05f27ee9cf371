pub mod Openers
pub mod Streams
