-- The parts of stores in the cache lines, and the history that they carry.
pub mod After
pub mod History
pub mod Order
pub mod Parts
pub mod Persistence
pub mod Shown
pub mod Since
