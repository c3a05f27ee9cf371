pub mod Headers
pub mod Meets
pub mod Going
pub mod Rooms
pub mod Quietly
pub mod StepEntries
