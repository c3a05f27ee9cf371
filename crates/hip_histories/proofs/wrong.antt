pub mod DroppedFlush
pub mod EarlyClone
pub mod LeftLoose
pub mod ShortClone
