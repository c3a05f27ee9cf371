pub mod Asked
pub mod Kept
pub mod KeptAlong
pub mod Events
pub mod Cure
pub mod Mended
pub mod Cured
