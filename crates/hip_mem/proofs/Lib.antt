pub mod Fills
pub mod PageKeys
pub mod Clears
pub mod RamAreas
pub mod RamCalls
pub mod Starts
