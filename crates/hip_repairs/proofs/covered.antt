pub mod CloneFlushed
pub mod Moves
pub mod SinceCall
pub mod Copies
pub mod CalledClones
pub mod FencedCalls
pub mod HoistsFenced
