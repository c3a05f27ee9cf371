pub mod Applied
pub mod SuitsTest
pub mod Walked
pub mod DirectWalk
pub mod Walk
