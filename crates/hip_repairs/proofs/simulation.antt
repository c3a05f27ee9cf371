pub mod Facts
pub mod Ahead
pub mod Inserted
pub mod Pairs
pub mod Sim
pub mod Harm
