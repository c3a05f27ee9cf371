mod Local
mod Reported
mod Engines
mod Defined
mod Traces
pub mod Cuts
pub mod Lines
pub mod Sites
mod Names
mod Weights
mod LongLines
mod Sizes
mod Steps
mod Again
mod Weak
mod Ordered
