mod CountLemmas
pub mod Decided
mod OneUnion
mod Unions
