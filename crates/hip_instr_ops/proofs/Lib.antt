pub mod CallOps
pub mod EffectOps
pub mod GepOps
pub mod Indices
pub mod ValueOps
