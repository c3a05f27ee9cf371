pub mod Slots
pub mod Operands
pub mod ValueLaws
pub mod GepLaws
pub mod MemoryLaws
pub mod MoveLaws
pub mod EndLaws
pub mod CallLaws
