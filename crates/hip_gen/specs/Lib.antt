pub mod Appends
pub mod Generated
pub mod Kinds
pub mod Laws
pub mod Lines
pub mod Read
